use Prim.Native.Nat.{ℕ}
use mathlib.Core.Path.{sym, ap, ◌∙◌}
use mathlib.Core.Bool.{cond}
use native.Mathlib.Omega.{arith}
use lib.Dec.{eqb}
use Rattle.multisets.proofs.MultiplicityLaws.{count_nil}
use Rattle.openings.proofs.EntryLaws.{count_turn, from_bool_cond, from_bool_le}
use Rattle.openings.proofs.left.count_among.Goals as goal

pub loop-i-init : goal.loop-i-init
loop-i-init c = (omega arith, sym (count_nil _))

pub loop-i-preserved : goal.loop-i-preserved
loop-i-preserved c =
    let l = c.loop-i in
    let a = c.args in
    let entry = c.entry_at in
    let adds = c.from-found.ensures ∙ from_bool_cond _ ∙ ap (λ (e : ℕ). cond (eqb e a.entry) 1 0) entry.ensures in
    let one = from_bool_le (eqb entry.result a.entry) in
    (omega (arith, c.from-found.ensures, one), omega (arith, adds, l.invariant.1, count_turn a.bytes.now l.i (omega arith) a.entry))
