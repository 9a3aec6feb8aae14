use Rattle.pool.proofs.FreshSteps.{header_kept, free_turn, free-next, free-none, free_done}
use Rattle.pool.proofs.CellLaws.{length-with_cell}
use Rattle.pool.specs.Capacity.{pool_length}
use Rattle.pool.specs.Layout.{header_words}
use lib.ListN.{length, take, drop}
use native.Mathlib.Omega.{arith}
use mathlib.Core.Path.{refl, ap, ◌∙◌}
use Prim.Native.Nat.{◌-◌, ◌≤◌}
use borrow.Author.Rules.{rules}
use Rattle.pool.proofs.fresh.free_all.Goals as goal

pub loop-k-init : goal.loop-k-init
loop-k-init c =
    let long = c.requires.long in
    let n = free-none c.args.pool.now c.args.cells long in
    (search rules, long, n.0, n.1, refl)

pub loop-k-preserved : goal.loop-k-preserved
loop-k-preserved c =
    let l = c.loop-k in
    let i = l.invariant in
    let k = l.k in
    let pos = c.loop-k-test.true in
    let e = c.store_free.ensures in
    let long : pool_length k ≤ length l.pool = omega (arith, i.0, i.1) in (
      omega (arith, i.0),
      ap length e ∙ length-with_cell _ _ _ ∙ i.1,
      free-next _ _ pos i.0,
      ap (drop (pool_length (k - 1))) e ∙ free_turn _ _ _ _ pos i.0 long i.2 i.3,
      ap (take header_words) e ∙ header_kept _ _ _ refl pos long ∙ i.4,
    )

pub returns : goal.returns
returns c = let i = c.loop-k.invariant in (free_done _ _ _ (omega arith) i.3, i.4)
