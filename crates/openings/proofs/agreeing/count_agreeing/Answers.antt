use Prim.Native.Nat.{ℕ}
use mathlib.Core.Path.{ap, ◌∙◌}
use mathlib.Core.List.{List}
use native.Mathlib.Nat.{zero-add}
use native.Mathlib.Omega.{arith}
use lib.ListN.{length, get_or}
use Rattle.multisets.specs.Agreement.{agree}
use Rattle.openings.specs.Entry.{entry_at, entries_of}
use lib.Dec.{eqb, leb}
use Rattle.openings.proofs.EntryLaws.{from_bool_cond, from_bool_le}
use Rattle.openings.proofs.SortedLaws.{to_go, sorted_places-inside, agreeing_starts, agreeing_again, agreeing_few}
use Rattle.openings.proofs.SortedLaws.{agreeing_ends-left, agreeing_ends_right}
use Rattle.openings.proofs.agreeing.count_agreeing.Goals as goal

pub loop-i-init : goal.loop-i-init
loop-i-init c =
    let a = c.args in
    (omega arith, omega arith, zero-add (to_go a.door.now 0 a.panel.now 0) ∙ agreeing_starts a.door.now a.panel.now)

pub returns-else-j-panel_places : goal.returns-else-j-panel_places
returns-else-j-panel_places c =
    let l = c.loop-i in
    let door = c.args.door.now in
    let panel = c.args.panel.now in
    omega (arith, l.invariant.2, agreeing_ends_right door panel l.i l.j (omega (arith, ap length c.requires.1)))

pub entry_at-x-requires : goal.entry_at-x-requires
entry_at-x-requires c =
    let l = c.loop-i in
    rw (c.from.ensures, c.requires.0)
    (sorted_places-inside c.args.door.now l.i (omega (arith, ap length c.requires.0)))

pub entry_at-y-requires : goal.entry_at-y-requires
entry_at-y-requires c =
    let l = c.loop-i in
    rw (c.from-in-loop-i.ensures, c.requires.1)
    (sorted_places-inside c.args.panel.now l.j (omega (arith, ap length c.requires.1)))

pub overflow_add-agreeing : goal.overflow_add-agreeing
overflow_add-agreeing c =
    let l = c.loop-i in
    let one = from_bool_le (eqb c.entry_at-x.result c.entry_at-y.result) in
    omega (arith, l.invariant.2, agreeing_few c.args.door.now c.args.panel.now, c.from-agreeing.ensures, one, ap length c.requires.0)

pub loop-i-preserved : goal.loop-i-preserved
loop-i-preserved c =
    let l = c.loop-i in
    let door = c.args.door.now in
    let panel = c.args.panel.now in
    let x = c.entry_at-x in
    let y = c.entry_at-y in
    let place = c.from in
    let at_x = x.ensures ∙ ap (entry_at door) (place.ensures ∙ ap (λ (ps : List ℕ). get_or ps l.i 0) c.requires.0) in
    let ahead = from_bool_le (leb x.result y.result) in
    let behind = from_bool_le (leb y.result x.result) in
    let at_y = y.ensures ∙ ap (entry_at panel) (c.from-in-loop-i.ensures ∙ ap (λ (ps : List ℕ). get_or ps l.j 0) c.requires.1) in (
      omega (arith, c.from-i.ensures, ahead),
      omega (arith, c.from-j.ensures, behind),
      agreeing_again door panel l.i l.j l.agreeing (agree (entries_of door) (entries_of panel)) x.result y.result
          c.from-agreeing.result c.from-i.result c.from-j.result
          (omega (arith, ap length c.requires.0)) (omega (arith, ap length c.requires.1)) at_x at_y
          (c.from-agreeing.ensures ∙ from_bool_cond _) (c.from-i.ensures ∙ from_bool_cond _) (c.from-j.ensures ∙ from_bool_cond _) l.invariant.2,
    )

pub returns-after-loop-i : goal.returns-after-loop-i
returns-after-loop-i c =
    let l = c.loop-i in
    let door = c.args.door.now in
    let panel = c.args.panel.now in
    omega (arith, l.invariant.2, agreeing_ends-left door panel l.i l.j (omega (arith, ap length c.requires.0)))
