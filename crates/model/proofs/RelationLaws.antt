-- Laws of how a grant stands to a box (specs/Relation).
--   holds_box_iff                          the test is the condition
--   apart_iff, touches_iff, holds_iff     when each answer of the three is given, on every two boxes
--   holds-overlaps                        holding a box that fault 2 lets through is overlapping it
--   taken-overlaps                        whatever the choice, what is taken overlaps
--   taken-touching                        touching takes what overlaps
--   taken_iff                             the test is the condition
--   taken_for_iff                          so the grants that list takes are those
-- Assumes nothing.
use Prim.Native.Nat.{ℕ, ◌≤◌}
use mathlib.Core.Logic.{◌↔◌}
use mathlib.Core.Path.{◌≡◌, refl, sym, ap, ◌∙◌}
use mathlib.Core.Bool.{Bool, true, false, cond, ◌&&◌, true≢false}
use mathlib.Core.List.{List, Memᴰ}
use native.Mathlib.Omega.{arith}
use lib.Dec.{T}
use Rattle.lists.proofs.TestLaws.{T-iff, T_and, both_le, le_both, mem_filter, filter_mem}
use Rattle.model.specs.declared.Box.{Box}
use Rattle.model.specs.declared.Grant.{Grant}
use Rattle.model.specs.declared.Relation.{Relation}
use Rattle.model.specs.declared.Relation.TheVariants.{Apart, Touches, Holds}
use Rattle.model.specs.declared.Choice.{Choice}
use Rattle.model.specs.declared.Choice.TheVariants.{Touching, Holding}
use Rattle.model.specs.Overlap.{Overlap, overlaps}
use Rattle.model.specs.Arguments.{reversed_box}
use Rattle.model.specs.Relation.{HoldsBox, holds_range, holds_box, relation_of, takes, Taken, taken}
use Rattle.model.specs.Book.{taken_for}
use Rattle.model.proofs.OverlapLaws.{overlaps_iff}
use Rattle.model.proofs.QuarterLaws.{forward_box}

holds_range_iff : (from to asked-from asked-to : ℕ) → T (holds_range from to asked-from asked-to) ↔ ((from ≤ asked-from) × (asked-to ≤ to))
holds_range_iff from to asked-from asked-to = (
  (λ t. both_le from asked-from asked-to to ((T-iff _).0 t)),
  (λ h. (T-iff _).1 (le_both from asked-from asked-to to h.0 h.1)),
)

pub holds_box_iff : (a b : Box) → T (holds_box a b) ↔ HoldsBox a b
unfolding holds_box
holds_box_iff a b =
    let staff = holds_range_iff a.staff_from a.staff_to b.staff_from b.staff_to in
    let doors = holds_range_iff a.door_from a.door_to b.door_from b.door_to in
    let quarters = holds_range_iff a.quarter_from a.quarter_to b.quarter_from b.quarter_to in
    let s = holds_range a.staff_from a.staff_to b.staff_from b.staff_to in
    let d = holds_range a.door_from a.door_to b.door_from b.door_to in
    let two = T_and s d in
    let three = T_and (s && d) (holds_range a.quarter_from a.quarter_to b.quarter_from b.quarter_to) in (
      (λ t.
          let r = three.0 t in
          let l = two.0 r.0 in
          record {
            staff-from = (staff.0 l.0).0;
            staff-to = (staff.0 l.0).1;
            door-from = (doors.0 l.1).0;
            door-to = (doors.0 l.1).1;
            quarter-from = (quarters.0 r.1).0;
            quarter-to = (quarters.0 r.1).1;
          }),
      (λ h.
          three.1
          (two.1 (staff.1 (h.staff-from, h.staff-to), doors.1 (h.door-from, h.door-to)), quarters.1 (h.quarter-from, h.quarter-to))),
    )

pub holds-overlaps : (a b : Box) → reversed_box b ≡ false → HoldsBox a b → Overlap a b
holds-overlaps a b e h =
    let f = forward_box b e in
    record {
      staff = record { starts = omega (arith, h.staff-from, f.staff); ends = omega (arith, h.staff-to, f.staff) };
      doors = record { starts = omega (arith, h.door-from, f.doors); ends = omega (arith, h.door-to, f.doors) };
      quarters = record { starts = omega (arith, h.quarter-from, f.quarters); ends = omega (arith, h.quarter-to, f.quarters) };
    }

-- the answer by the two tests
abbrev answer : Bool → Bool → Relation
answer o h = cond o (cond h Holds Touches) Apart

module _ (a b : Box) where
  overlap : {t : Bool} → overlaps a b ≡ t → (t ≡ true) ↔ Overlap a b
  overlap e = (λ i. (overlaps_iff a b).0 ((T-iff _).1 (e ∙ i)), λ o. sym e ∙ (T-iff _).0 ((overlaps_iff a b).1 o))

  holding : {t : Bool} → holds_box a b ≡ t → (t ≡ true) ↔ HoldsBox a b
  holding e = (λ i. (holds_box_iff a b).0 ((T-iff _).1 (e ∙ i)), λ h. sym e ∙ (T-iff _).0 ((holds_box_iff a b).1 h))

  unmet : overlaps a b ≡ false → Overlap a b → ⊥
  unmet e o = true≢false (sym ((overlap e).1 o))

  unheld : holds_box a b ≡ false → HoldsBox a b → ⊥
  unheld e h = true≢false (sym ((holding e).1 h))

  pub apart_iff : (relation_of a b ≡ Apart) ↔ (Overlap a b → ⊥)
  unfolding relation_of takes
  apart_iff = go (overlaps a b) (holds_box a b) refl
    where
      go : (o h : Bool) → overlaps a b ≡ o → (answer o h ≡ Apart) ↔ (Overlap a b → ⊥)
      go true true e = (λ i. absurd (true≢false (ap (takes Touching) i)), λ f. absurd (f ((overlap e).0 refl)))
      go true false e = (λ i. absurd (true≢false (ap (takes Touching) i)), λ f. absurd (f ((overlap e).0 refl)))
      go false h e = (λ i. unmet e, λ f. refl)

  pub touches_iff : (relation_of a b ≡ Touches) ↔ (Overlap a b × (HoldsBox a b → ⊥))
  unfolding relation_of takes
  touches_iff = go (overlaps a b) (holds_box a b) refl refl
    where
      go : (o h : Bool) → overlaps a b ≡ o → holds_box a b ≡ h → (answer o h ≡ Touches) ↔ (Overlap a b × (HoldsBox a b → ⊥))
      go true true e i = (λ j. absurd (true≢false (ap (takes Holding) j)), λ f. absurd (f.1 ((holding i).0 refl)))
      go true false e i = (λ j. ((overlap e).0 refl, unheld i), λ f. refl)
      go false h e i = (λ j. absurd (true≢false (sym (ap (takes Touching) j))), λ f. absurd (unmet e f.0))

  pub holds_iff : (relation_of a b ≡ Holds) ↔ (Overlap a b × HoldsBox a b)
  unfolding relation_of takes
  holds_iff = go (overlaps a b) (holds_box a b) refl refl
    where
      go : (o h : Bool) → overlaps a b ≡ o → holds_box a b ≡ h → (answer o h ≡ Holds) ↔ (Overlap a b × HoldsBox a b)
      go true true e i = (λ j. ((overlap e).0 refl, (holding i).0 refl), λ f. refl)
      go true false e i = (λ j. absurd (true≢false (sym (ap (takes Holding) j))), λ f. absurd (unheld i f.1))
      go false h e i = (λ j. absurd (true≢false (sym (ap (takes Touching) j))), λ f. absurd (unmet e f.0))

-- what list takes goes by the two tests alone
taken-by : (choice : Choice) (b : Box) (g : Grant) → taken choice b g ≡ takes choice (answer (overlaps g.bounds b) (holds_box g.bounds b))
unfolding relation_of
taken-by choice b g = refl

pub taken-overlaps : (choice : Choice) (b : Box) (g : Grant) → taken choice b g ≡ true → overlaps g.bounds b ≡ true
unfolding takes
taken-overlaps choice b g e = go choice (overlaps g.bounds b) (holds_box g.bounds b) (sym (taken-by choice b g) ∙ e)
  where
    go : (choice : Choice) (o h : Bool) → takes choice (answer o h) ≡ true → o ≡ true
    go choice true h i = refl
    go Touching false h i = absurd (true≢false (sym i))
    go Holding false h i = absurd (true≢false (sym i))

pub taken-touching : (b : Box) (g : Grant) → taken Touching b g ≡ overlaps g.bounds b
unfolding takes
taken-touching b g = taken-by Touching b g ∙ go (overlaps g.bounds b) (holds_box g.bounds b)
  where
    go : (o h : Bool) → takes Touching (answer o h) ≡ o
    go true true = refl
    go true false = refl
    go false h = refl

pub taken_iff : (choice : Choice) (b : Box) (g : Grant) → T (taken choice b g) ↔ Taken choice b g
unfolding takes
taken_iff Touching b g = rw (taken-touching b g) (overlaps_iff g.bounds b)
taken_iff Holding b g =
    rw (taken-by Holding b g) (go (overlaps g.bounds b) (holds_box g.bounds b) refl refl)
  where
    go : (o h : Bool) → overlaps g.bounds b ≡ o → holds_box g.bounds b ≡ h
        → T (takes Holding (answer o h)) ↔ (Overlap g.bounds b × HoldsBox g.bounds b)
    go true true e i = (λ t. ((overlap g.bounds b e).0 refl, (holding g.bounds b i).0 refl), λ f. tt)
    go true false e i = (λ t. absurd t, λ f. absurd (unheld g.bounds b i f.1))
    go false h e i = (λ t. absurd t, λ f. absurd (unmet g.bounds b e f.0))

pub taken_for_iff : (q : Box) (choice : Choice) (gs : List Grant) (g : Grant)
    → Memᴰ g (taken_for q choice gs) ↔ (Memᴰ g gs × Taken choice q g)
taken_for_iff q choice gs g =
    let test = T-iff (taken choice q g) in
    let same = taken_iff choice q g in (
      (λ m. let kept = filter_mem (taken choice q) gs g m in (kept.0, same.0 (test.1 kept.1))),
      (λ h. mem_filter (taken choice q) gs g h.0 (test.0 (same.1 h.1))),
    )
