-- The tests of specs/Overlap are its conditions.
--   held_iff                        a number lies in a closed range (specs/Interval)
--   overlap_on_iff, overlap_in_time_iff   on one range, and on quarters
--   overlaps_iff                    on all three
--   overlapping_iff                 so the grants that the book takes are those that overlap
-- Assumes nothing.
use Prim.Native.Nat.{ℕ, suc, ◌≤◌}
use mathlib.Core.Logic.{◌↔◌}
use mathlib.Core.Bool.{◌&&◌}
use mathlib.Core.List.{List, Memᴰ}
use lib.Dec.{T}
use Rattle.lists.proofs.TestLaws.{T-iff, T_and, both_le, le_both, mem_filter, filter_mem}
use Rattle.model.specs.declared.Box.{Box}
use Rattle.model.specs.declared.Grant.{Grant}
use Rattle.model.specs.Interval.{Interval, holds}
use Rattle.model.specs.Quarters.{Quarters}
use Rattle.model.specs.Box.{staff_of, doors_of, quarters_of}
use Rattle.model.specs.Overlap.{OverlapOn, OverlapInTime, Overlap, overlap_on, overlap_in_time, overlaps}
use Rattle.model.specs.Book.{overlapping}

pub held_iff : (i : Interval) (x : ℕ) → T (holds i x) ↔ ((i.from ≤ x) × (x ≤ i.to))
held_iff i x = (
  (λ t. both_le i.from x x i.to ((T-iff (holds i x)).0 t)),
  (λ h. (T-iff (holds i x)).1 (le_both i.from x x i.to h.0 h.1)),
)

pub overlap_on_iff : (a b : Interval) → T (overlap_on a b) ↔ OverlapOn a b
overlap_on_iff a b = (
  (λ t. let both = both_le a.from b.to b.from a.to ((T-iff _).0 t) in record { starts = both.0; ends = both.1 }),
  (λ o. (T-iff _).1 (le_both a.from b.to b.from a.to o.starts o.ends)),
)

pub overlap_in_time_iff : (a b : Quarters) → T (overlap_in_time a b) ↔ OverlapInTime a b
overlap_in_time_iff a b = (
  (λ t. let both = both_le (suc a.from) b.to (suc b.from) a.to ((T-iff _).0 t) in record { starts = both.0; ends = both.1 }),
  (λ o. (T-iff _).1 (le_both (suc a.from) b.to (suc b.from) a.to o.starts o.ends)),
)

pub overlaps_iff : (a b : Box) → T (overlaps a b) ↔ Overlap a b
unfolding overlaps
overlaps_iff a b =
    let staff = overlap_on_iff (staff_of a) (staff_of b) in
    let doors = overlap_on_iff (doors_of a) (doors_of b) in
    let quarters = overlap_in_time_iff (quarters_of a) (quarters_of b) in
    let two = T_and (overlap_on (staff_of a) (staff_of b)) (overlap_on (doors_of a) (doors_of b)) in
    let three = T_and (overlap_on (staff_of a) (staff_of b) && overlap_on (doors_of a) (doors_of b)) (overlap_in_time (quarters_of a) (quarters_of b)) in (
      (λ t. let r = three.0 t in let l = two.0 r.0 in record { staff = staff.0 l.0; doors = doors.0 l.1; quarters = quarters.0 r.1 }),
      (λ o. three.1 (two.1 (staff.1 o.staff, doors.1 o.doors), quarters.1 o.quarters)),
    )

pub overlapping_iff : (q : Box) (gs : List Grant) (g : Grant) → Memᴰ g (overlapping q gs) ↔ (Memᴰ g gs × Overlap g.bounds q)
overlapping_iff q gs g =
    let test = T-iff (overlaps g.bounds q) in
    let same = overlaps_iff g.bounds q in (
      (λ m. let kept = filter_mem (λ h. overlaps h.bounds q) gs g m in (kept.0, same.0 (test.1 kept.1))),
      (λ h. mem_filter (λ h. overlaps h.bounds q) gs g h.0 (test.0 (same.1 h.1))),
    )
