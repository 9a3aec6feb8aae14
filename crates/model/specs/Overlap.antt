-- When two boxes overlap (document 01, "Boxes as points"; source 001, condition 5; on quarters document 02, card 2).
--   OverlapOn a b        condition 5 on ranges of staff or doors
--   OverlapInTime a b    quarters: either begins before the other is over
--   Overlap a b          on staff, doors and quarters
--   overlap_on a b, overlap_in_time a b, overlaps a b   the same as tests; proofs/OverlapLaws joins them
-- Assumes nothing: these are definitions.
use Rattle.std.specs.Prelude.{◌≤◌, ◌<◌, Bool, ◌&&◌, leb, ltb}
use Rattle.model.specs.declared.Box.{Box}
use Rattle.model.specs.Interval.{Interval}
use Rattle.model.specs.Quarters.{Quarters}
use Rattle.model.specs.Box.{staff_of, doors_of, quarters_of}

-- a's from is at most b's to, and a's to at least b's from
pub record OverlapOn (a b : Interval) : Type 0 where
  pub starts : a.from ≤ b.to
  pub ends : b.from ≤ a.to

pub record OverlapInTime (a b : Quarters) : Type 0 where
  pub starts : a.from < b.to
  pub ends : b.from < a.to

pub record Overlap (a b : Box) : Type 0 where
  pub staff : OverlapOn (staff_of a) (staff_of b)
  pub doors : OverlapOn (doors_of a) (doors_of b)
  pub quarters : OverlapInTime (quarters_of a) (quarters_of b)

abbrev pub overlap_on : Interval → Interval → Bool
overlap_on a b = leb a.from b.to && leb b.from a.to

abbrev pub overlap_in_time : Quarters → Quarters → Bool
overlap_in_time a b = ltb a.from b.to && ltb b.from a.to

unfoldable pub overlaps : Box → Box → Bool
overlaps a b =
    overlap_on (staff_of a) (staff_of b) && overlap_on (doors_of a) (doors_of b) && overlap_in_time (quarters_of a) (quarters_of b)
