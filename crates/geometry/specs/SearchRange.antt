-- What the walks search for (document 01, "Boxes as points" and "The walks of a call").
--   range_of_box b       list's box; decide's point is the box of that point. Staff and doors are closed: a from is at most the asked to, a to at
--                      least the asked from. Quarters are half-open (document 02, card 2): a from is below the asked to, a to above the asked from.
--                      A box that fault 2 lets through has a quarter to above 0
--   range_of_doors d     write and match: the doors, with the staff and quarter axes free
--   range_of_number n    grant and revoke: the number, with all other axes free
--   range_of_all         count: everything
--   OneSided q         what they have in common: nothing is asked of the low end of a from, nor of the high end of a to
-- Source 001's (8a) and (8b) have min and max exchanged; condition (5) decides.
-- Assumes nothing: these are definitions.
use Rattle.std.specs.Prelude.{ℕ, ◌+◌, ◌-◌, ◌≡◌, [], ◌∷◌}
use Rattle.model.specs.declared.Box.{Box}
use Rattle.model.specs.declared.Interval.{Interval}
use Rattle.geometry.specs.Width.{top_of}
use Rattle.geometry.specs.Region.{Region, range, free, root_region, low, high}

unfoldable pub range_of_box : Box → Region
range_of_box b =
    range 0 b.staff_to
    ∷ range 0 b.door_to
    ∷ range 0 (b.quarter_to - 1)
    ∷ range b.staff_from (top_of 3)
    ∷ range b.door_from (top_of 4)
    ∷ range (b.quarter_from + 1) (top_of 5)
    ∷ free 6
    ∷ []

unfoldable pub range_of_doors : Interval → Region
range_of_doors d =
    free 0 ∷ range 0 d.to ∷ free 2 ∷ free 3 ∷ range d.from (top_of 4) ∷ free 5 ∷ free 6 ∷ []

unfoldable pub range_of_number : ℕ → Region
range_of_number n = free 0 ∷ free 1 ∷ free 2 ∷ free 3 ∷ free 4 ∷ free 5 ∷ range n n ∷ []

abbrev pub range_of_all : Region
range_of_all = root_region

pub record OneSided (q : Region) : Type 0 where
  pub staff-from : low q 0 ≡ 0
  pub door-from : low q 1 ≡ 0
  pub quarter-from : low q 2 ≡ 0
  pub staff-to : high q 3 ≡ top_of 3
  pub door-to : high q 4 ≡ top_of 4
  pub quarter-to : high q 5 ≡ top_of 5
