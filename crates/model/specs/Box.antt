-- A box's three ranges (document 01, "The plain book": staff, doors, quarters).
--   staff_of, doors_of, quarters_of   its ranges
--   box_values                      its six values, in document 01's order
--   point_box s d q                 the box of the one point that decide asks about; its quarters are q alone, so up to q + 1
-- Assumes nothing: these are definitions.
use Rattle.std.specs.Prelude.{ℕ, ◌+◌, List, [], ◌∷◌}
use Rattle.model.specs.declared.Box.{Box}
use Rattle.model.specs.Interval.{Interval}
use Rattle.model.specs.Quarters.{Quarters}

abbrev pub staff_of : Box → Interval
staff_of b = record { from = b.staff_from; to = b.staff_to }

abbrev pub doors_of : Box → Interval
doors_of b = record { from = b.door_from; to = b.door_to }

abbrev pub quarters_of : Box → Quarters
quarters_of b = record { from = b.quarter_from; to = b.quarter_to }

abbrev pub box_values : Box → List ℕ
box_values b =
    b.staff_from ∷ b.staff_to ∷ b.door_from ∷ b.door_to ∷ b.quarter_from ∷ b.quarter_to ∷ []

abbrev pub point_box : ℕ → ℕ → ℕ → Box
point_box staff door quarter =
    record {
      staff_from = staff;
      staff_to = staff;
      door_from = door;
      door_to = door;
      quarter_from = quarter;
      quarter_to = quarter + 1;
    }
