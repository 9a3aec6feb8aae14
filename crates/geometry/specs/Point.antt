-- A grant as a point on seven axes (document 01, "Boxes as points"), and the points of a range.
--   point_of g             its coordinates: the three froms, the three tos, the number
--   inside_on q p a, inside q p   the point lies in the range on the axis, and on every axis; both ends count
--   in_range q g           the grant's point lies in the range
-- Assumes nothing: these are definitions.
use Rattle.std.specs.Prelude.{ℕ, Bool, ◌&&◌, List, [], ◌∷◌, leb, get_or}
use Rattle.lists.specs.Tests.{each}
use Rattle.model.specs.declared.Grant.{Grant}
use Rattle.geometry.specs.Axis.{axes}
use Rattle.geometry.specs.Region.{Region, low, high}

unfoldable pub point_of : Grant → List ℕ
point_of g =
    let b = g.bounds in
    b.staff_from ∷ b.door_from ∷ b.quarter_from ∷ b.staff_to ∷ b.door_to ∷ b.quarter_to ∷ g.number ∷ []

abbrev pub inside_on : Region → List ℕ → ℕ → Bool
inside_on q p a = leb (low q a) (get_or p a 0) && leb (get_or p a 0) (high q a)

unfoldable pub inside : Region → List ℕ → Bool
inside q p = each axes (inside_on q p)

abbrev pub in_range : Region → Grant → Bool
in_range q g = inside q (point_of g)
