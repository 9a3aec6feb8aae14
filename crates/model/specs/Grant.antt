-- A grant's values, and the doors that it touches (document 01, "The plain book" and "The grants file").
--   grant_values g     number, rank, kind and the six values of its box: the whole grant
--   same_grant g h     the two are equal in all of them
--   touches doors g   document 01's "touches doors"
-- Assumes nothing: these are definitions.
use Rattle.std.specs.Prelude.{ℕ, Bool, List, ◌∷◌}
use Rattle.lists.specs.Tests.{same_numbers}
use Rattle.model.specs.declared.Grant.{Grant}
use Rattle.model.specs.Kind.{kind_number}
use Rattle.model.specs.Interval.{Interval}
use Rattle.model.specs.Box.{box_values, doors_of}
use Rattle.model.specs.Overlap.{overlap_on}

abbrev pub grant_values : Grant → List ℕ
grant_values g = g.number ∷ g.rank ∷ kind_number g.kind ∷ box_values g.bounds

unfoldable pub same_grant : Grant → Grant → Bool
same_grant g h = same_numbers (grant_values g) (grant_values h)

abbrev pub touches : Interval → Grant → Bool
touches doors g = overlap_on (doors_of g.bounds) doors
