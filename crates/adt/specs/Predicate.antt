-- What a search takes as a hit among the cells that it meets.
--   test_of p q g      the test that a search makes of the grant g: its point lies in the search range q (document 01, "The walks of a call":
--                     the number, the doors, everything), or list's choice takes it for a box (document 02, card 4; model/specs/Relation)
-- Assumes nothing: these are definitions.
use Rattle.std.specs.Prelude.{Bool}
use Rattle.model.specs.declared.Grant.{Grant}
use Rattle.model.specs.Relation.{taken}
use Rattle.geometry.specs.Region.{Region}
use Rattle.geometry.specs.Point.{in_range}
use Rattle.adt.specs.declared.predicates.Predicate.{Predicate}
use Rattle.adt.specs.declared.predicates.Predicate.TheVariants.{InRange, Taken}

abbrev pub test_of : Predicate → Region → Grant → Bool
test_of InRange q g = in_range q g
test_of (Taken bounds choice) q g = taken choice bounds g
