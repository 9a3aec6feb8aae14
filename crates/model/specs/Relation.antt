-- How a grant stands to a box, and which grants list takes (document 02, card 4).
--   HoldsBox a b       the box a holds all of b: on staff, doors and quarters its from is at most b's from, and b's to at most its to
--   holds_range, holds_box   the same as tests, of the ends of one range and of boxes; proofs/RelationLaws joins them
--   relation_of a b     document 02's answer of three: apart where the two don't overlap (specs/Overlap), which is tested first, on every box;
--                      else holds, or touches
--   takes choice r     list's choice takes what stands so: touching includes holding
--   Taken choice b g   it takes the grant g for the box b
--   taken choice b g   the same as a test, by the answer of three; proofs/RelationLaws joins them
-- Assumes nothing: these are definitions.
use Rattle.std.specs.Prelude.{ℕ, ◌≤◌, Bool, true, false, cond, ◌&&◌, leb}
use Rattle.model.specs.declared.Box.{Box}
use Rattle.model.specs.declared.Grant.{Grant}
use Rattle.model.specs.declared.Relation.{Relation}
use Rattle.model.specs.declared.Relation.TheVariants.{Apart, Touches, Holds}
use Rattle.model.specs.declared.Choice.{Choice}
use Rattle.model.specs.declared.Choice.TheVariants.{Touching, Holding}
use Rattle.model.specs.Overlap.{Overlap, overlaps}

pub record HoldsBox (a b : Box) : Type 0 where
  pub staff-from : a.staff_from ≤ b.staff_from
  pub staff-to : b.staff_to ≤ a.staff_to
  pub door-from : a.door_from ≤ b.door_from
  pub door-to : b.door_to ≤ a.door_to
  pub quarter-from : a.quarter_from ≤ b.quarter_from
  pub quarter-to : b.quarter_to ≤ a.quarter_to

-- from and to of a range, and of one that it is to hold; whether the to's belong to them makes no difference
abbrev pub holds_range : ℕ → ℕ → ℕ → ℕ → Bool
holds_range from to asked-from asked-to = leb from asked-from && leb asked-to to

unfoldable pub holds_box : Box → Box → Bool
holds_box a b =
    holds_range a.staff_from a.staff_to b.staff_from b.staff_to
    && holds_range a.door_from a.door_to b.door_from b.door_to
    && holds_range a.quarter_from a.quarter_to b.quarter_from b.quarter_to

unfoldable pub relation_of : Box → Box → Relation
relation_of a b = cond (overlaps a b) (cond (holds_box a b) Holds Touches) Apart

unfoldable pub takes : Choice → Relation → Bool
takes Touching Apart = false
takes Touching Touches = true
takes Touching Holds = true
takes Holding Apart = false
takes Holding Touches = false
takes Holding Holds = true

abbrev pub Taken : Choice → Box → Grant → Type 0
Taken Touching b g = Overlap g.bounds b
Taken Holding b g = Overlap g.bounds b × HoldsBox g.bounds b

abbrev pub taken : Choice → Box → Grant → Bool
taken choice b g = takes choice (relation_of g.bounds b)
