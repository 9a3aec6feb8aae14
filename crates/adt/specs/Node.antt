-- A cell as a node of the tree: where its links lie, its parent and its point (document 01, "The tree"; document 02, card 6).
--   link_place k s     the place of cell k's link to the child on a side
--   parent_at w k      the parent that cell k names, 0 for none: document 02's father
--   is_parent w p k    cell k names p as its parent
--   point_at w k       the point of the grant in cell k
-- Assumes nothing: these are definitions.
use Rattle.std.specs.Prelude.{ℕ, Bool, List, eqb}
use Rattle.geometry.specs.declared.Side.{Side}
use Rattle.geometry.specs.declared.Side.TheVariants as side
use Rattle.geometry.specs.Point.{point_of}
use Rattle.pool.specs.declared.Field.{Field}
use Rattle.pool.specs.declared.Field.TheVariants as field
use Rattle.pool.specs.Layout.{place, field_of}
use Rattle.pool.specs.Cell.{grant_at}

abbrev pub link_field : Side → Field
link_field side.Left = field.Left
link_field side.Right = field.Right

abbrev pub link_place : ℕ → Side → ℕ
link_place k s = place k (link_field s)

abbrev pub parent_at : List ℕ → ℕ → ℕ
parent_at w k = field_of w k field.Parent

abbrev pub is_parent : List ℕ → ℕ → ℕ → Bool
is_parent w p k = eqb (parent_at w k) p

abbrev pub point_at : List ℕ → ℕ → List ℕ
point_at w k = point_of (grant_at w k)
