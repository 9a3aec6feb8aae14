-- A new point goes down from the root by the half that holds it, to the first blank link; the free head's cell is added there
-- (document 01, "The tree" and "The walks of a call").
--   InsertionWalk       broken at a cause of fault 9, or the place of the blank link and the cell that it is a link of, 0 for the root's
--   descend_from n from at g m   on through the link at the place `at`, of the cell `from`, to a cell of region g, m cells met so far; n counts
--                       as in Search
--   descend w p         the whole way of the point p
--   free_head, next_free  the free head, and the left link of its cell
--   free_broken w        one of the two is above C, read as grant reads them
--   inserted w at parent g   the words once the grant g hangs at the place `at`, below the parent
-- Assumes nothing: these are definitions.
use Rattle.std.specs.Prelude.{ℕ, zero, suc, ◌-◌, Bool, not, cond, ◌&&◌, ◌||◌, List, leb, ltb, eqb, get_or, set}
use Rattle.model.specs.declared.Grant.{Grant}
use Rattle.geometry.specs.Axis.{axis_of}
use Rattle.geometry.specs.Levels.{levels}
use Rattle.geometry.specs.Region.{Region, root_region, side_of, half}
use Rattle.pool.specs.declared.Field.TheVariants as field
use Rattle.pool.specs.Layout.{root_place, free_place, field_of}
use Rattle.pool.specs.Capacity.{capacity_of}
use Rattle.pool.specs.Cell.{cell_of, with_cell}
use Rattle.adt.specs.Node.{link_place, is_parent}

pub data InsertionWalk : Type 0 where
  broken : InsertionWalk
  blank_at : ℕ → ℕ → InsertionWalk

module _ (w : List ℕ) (c : ℕ) (p : List ℕ) where
  -- the parent is at the last level: the grant would have to go below it
  unfoldable pub descend_from : ℕ → ℕ → ℕ → Region → ℕ → InsertionWalk
  descend_from zero from at g met = broken
  descend_from (suc n) from at g met =
      let k = get_or w at 0 in
      let a = axis_of (levels - n) in
      let s = side_of g a (get_or p a 0) in
      let way = descend_from n k (link_place k s) (half s g a) (suc met) in
      cond (eqb k 0) (blank_at at from) (cond (leb k c && ltb met c && is_parent w from k) way broken)

unfoldable pub descend : List ℕ → List ℕ → InsertionWalk
descend w p = descend_from w (capacity_of w) p (suc levels) 0 root_place root_region 0

abbrev pub free_head : List ℕ → ℕ
free_head w = get_or w free_place 0

abbrev pub next_free : List ℕ → ℕ
next_free w = field_of w (free_head w) field.Left

unfoldable pub free_broken : List ℕ → Bool
free_broken w =
    let c = capacity_of w in
    ltb c (free_head w) || not (eqb (free_head w) 0) && ltb c (next_free w)

-- the free head's cell takes the grant, the blank link takes the cell, the free head moves on.
-- On a scrambled pool, where these places may be one, the order of the stores is ours.
unfoldable pub inserted : List ℕ → ℕ → ℕ → Grant → List ℕ
inserted w at parent g = set (set (with_cell w (free_head w) (cell_of 0 0 g parent)) at (free_head w)) free_place (next_free w)
