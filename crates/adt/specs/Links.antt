-- Fault 9 as document 01 says it: the links that a walk goes through, as one list, each with the level that it leads to, counted
-- up from 0 at the root, and the cell that it is gone through from; taken from the words with no stopping and no counting. 9 comes exactly
-- if one of them is above C, leads below the last level or to a cell that names another parent than that one (document 02, card 6), or the
-- cells met are more than C. proofs/ joins this with the walks that stop.
--   Link                       its value, the level of the cell that it leads to, and the cell that it is gone through from, 0 for the root's
--   meets_cause w c link        going through this link meets a cause of 9: above C, below the last level, another parent
--   broken_by w c met links     a walk through these links meets a cause of 9; `met` cells were met before the first of them
--   search_links w q            the search's links, in its order
--   insertion_links w p         grant's way down of the point p
--   left_else_right w k          the link that the removal walk goes through from the cell k; 0 at a terminal cell
--   removal_links w k l         the removal walk from the cell k at level l, which is met before them
--   free_links w                the links of the free list that grant reads; their cells are not counted, have no level, and their parents are
--                              not tested
--   is_hit w passes link        the link leads to a cell whose grant passes the test
--   hits_among w passes links   the cells of the search's links that are hits, in order
-- Every list of links is finite by the levels: n counts those left. Assumes nothing: these are definitions.
use Rattle.std.specs.Prelude.{ℕ, zero, suc, ◌+◌, ◌-◌, Bool, cond, not, ◌||◌, List, [], ◌∷◌, ◌++◌, map, ltb, eqb, length, get_or}
use Rattle.lists.specs.Tests.{filter, any}
use Rattle.model.specs.declared.Grant.{Grant}
use Rattle.geometry.specs.declared.Side.TheVariants.{Left, Right}
use Rattle.geometry.specs.Axis.{axis_of}
use Rattle.geometry.specs.Levels.{levels}
use Rattle.geometry.specs.Region.{Region, root_region, side_of, half, meets}
use Rattle.pool.specs.Layout.{root_place, free_place}
use Rattle.pool.specs.Cell.{grant_at}
use Rattle.adt.specs.Node.{link_place, is_parent}

pub record Link : Type 0 where
  pub level : ℕ
  pub from : ℕ
  pub to : ℕ

abbrev pub meets_cause : List ℕ → ℕ → Link → Bool
meets_cause w c link = ltb c link.to || ltb levels link.level || not (is_parent w link.from link.to)

unfoldable pub broken_by : List ℕ → ℕ → ℕ → List Link → Bool
broken_by w c met links = any (meets_cause w c) links || ltb c (met + length links)

module _ (w : List ℕ) where
  -- this link, and those behind it; no region is left to test below the last level, so each link there that is not 0 is met
  unfoldable pub search_from : Region → ℕ → ℕ → ℕ → ℕ → Region → List Link
  search_from q zero l from at g = cond (eqb (get_or w at 0) 0) [] (record { level = l; from = from; to = get_or w at 0 } ∷ [])
  search_from q (suc n) l from at g =
      let k = get_or w at 0 in
      let a = axis_of l in
      let left = search_from q n (suc l) k (link_place k Left) (half Left g a) in
      let right = search_from q n (suc l) k (link_place k Right) (half Right g a) in
      let onward : List Link = record { level = l; from = from; to = k } ∷ left ++ right in
      cond (eqb k 0) [] (cond (meets g q) onward [])

  -- a grant that would have to go below the last level meets that cause, whatever link stands there
  unfoldable pub insertion_from : List ℕ → ℕ → ℕ → ℕ → ℕ → Region → List Link
  insertion_from p zero l from at g = record { level = l; from = from; to = get_or w at 0 } ∷ []
  insertion_from p (suc n) l from at g =
      let k = get_or w at 0 in
      let a = axis_of l in
      let s = side_of g a (get_or p a 0) in
      let onward : List Link = record { level = l; from = from; to = k } ∷ insertion_from p n (suc l) k (link_place k s) (half s g a) in
      cond (eqb k 0) [] onward

  -- document 01's "left, else right": a link that isn't 0 is gone through, and then right is not looked at
  abbrev pub left_else_right : ℕ → ℕ
  left_else_right k =
      let left = get_or w (link_place k Left) 0 in
      cond (eqb left 0) (get_or w (link_place k Right) 0) left

  -- the walk ends at a terminal cell, whose links are both 0
  unfoldable pub removal_from : ℕ → ℕ → ℕ → List Link
  removal_from zero l k =
      let next = left_else_right k in
      cond (eqb next 0) [] (record { level = suc l; from = k; to = next } ∷ [])
  removal_from (suc n) l k =
      let next = left_else_right k in
      let onward : List Link = record { level = suc l; from = k; to = next } ∷ removal_from n (suc l) next in
      cond (eqb next 0) [] onward

unfoldable pub search_links : List ℕ → Region → List Link
search_links w q = search_from w q (suc levels) 0 0 root_place root_region

unfoldable pub insertion_links : List ℕ → List ℕ → List Link
insertion_links w p = insertion_from w p (suc levels) 0 0 root_place root_region

unfoldable pub removal_links : List ℕ → ℕ → ℕ → List Link
removal_links w k l = removal_from w (levels - l) l k

-- the free head and, unless that is 0, its cell's left link
unfoldable pub free_links : List ℕ → List ℕ
free_links w =
    let head = get_or w free_place 0 in
    head ∷ cond (eqb head 0) [] (get_or w (link_place head Left) 0 ∷ [])

abbrev pub is_hit : List ℕ → (Grant → Bool) → Link → Bool
is_hit w passes link = passes (grant_at w link.to)

unfoldable pub hits_among : List ℕ → (Grant → Bool) → List Link → List ℕ
hits_among w passes links = map (λ link. link.to) (filter (is_hit w passes) links)
