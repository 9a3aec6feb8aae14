-- The search: source 001's three steps on any words, as a walk that stops at its first cause of fault 9
-- (document 01, "The tree" and "The walks of a call"). The contracts cite it; Links says the same fault as document 01 does.
--   Search          broken, or how far it got: cells met, the hits' cells in order, where the first hit hangs
--   meet            the cell is met and counted, and is a hit where its grant passes the test
--   visit_by enter   the cell is met; then the left subtree is entered, then the right
--   enter n from at g   the link at the place `at` is gone through from the cell `from`, 0 for the root's link, if it leads to a cell and that
--                   cell's region g meets the range; the walk is broken where that cell names another parent (document 02, card 6);
--                   n is the number of levels below the parent, so the root is entered with one more than there are levels
--   search_by w q passes   the whole walk, from the root: it goes by the range q, and its hits are the cells met whose grants pass the test
--   search w q            the walk whose hits are the cells in its range
-- Assumes nothing: these are definitions.
use Rattle.std.specs.Prelude.{ℕ, zero, suc, ◌-◌, Bool, cond, ◌&&◌, List, [], ◌∷◌, ◌++◌, leb, ltb, eqb, get_or}
use Rattle.model.specs.declared.Grant.{Grant}
use Rattle.geometry.specs.declared.Side.TheVariants.{Left, Right}
use Rattle.geometry.specs.Axis.{axis_of}
use Rattle.geometry.specs.Levels.{levels}
use Rattle.geometry.specs.Region.{Region, root_region, half, meets}
use Rattle.geometry.specs.Point.{in_range}
use Rattle.pool.specs.Layout.{root_place}
use Rattle.pool.specs.Capacity.{capacity_of}
use Rattle.pool.specs.Cell.{grant_at}
use Rattle.adt.specs.Node.{link_place, is_parent}

-- a cell on a walk: its level, and the place of the link it hangs on
pub record Spot : Type 0 where
  pub level : ℕ
  pub link : ℕ

abbrev pub nowhere : Spot
nowhere = record { level = 0; link = 0 }

pub data Search : Type 0 where
  broken : Search
  going : ℕ → List ℕ → Spot → Search

-- the first hit's spot stays
abbrev pub first_spot : List ℕ → Spot → Spot → Spot
first_spot [] before here = here
first_spot (hit ∷ hits) before here = before

-- a broken walk goes no further
abbrev pub unless_broken : Search → Search → Search
unless_broken broken s = broken
unless_broken (going met hits first) s = s

-- the walk in the words w of a pool of c cells, for the range q, with the test of a hit
module _ (w : List ℕ) (c : ℕ) (q : Region) (passes : Grant → Bool) where
  unfoldable pub meet : Spot → ℕ → Search → Search
  meet here k broken = broken
  meet here k (going met hits first) =
      cond (ltb met c)
      (cond (passes (grant_at w k))
      (going (suc met) (hits ++ (k ∷ [])) (first_spot hits first here))
      (going (suc met) hits first))
      broken

  unfoldable pub visit_by : (ℕ → ℕ → Region → Search → Search) → Spot → ℕ → Region → Search → Search
  visit_by enter here k g s =
      let a = axis_of here.level in
      enter k (link_place k Right) (half Right g a) (enter k (link_place k Left) (half Left g a) (meet here k s))

  unfoldable pub enter : ℕ → ℕ → ℕ → Region → Search → Search
  enter zero from at g s = unless_broken s (cond (eqb (get_or w at 0) 0) s broken)
  enter (suc n) from at g s =
      let k = get_or w at 0 in
      unless_broken s
      (cond (eqb k 0) s
      (cond (meets g q)
      (cond (leb k c && is_parent w from k) (visit_by (enter n) (record { level = levels - n; link = at }) k g s) broken)
      s))

unfoldable pub search_by : List ℕ → Region → (Grant → Bool) → Search
search_by w q passes = enter w (capacity_of w) q passes (suc levels) 0 root_place root_region (going 0 [] nowhere)

abbrev pub search : List ℕ → Region → Search
search w q = search_by w q (in_range q)
