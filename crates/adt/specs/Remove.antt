-- Removal follows left, else right, from the unwanted cell until a terminal cell, which takes its place by links alone
-- (document 01, "The tree" and "The walks of a call").
--   RemovalWalk               broken at a cause of fault 9, or the terminal cell and the place of the link it hangs on
--   next_link w k          the place of the link that the walk goes through: left where that is not blank, else right
--   follow n k at m       from the cell k, which hangs at `at`, n levels above the last; m cells met so far, k among them
--   terminal_from w k s    the whole removal walk, whose first cell counted is k, at its own spot
--   reparented w j p      the words once the cell j names the parent p
--   raised w k leaf       the words once the terminal cell, which has the links of k, has its parent too, and is the parent of its children
--   removed w k at leaf leaf_at   the words once k is removed and free
-- Assumes nothing: these are definitions.
use Rattle.std.specs.Prelude.{ℕ, zero, suc, ◌-◌, cond, ◌&&◌, ◌||◌, List, leb, ltb, eqb, get_or, set}
use Rattle.geometry.specs.declared.Side.TheVariants.{Left, Right}
use Rattle.geometry.specs.Levels.{levels}
use Rattle.pool.specs.declared.Field.TheVariants as field
use Rattle.pool.specs.Layout.{free_place, place}
use Rattle.pool.specs.Capacity.{capacity_of}
use Rattle.pool.specs.Cell.{with_cell}
use Rattle.pool.specs.Fresh.{free_cell}
use Rattle.adt.specs.Node.{link_place, parent_at, is_parent}
use Rattle.adt.specs.Search.{Spot}

pub data RemovalWalk : Type 0 where
  broken : RemovalWalk
  terminal : ℕ → ℕ → RemovalWalk

abbrev pub next_link : List ℕ → ℕ → ℕ
next_link w k = cond (eqb (get_or w (link_place k Left) 0) 0) (link_place k Right) (link_place k Left)

module _ (w : List ℕ) (c : ℕ) where
  unfoldable pub follow : ℕ → ℕ → ℕ → ℕ → RemovalWalk
  follow zero k at met = cond (eqb (get_or w (next_link w k) 0) 0) (terminal k at) broken
  follow (suc n) k at met =
      let next = get_or w (next_link w k) 0 in
      let rest = follow n next (next_link w k) (suc met) in
      cond (eqb next 0) (terminal k at) (cond (leb next c && ltb met c && is_parent w k next) rest broken)

unfoldable pub terminal_from : List ℕ → ℕ → Spot → RemovalWalk
terminal_from w k here = follow w (capacity_of w) (levels - here.level) k here.link 1

-- the terminal cell is cut from its parent, takes the unwanted cell's two links as they then are, then its place
unfoldable pub replaced : List ℕ → ℕ → ℕ → ℕ → ℕ → List ℕ
replaced w k at leaf leaf_at =
    let cut = set w leaf_at 0 in
    let left = set cut (link_place leaf Left) (get_or cut (link_place k Left) 0) in
    let right = set left (link_place leaf Right) (get_or cut (link_place k Right) 0) in
    set right at leaf

-- a blank link names no cell, and neither does one above C, which only a scrambled pool has, where no walk met it
unfoldable pub reparented : List ℕ → ℕ → ℕ → List ℕ
reparented w j p = cond (eqb j 0 || ltb (capacity_of w) j) w (set w (place j field.Parent) p)

-- document 02, card 6: the unwanted cell's parent, and its remaining children
unfoldable pub raised : List ℕ → ℕ → ℕ → List ℕ
raised w k leaf =
    let below = set w (place leaf field.Parent) (parent_at w k) in
    reparented (reparented below (get_or w (link_place leaf Left) 0) leaf) (get_or w (link_place leaf Right) 0) leaf

-- a terminal cell is simply cut off
unfoldable pub unlinked : List ℕ → ℕ → ℕ → ℕ → ℕ → List ℕ
unlinked w k at leaf leaf_at = cond (eqb leaf k) (set w at 0) (raised (replaced w k at leaf leaf_at) k leaf)

-- the revoked cell becomes the free head
unfoldable pub freed : List ℕ → ℕ → List ℕ
freed w k = set (with_cell w k (free_cell (get_or w free_place 0))) free_place k

unfoldable pub removed : List ℕ → ℕ → ℕ → ℕ → ℕ → List ℕ
removed w k at leaf leaf_at = freed (unlinked w k at leaf leaf_at) k
