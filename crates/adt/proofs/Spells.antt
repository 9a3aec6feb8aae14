-- The tree that the words of a pool spell. No contract and no claim names it: it carries the laws between words and model.
--   Tree, cells_of t, size t      a tree of cell numbers; its cells, each before those below it, left before right; how many
--   Spells w c n g k t           with n levels left below the parent, the link k spells the tree t, in the pool w of c cells; the point of
--                                each cell of t lies in the cell's region, that of the first one being g
--   FreeChain w c k ks           from the link k on, the left links lead through the free cells ks, in this order
-- Assumes nothing.
use Prim.Native.Nat.{ℕ, zero, suc, ◌+◌, ◌-◌, ◌<◌, ◌≤◌}
use mathlib.Core.Path.{◌≡◌}
use mathlib.Core.Bool.{true}
use mathlib.Core.List.{List, [], ◌∷◌, ◌++◌}
use lib.ListN.{get_or}
use Rattle.geometry.specs.declared.Side.TheVariants.{Left, Right}
use Rattle.geometry.specs.Axis.{axis_of}
use Rattle.geometry.specs.Levels.{levels}
use Rattle.geometry.specs.Region.{Region, half}
use Rattle.geometry.specs.Point.{inside}
use Rattle.adt.specs.Node.{link_place, point_at}

pub data Tree : Type 0 where
  blank : Tree
  node : ℕ → Tree → Tree → Tree

unfoldable pub cells_of : Tree → List ℕ
cells_of blank = []
cells_of (node k l r) = k ∷ cells_of l ++ cells_of r

unfoldable pub size : Tree → ℕ
size blank = 0
size (node k l r) = suc (size l + size r)

pub data Spells (w : List ℕ) (c : ℕ) : ℕ → Region → ℕ → Tree → Type 0 where
  spells_blank : {n : ℕ} {g : Region} → Spells w c n g zero blank
  spells_node : {n : ℕ} {g : Region} {k : ℕ} {l r : Tree} → 0 < k → k ≤ c → inside g (point_at w k) ≡ true
      → Spells w c n (half Left g (axis_of (levels - n))) (get_or w (link_place k Left) 0) l
      → Spells w c n (half Right g (axis_of (levels - n))) (get_or w (link_place k Right) 0) r
      → Spells w c (suc n) g k (node k l r)

pub data FreeChain (w : List ℕ) (c : ℕ) : ℕ → List ℕ → Type 0 where
  chain_end : FreeChain w c zero []
  chain_more : {k : ℕ} {ks : List ℕ} → 0 < k → k ≤ c → FreeChain w c (get_or w (link_place k Left) 0) ks → FreeChain w c k (k ∷ ks)
