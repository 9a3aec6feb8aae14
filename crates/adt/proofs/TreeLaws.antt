-- Laws of the cells of a tree that words spell.
--   cells-size              a tree has as many cells as its size
--   cells_upto              each of a spelled tree is one of 1 to c
--   cells-inside            its point lies in the region of the tree's first cell
--   size_few                distinct cells are no more than c
--   every-cell, no_cell     what holds of a node's cells; a blank tree has none
--   child s l r               the tree on a side: child_cells, spells_child
-- Assumes nothing.
use Prim.Native.Nat.{ℕ, suc, ◌-◌, ◌<◌, ◌≤◌}
use mathlib.Core.Logic.{◌⊎◌, inl, inr}
use mathlib.Core.Path.{◌≡◌, refl, sym, ap, subst, ◌∙◌}
use mathlib.Core.Bool.{true}
use mathlib.Core.List.Memᴰ
use mathlib.Core.List.{List, Memᴰ}
use native.Mathlib.Omega.{arith}
use lib.ListN.{length, get_or, length-append}
use Rattle.lists.proofs.DistinctLaws.{Distinct, Upto, pigeonhole}
use Rattle.geometry.specs.declared.Side.{Side}
use Rattle.geometry.specs.declared.Side.TheVariants.{Left, Right}
use Rattle.geometry.specs.Axis.{axis_of}
use Rattle.geometry.specs.Levels.{levels}
use Rattle.geometry.specs.Region.{Region, half}
use Rattle.geometry.specs.Point.{inside}
use Rattle.geometry.proofs.AxisLaws.{axis_lt}
use Rattle.geometry.proofs.RegionLaws.{Shape, half-shape, half-inside}
use Rattle.adt.specs.Node.{link_place, point_at}
use Rattle.adt.proofs.Spells.{Tree, blank, node, cells_of, size, Spells, spells_blank, spells_node}

pub cells-size : (t : Tree) → length (cells_of t) ≡ size t
unfolding cells_of size
cells-size blank = refl
cells-size (node k l r) = ap suc (length-append (cells_of l) (cells_of r) ∙ rw (cells-size l, cells-size r))

-- what holds of the first cell, and of each on the left and on the right, holds of each cell of a node
pub every-cell : (P : ℕ → Type 0) (k : ℕ) (l r : Tree) → P k → ((j : ℕ) → Memᴰ j (cells_of l) → P j) → ((j : ℕ) → Memᴰ j (cells_of r) → P j)
    → (j : ℕ) → Memᴰ j (cells_of (node k l r)) → P j
unfolding cells_of
every-cell P k l r p f g j (Memᴰ.head e) = subst P (sym e) p
every-cell P k l r p f g j (Memᴰ.tail m) = go (Memᴰ.append_cases (cells_of l) m)
  where
    go : Memᴰ j (cells_of l) ⊎ Memᴰ j (cells_of r) → P j
    go (inl m) = f j m
    go (inr m) = g j m

-- none of a blank tree
pub no_cell : (j : ℕ) → Memᴰ j (cells_of blank) → ⊥
unfolding cells_of
no_cell j m = Memᴰ.not-nil m

-- the tree on a side
abbrev pub child : Side → Tree → Tree → Tree
child Left l r = l
child Right l r = r

pub child_cells : (s : Side) (k : ℕ) (l r : Tree) (j : ℕ) → Memᴰ j (cells_of (child s l r)) → Memᴰ j (cells_of (node k l r))
unfolding cells_of
child_cells Left k l r j m = Memᴰ.tail (Memᴰ.append_left (cells_of r) m)
child_cells Right k l r j m = Memᴰ.tail (Memᴰ.append_right (cells_of l) m)

pub spells_child : {w : List ℕ} {c n j k : ℕ} {g : Region} {l r : Tree} (s : Side) → Spells w c (suc n) g j (node k l r)
    → Spells w c n (half s g (axis_of (levels - n))) (get_or w (link_place k s) 0) (child s l r)
spells_child Left (spells_node pos le i x y) = x
spells_child Right (spells_node pos le i x y) = y

pub cells_upto : {w : List ℕ} {c n : ℕ} {g : Region} {k : ℕ} {t : Tree} → Spells w c n g k t → Upto c (cells_of t)
cells_upto spells_blank j m = absurd (no_cell j m)
cells_upto {c = c} (spells_node {k = k} {l = l} {r = r} pos le i x y) j m =
    every-cell (λ j. (0 < j) × (j ≤ c)) k l r (pos, le) (cells_upto x) (cells_upto y) j m

pub cells-inside : {w : List ℕ} {c n : ℕ} {g : Region} {k : ℕ} {t : Tree} → Shape g → Spells w c n g k t → (j : ℕ) → Memᴰ j (cells_of t)
    → inside g (point_at w j) ≡ true
cells-inside v spells_blank j m = absurd (no_cell j m)
cells-inside {w} v (spells_node {n = n} {g = g} {k = k} {l = l} {r = r} pos le i x y) j m =
    let a = axis_of (levels - n) in
    let lt = axis_lt (levels - n) in
    every-cell (λ j. inside g (point_at w j) ≡ true) k l r i
    (λ j m. half-inside Left g a v lt (point_at w j) (cells-inside (half-shape Left g a v lt) x j m))
    (λ j m. half-inside Right g a v lt (point_at w j) (cells-inside (half-shape Right g a v lt) y j m))
    j m

pub size_few : {w : List ℕ} {c n : ℕ} {g : Region} {k : ℕ} {t : Tree} → Spells w c n g k t → Distinct (cells_of t) → size t ≤ c
size_few {c = c} {t = t} s d = omega (arith, cells-size t, pigeonhole c d (cells_upto s))
