-- Where the parts and the cells of a tree hang.
--   Part n at t m link u      in the tree t, which hangs at the place `at` with n levels left below the parent, the part u hangs at the
--                             place `link`, with m levels left
--   part-levels, part-cells   a part has no more levels left than the tree, and its cells are the tree's
--   HangsAt n at t k spot     in such a tree t the cell k hangs at the spot
--   hangs_cell, hangs_below   it is a cell of t; its level says how many levels are left below it
--   placed_in n at t           the tree's cells, each with its spot, in the order of cells_of
--   placed-cells, placed_hangs   they are its cells, and each hangs at its spot
-- Assumes nothing.
use Prim.Native.Nat.{ℕ, zero, suc, ◌-◌, ◌≤◌}
use mathlib.Core.Logic.{◌⊎◌, inl, inr}
use mathlib.Core.Path.{◌≡◌, refl, sym, ap, subst, ◌∙◌}
use mathlib.Core.List.Memᴰ
use mathlib.Core.List.{List, [], ◌∷◌, ◌++◌, map, map-append, Memᴰ}
use native.Mathlib.Omega.{arith}
use Rattle.geometry.specs.declared.Side.{Side}
use Rattle.geometry.specs.declared.Side.TheVariants.{Left, Right}
use Rattle.geometry.specs.Levels.{levels}
use Rattle.geometry.specs.Region.{Region}
use Rattle.adt.specs.Node.{link_place}
use Rattle.adt.specs.Search.{Spot}
use Rattle.adt.proofs.Spells.{Tree, blank, node, cells_of, Spells, spells_blank, spells_node}
use Rattle.adt.proofs.TreeLaws.{child, child_cells}

pub data Part : ℕ → ℕ → Tree → ℕ → ℕ → Tree → Type 0 where
  part_here : {n at : ℕ} {t : Tree} → Part n at t n at t
  part_child : {n at m link k : ℕ} {l r u : Tree} (s : Side) → Part n (link_place k s) (child s l r) m link u → Part (suc n) at (node k l r) m link u

pub part-levels : {n at m link : ℕ} {t u : Tree} → Part n at t m link u → m ≤ n
part-levels part_here = omega arith
part-levels (part_child s p) = omega (arith, part-levels p)

pub part-cells : {n at m link : ℕ} {t u : Tree} → Part n at t m link u → (j : ℕ) → Memᴰ j (cells_of u) → Memᴰ j (cells_of t)
part-cells part_here j i = i
part-cells (part_child {k = k} {l = l} {r = r} s p) j i = child_cells s k l r j (part-cells p j i)

pub record HangsAt (n at : ℕ) (t : Tree) (k : ℕ) (spot : Spot) : Type 0 where
  pub below : ℕ
  pub left : Tree
  pub right : Tree
  pub part : Part n at t (suc below) spot.link (node k left right)
  pub level : spot.level ≡ levels - below

pub hangs_cell : {n at : ℕ} {t : Tree} {k : ℕ} {spot : Spot} → HangsAt n at t k spot → Memᴰ k (cells_of t)
unfolding cells_of
hangs_cell {k = k} h = part-cells h.part k (Memᴰ.head refl)

-- the levels left below it, from its level
pub hangs_below : {at : ℕ} {t : Tree} {k : ℕ} {spot : Spot} (h : HangsAt (suc levels) at t k spot) → levels - spot.level ≡ h.below
hangs_below h = omega (arith, part-levels h.part, h.level)

pub record Placed : Type 0 where
  pub cell : ℕ
  pub spot : Spot

-- below the last level hangs none
unfoldable pub placed_in : ℕ → ℕ → Tree → List Placed
placed_in n at blank = []
placed_in zero at (node k l r) = []
placed_in (suc n) at (node k l r) =
    record { cell = k; spot = record { level = levels - n; link = at } } ∷ placed_in n (link_place k Left) l ++ placed_in n (link_place k Right) r

pub placed-cells : {w : List ℕ} {c n k : ℕ} {g : Region} {t : Tree} (at : ℕ) → Spells w c n g k t → map (λ p. p.cell) (placed_in n at t) ≡ cells_of t
unfolding placed_in cells_of
placed-cells at spells_blank = refl
placed-cells at (spells_node {n = n} {k = k} {l = l} {r = r} pos le i x y) =
    ap (λ (ks : List ℕ). k ∷ ks)
    (map-append (λ p. p.cell) (placed_in n (link_place k Left) l) (placed_in n (link_place k Right) r)
    ∙ rw (placed-cells (link_place k Left) x, placed-cells (link_place k Right) y))

pub placed_hangs : (n at : ℕ) (t : Tree) (p : Placed) → Memᴰ p (placed_in n at t) → HangsAt n at t p.cell p.spot
unfolding placed_in
placed_hangs n at blank p m = absurd (Memᴰ.not-nil m)
placed_hangs zero at (node k l r) p m = absurd (Memᴰ.not-nil m)
placed_hangs (suc n) at (node k l r) p (Memᴰ.head e) =
    subst (λ (q : Placed). HangsAt (suc n) at (node k l r) q.cell q.spot) (sym e)
    (record { below = n; left = l; right = r; part = part_here; level = refl })
placed_hangs (suc n) at (node k l r) p (Memᴰ.tail m) =
    go (placed_hangs n (link_place k Left) l p) (placed_hangs n (link_place k Right) r p)
    (Memᴰ.append_cases (placed_in n (link_place k Left) l) m)
  where
    on : (s : Side) → HangsAt n (link_place k s) (child s l r) p.cell p.spot → HangsAt (suc n) at (node k l r) p.cell p.spot
    on s h = record { below = h.below; left = h.left; right = h.right; part = part_child s h.part; level = h.level }

    go : (Memᴰ p (placed_in n (link_place k Left) l) → HangsAt n (link_place k Left) l p.cell p.spot)
        → (Memᴰ p (placed_in n (link_place k Right) r) → HangsAt n (link_place k Right) r p.cell p.spot)
        → Memᴰ p (placed_in n (link_place k Left) l) ⊎ Memᴰ p (placed_in n (link_place k Right) r) → HangsAt (suc n) at (node k l r) p.cell p.spot
    go f g (inl i) = on Left (f i)
    go f g (inr i) = on Right (g i)
