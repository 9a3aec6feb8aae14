-- Each link down has its link up: the cells of a tree name their parents (document 02, card 6).
--   Parented w p t       each cell of the tree t names the cell above it as its parent, the first one names p
--   parented_first, parented_child     of a node: its own parent, and the tree on a side
--   parented_frame       where the cells name the same parents in other words
--   first_cell t          the first cell of a tree, 0 of a blank one: spells_first, first_mem, apart-first
--   parented_under       a tree below another parent: its first cell names that one, the others theirs
-- Assumes nothing.
use Prim.Native.Nat.{ℕ, ◌<◌}
use mathlib.Core.Path.{◌≡◌, refl}
use mathlib.Core.List.Memᴰ
use mathlib.Core.List.{List, [], ◌∷◌, ◌++◌, Memᴰ}
use native.Mathlib.Omega.{arith}
use Rattle.lists.proofs.DistinctLaws.{Distinct, Upto, distinct_apart}
use Rattle.geometry.specs.declared.Side.{Side}
use Rattle.geometry.specs.declared.Side.TheVariants.{Left, Right}
use Rattle.geometry.specs.Region.{Region}
use Rattle.adt.specs.Node.{parent_at}
use Rattle.adt.proofs.Spells.{Tree, blank, node, cells_of, Spells, spells_blank, spells_node}
use Rattle.adt.proofs.TreeLaws.{child}

pub data Parented (w : List ℕ) : ℕ → Tree → Type 0 where
  parented_blank : {p : ℕ} → Parented w p blank
  parented_node : {p k : ℕ} {l r : Tree} → parent_at w k ≡ p → Parented w k l → Parented w k r → Parented w p (node k l r)

pub parented_first : {w : List ℕ} {p k : ℕ} {l r : Tree} → Parented w p (node k l r) → parent_at w k ≡ p
parented_first (parented_node e x y) = e

pub parented_child : {w : List ℕ} {p k : ℕ} {l r : Tree} (s : Side) → Parented w p (node k l r) → Parented w k (child s l r)
parented_child Left (parented_node e x y) = x
parented_child Right (parented_node e x y) = y

pub parented_frame : {w v : List ℕ} {p : ℕ} {t : Tree} → ((y : ℕ) → Memᴰ y (cells_of t) → parent_at v y ≡ parent_at w y) → Parented w p t
    → Parented v p t
unfolding cells_of
parented_frame same parented_blank = parented_blank
parented_frame same (parented_node {p = p} {k = k} {l = l} {r = r} e x y) =
    parented_node {p = p} {k = k} {l = l} {r = r} (rw (same k (Memᴰ.head refl)) e)
    (parented_frame (λ z m. same z (Memᴰ.tail (Memᴰ.append_left (cells_of r) m))) x)
    (parented_frame (λ z m. same z (Memᴰ.tail (Memᴰ.append_right (cells_of l) m))) y)

abbrev pub first_cell : Tree → ℕ
first_cell blank = 0
first_cell (node k l r) = k

pub spells_first : {w : List ℕ} {c n k : ℕ} {g : Region} {t : Tree} → Spells w c n g k t → k ≡ first_cell t
spells_first spells_blank = refl
spells_first (spells_node pos le i x y) = refl

pub first_mem : (t : Tree) → 0 < first_cell t → Memᴰ (first_cell t) (cells_of t)
unfolding cells_of
first_mem blank h = absurd (omega arith)
first_mem (node k l r) h = Memᴰ.head refl

-- a cell that is not in the tree is not its first
pub apart-first : (t : Tree) (y : ℕ) → 0 < y → ¬ Memᴰ y (cells_of t) → ¬ (y ≡ first_cell t)
apart-first t y pos out e = out (Memᴰ.cast e (first_mem t (rw e at pos)))

pub parented_under : {w v : List ℕ} {c p q : ℕ} {t : Tree} → Distinct (cells_of t) → Upto c (cells_of t)
    → (0 < first_cell t → parent_at v (first_cell t) ≡ q)
    → ((y : ℕ) → Memᴰ y (cells_of t) → ¬ (y ≡ first_cell t) → parent_at v y ≡ parent_at w y)
    → Parented w p t → Parented v q t
unfolding cells_of
parented_under distinct upto first others parented_blank = parented_blank
parented_under {w} {v} distinct upto first others (parented_node {k = k} {l = l} {r = r} e x y) =
    parented_node {k = k} {l = l} {r = r} (first (upto k (Memᴰ.head refl)).0)
    (parented_frame (λ z m. below z (Memᴰ.append_left (cells_of r) m)) x)
    (parented_frame (λ z m. below z (Memᴰ.append_right (cells_of l) m)) y)
  where
    below : (z : ℕ) → Memᴰ z (cells_of l ++ cells_of r) → parent_at v z ≡ parent_at w z
    below z m = others z (Memᴰ.tail m) (λ i. distinct_apart (k ∷ []) distinct z (Memᴰ.head i) m)
