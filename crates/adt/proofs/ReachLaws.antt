-- The paths of specs/Reach in a pool whose links hold together.
--   paths_in p t         the paths to the cells of a tree that hangs at the path p, in the order of cells_of
--   paths_of t ks        all paths: to the cells of the tree t, and to the free cells ks
--   ends_paths_of        their ends are these cells
--   path_child          a step further leads through the link of the cell that the path ends at
--   path_before         a path that ends at a cell, without its last step too
--   spells_path         the link at a path spells a tree, in the path's region, whose first cell names the cell before it
--   free-next           the next cell from the free head is the left link of the one before
--   free-within         no more steps from the free head end at a cell than there are free cells
--   path_mem            a path that ends at a cell is one of them
--   linked_within       no path ends above c
--   linked_once         each of the cells 1 to c is at the end of exactly one
--   linked_path, linked_reached    the paths from the root end at the cells of the tree
--   linked_same         two that end at one cell are one
--   linked_placed, linked_shallow  their points lie in the regions there; no path is longer than 112
--   linked_parent       the parent that a cell names is the cell before it
--   linked_along        so along every path to a cell
--   carries_one         a cell carries one grant
-- Assumes nothing.
use Prim.Native.Nat.{ℕ, zero, suc, ◌+◌, ◌*◌, ◌-◌, ◌<◌, ◌≤◌}
use mathlib.Core.Logic.{◌⊎◌, inl, inr}
use mathlib.Core.Path.{◌≡◌, refl, sym, ap, ap₂, ◌∙◌}
use mathlib.Core.Bool.{true}
use mathlib.Core.List.Memᴰ
use mathlib.Core.List.{List, [], ◌∷◌, ◌++◌, map, map-append, map-map, Memᴰ}
use native.Mathlib.Omega.{arith}
use lib.ListN.{length, get_or}
use borrow.Author.Tests.{ne_eqb}
use Rattle.lists.specs.Ranges.{count_from}
use Rattle.lists.proofs.CountLaws.{mem_count_from}
use Rattle.lists.proofs.DistinctLaws.{distinct-left}
use Rattle.lists.proofs.KeyLaws.{distinct_key}
use Rattle.model.specs.declared.Kind.{Kind}
use Rattle.model.specs.declared.Kind.TheVariants.{Bars, Opens}
use Rattle.model.specs.declared.Grant.{Grant}
use Rattle.model.specs.Kind.{kind_number}
use Rattle.geometry.specs.declared.Side.{Side}
use Rattle.geometry.specs.declared.Side.TheVariants.{Left, Right}
use Rattle.geometry.specs.Axis.{axis_of}
use Rattle.geometry.specs.Levels.{levels}
use Rattle.geometry.specs.Region.{Region, half}
use Rattle.geometry.specs.Point.{inside}
use Rattle.pool.specs.Cell.{grant_words}
use Rattle.adt.specs.Node.{link_place, parent_at, point_at}
use Rattle.adt.specs.Reach.{child_of, node_at, cell_before, NamesBefore, ParentsAlong, free_at, Path, from_root, from_free, end_of, Once, region_of, Carries}
use Rattle.adt.proofs.Spells.{Tree, blank, node, cells_of, Spells, spells_blank, spells_node, FreeChain, chain_end, chain_more}
use Rattle.adt.proofs.Parents.{Parented, parented_blank, parented_first, parented_child}
use Rattle.adt.proofs.TreeLaws.{child, spells_child}
use Rattle.adt.proofs.ChainLaws.{chain_le}
use Rattle.adt.proofs.Linked.{Linked, linked_distinct, linked_all}

-- rank and kind share a word
word-rank-kind : (a b : ℕ) (k l : Kind) → a * 2 + kind_number k ≡ b * 2 + kind_number l → (a ≡ b) × (k ≡ l)
word-rank-kind a b Bars Bars e = (omega arith, refl)
word-rank-kind a b Bars Opens e = absurd (omega arith)
word-rank-kind a b Opens Bars e = absurd (omega arith)
word-rank-kind a b Opens Opens e = (omega arith, refl)

words-grant : (g h : Grant) → grant_words g ≡ grant_words h → g ≡ h
words-grant g h e =
    let word : (i : ℕ) → get_or (grant_words g) i 0 ≡ get_or (grant_words h) i 0 = λ i. ap (λ (ws : List ℕ). get_or ws i 0) e in
    let both = word-rank-kind g.rank h.rank g.kind h.kind (word 1) in
    λ i. record {
      number = word 0 i;
      rank = both.0 i;
      kind = both.1 i;
      bounds =
          record {
            staff_from = word 2 i;
            staff_to = word 3 i;
            door_from = word 4 i;
            door_to = word 5 i;
            quarter_from = word 6 i;
            quarter_to = word 7 i;
          };
    }

pub carries_one : (w : List ℕ) (k : ℕ) (g h : Grant) → Carries w k g → Carries w k h → g ≡ h
carries_one w k g h a b = words-grant g h (sym a ∙ b)

unfoldable pub paths_in : List Side → Tree → List (List Side)
paths_in p blank = []
paths_in p (node k l r) = p ∷ paths_in (Left ∷ p) l ++ paths_in (Right ∷ p) r

abbrev pub paths_of : Tree → List ℕ → List Path
paths_of t ks = map from_root (paths_in [] t) ++ map from_free (count_from 0 (length ks))

module _ (w : List ℕ) where
  -- the child of a cell is its link, and there is none behind a blank link
  child_link : (k : ℕ) (s : Side) → 0 < k → child_of w k s ≡ get_or w (link_place k s) 0
  child_link k s pos = rw (ne_eqb k 0 (omega arith))

  child_some : (k : ℕ) (s : Side) → 0 < child_of w k s → 0 < k
  child_some zero s h = h
  child_some (suc k) s h = omega arith

  pub path_child : (p : List Side) (s : Side) {k : ℕ} → node_at w p ≡ k → 0 < k → node_at w (s ∷ p) ≡ get_or w (link_place k s) 0
  unfolding node_at
  path_child p s {k} e pos = ap (λ (j : ℕ). child_of w j s) e ∙ child_link k s pos

  pub path_before : (p : List Side) (s : Side) → 0 < node_at w (s ∷ p) → 0 < node_at w p
  unfolding node_at
  path_before p s h = child_some (node_at w p) s h

  pub free-next : (n : ℕ) {k : ℕ} → free_at w n ≡ k → 0 < k → free_at w (suc n) ≡ get_or w (link_place k Left) 0
  unfolding free_at
  free-next n {k} e pos = ap (λ (j : ℕ). child_of w j Left) e ∙ child_link k Left pos

  module _ (c : ℕ) where
    ends_paths : {m k : ℕ} {g : Region} {t : Tree} (p : List Side) → node_at w p ≡ k → Spells w c m g k t → map (node_at w) (paths_in p t) ≡ cells_of t
    unfolding paths_in cells_of
    ends_paths p e spells_blank = refl
    ends_paths p e (spells_node {k = k} {l = l} {r = r} pos le i x y) =
        ap₂ (λ (j : ℕ) (js : List ℕ). j ∷ js) e
        (map-append (node_at w) (paths_in (Left ∷ p) l) (paths_in (Right ∷ p) r)
        ∙ ap₂ (λ (is js : List ℕ). is ++ js) (ends_paths (Left ∷ p) (path_child p Left e pos) x) (ends_paths (Right ∷ p) (path_child p Right e pos) y))

    ends-free : {k : ℕ} {ks : List ℕ} (n : ℕ) → free_at w n ≡ k → FreeChain w c k ks → map (free_at w) (count_from n (length ks)) ≡ ks
    unfolding count_from
    ends-free n e chain_end = refl
    ends-free n e (chain_more {k = k} {ks = ks} pos le x) = ap₂ (λ (j : ℕ) (js : List ℕ). j ∷ js) e (ends-free (suc n) (free-next n e pos) x)

    -- the path of a spelled tree's first cell
    paths_first : {m k : ℕ} {g : Region} {t : Tree} (p : List Side) → 0 < k → Spells w c m g k t → Memᴰ p (paths_in p t)
    unfolding paths_in
    paths_first p h spells_blank = absurd (omega arith)
    paths_first p h (spells_node pos le i x y) = Memᴰ.head refl

    -- the paths of a node are its own, and those of its children
    paths_child : (s : Side) (p : List Side) (k : ℕ) (l r : Tree) (q : List Side) → Memᴰ q (paths_in (s ∷ p) (child s l r))
        → Memᴰ q (paths_in p (node k l r))
    unfolding paths_in
    paths_child Left p k l r q m = Memᴰ.tail (Memᴰ.append_left (paths_in (Right ∷ p) r) m)
    paths_child Right p k l r q m = Memᴰ.tail (Memᴰ.append_right (paths_in (Left ∷ p) l) m)

    -- a path that goes on is one too, if it ends at a cell
    paths_more : {m k : ℕ} {g : Region} {t : Tree} (p : List Side) → node_at w p ≡ k → Spells w c m g k t → (q : List Side) (s : Side)
        → Memᴰ q (paths_in p t)
        → 0 < node_at w (s ∷ q) → Memᴰ (s ∷ q) (paths_in p t)
    unfolding paths_in
    paths_more p e spells_blank q s m h = absurd (Memᴰ.not-nil m)
    paths_more p e (spells_node {n = n} {g = g} {k = k} {l = l} {r = r} pos le i x y) q s (Memᴰ.head d) h =
        let first : 0 < get_or w (link_place k s) 0 = rw (ap (λ (z : List Side). node_at w (s ∷ z)) d ∙ path_child p s e pos) at h in
        let own = paths_first (s ∷ p) first (spells_child s (spells_node {n = n} {g = g} pos le i x y)) in
        Memᴰ.cast (ap (λ (z : List Side). s ∷ z) d) (paths_child s p k l r (s ∷ p) own)
    paths_more p e (spells_node {k = k} {l = l} {r = r} pos le i x y) q s (Memᴰ.tail m) h =
        go (paths_more (Left ∷ p) (path_child p Left e pos) x q s) (paths_more (Right ∷ p) (path_child p Right e pos) y q s)
        (Memᴰ.append_cases (paths_in (Left ∷ p) l) m)
      where
        go : (Memᴰ q (paths_in (Left ∷ p) l) → 0 < node_at w (s ∷ q) → Memᴰ (s ∷ q) (paths_in (Left ∷ p) l))
            → (Memᴰ q (paths_in (Right ∷ p) r) → 0 < node_at w (s ∷ q) → Memᴰ (s ∷ q) (paths_in (Right ∷ p) r))
            → Memᴰ q (paths_in (Left ∷ p) l) ⊎ Memᴰ q (paths_in (Right ∷ p) r) → Memᴰ (s ∷ q) (paths_in p (node k l r))
        go f f' (inl j) = paths_child Left p k l r (s ∷ q) (f j h)
        go f f' (inr j) = paths_child Right p k l r (s ∷ q) (f' j h)

-- one step further: a child of a spelled tree's first cell, and the next free cell
module _ {w : List ℕ} {c : ℕ} where
  spells_step : {m k b : ℕ} {g : Region} {t : Tree} (s : Side) (i : ℕ) → m ≡ suc levels - i → Spells w c m g k t
      → Parented w b t → (u : Tree) × Spells w c (suc levels - suc i) (half s g (axis_of i)) (child_of w k s) u × Parented w k u
  spells_step s i e spells_blank parents = (blank, spells_blank, parented_blank)
  spells_step s i e (spells_node {n = n} {g = g} {k = k} {l = l} {r = r} pos le j x y) parents =
      let here : levels - n ≡ i = omega arith in
      let left : n ≡ suc levels - suc i = omega arith in
      (child s l r, rw (child_link w k s pos, ← left, ← here) (spells_child s (spells_node {n = n} {g = g} pos le j x y)), parented_child s parents)

  spells_le : {m k : ℕ} {g : Region} {t : Tree} → Spells w c m g k t → k ≤ c
  spells_le spells_blank = omega arith
  spells_le (spells_node pos le j x y) = le

  spells_inside : {m k : ℕ} {g : Region} {t : Tree} → 0 < k → Spells w c m g k t → (inside g (point_at w k) ≡ true) × (0 < m)
  spells_inside h spells_blank = absurd (omega arith)
  spells_inside h (spells_node pos le j x y) = (j, omega arith)

  spells_parent : {m k b : ℕ} {g : Region} {t : Tree} → 0 < k → Spells w c m g k t → Parented w b t → parent_at w k ≡ b
  spells_parent h spells_blank parents = absurd (omega arith)
  spells_parent h (spells_node pos le j x y) parents = parented_first parents

  chain_step : {k : ℕ} {ks : List ℕ} → FreeChain w c k ks → (js : List ℕ) × FreeChain w c (child_of w k Left) js × (length js ≡ length ks - 1)
  chain_step chain_end = ([], chain_end, refl)
  chain_step (chain_more {k = k} {ks = ks} pos le x) = (ks, rw (child_link w k Left pos) x, omega arith)

  chain_some : {k : ℕ} {ks : List ℕ} → 0 < k → FreeChain w c k ks → 0 < length ks
  chain_some h chain_end = h
  chain_some h (chain_more pos le x) = omega arith

module _ {w : List ℕ} {c : ℕ} {t : Tree} {ks : List ℕ} (h : Linked w c t ks) where
  ends_root : map (node_at w) (paths_in [] t) ≡ cells_of t
  unfolding node_at
  ends_root = ends_paths w c [] refl h.spells

  pub ends_paths_of : map (end_of w) (paths_of t ks) ≡ cells_of t ++ ks
  unfolding free_at
  ends_paths_of =
      map-append (end_of w) (map from_root (paths_in [] t)) (map from_free (count_from 0 (length ks)))
      ∙ ap₂ (λ (is js : List ℕ). is ++ js)
      (map-map (end_of w) from_root (paths_in [] t) ∙ ends_root)
      (map-map (end_of w) from_free (count_from 0 (length ks)) ∙ ends-free w c 0 refl h.free)

  pub spells_path : (p : List Side) → (u : Tree) × Spells w c (suc levels - length p) (region_of p) (node_at w p) u × Parented w (cell_before w p) u
  unfolding node_at region_of cell_before
  spells_path [] = (t, h.spells, h.parents)
  spells_path (s ∷ p) = let r = spells_path p in spells_step s (length p) refl r.1 r.2

  chain_path : (n : ℕ) → (js : List ℕ) × FreeChain w c (free_at w n) js × (length js ≡ length ks - n)
  unfolding free_at
  chain_path zero = (ks, h.free, omega arith)
  chain_path (suc n) = let r = chain_path n in let s = chain_step r.1 in (s.0, s.1, omega (arith, r.2, s.2))

  root_mem : (p : List Side) → 0 < node_at w p → Memᴰ p (paths_in [] t)
  unfolding node_at
  root_mem [] i = paths_first w c [] i h.spells
  root_mem (s ∷ p) i = paths_more w c [] refl h.spells p s (root_mem p (path_before w p s i)) i

  pub free-within : (n : ℕ) → 0 < free_at w n → n < length ks
  free-within n i = let r = chain_path n in omega (arith, chain_some i r.1, r.2)

  pub path_mem : (p : Path) → 0 < end_of w p → Memᴰ p (paths_of t ks)
  path_mem (from_root p) i = Memᴰ.append_left (map from_free (count_from 0 (length ks))) (Memᴰ.map from_root (root_mem p i))
  path_mem (from_free n) i =
      Memᴰ.append_right (map from_root (paths_in [] t)) (Memᴰ.map from_free (mem_count_from 0 (length ks) n (omega arith) (omega (arith, free-within n i))))

  pub linked_within : (p : Path) → end_of w p ≤ c
  linked_within (from_root p) = spells_le (spells_path p).1
  linked_within (from_free n) = chain_le (chain_path n).1

  pub linked_once : (k : ℕ) → 1 ≤ k → k ≤ c → Once w k
  linked_once k pos le =
      let o = Memᴰ.of_map (end_of w) {b = k} (paths_of t ks) (rw ends_paths_of (linked_all h k pos le)) in
      record {
        path = o.0;
        ends = o.2;
        only = λ p e. distinct_key (end_of w) (rw ends_paths_of (linked_distinct h)) p o.0 (path_mem p (rw e pos)) o.1 (e ∙ sym o.2);
      }

  pub linked_path : (k : ℕ) → Memᴰ k (cells_of t) → (p : List Side) × (node_at w p ≡ k)
  linked_path k m = let o = Memᴰ.of_map (node_at w) {b = k} (paths_in [] t) (rw ends_root m) in (o.0, o.2)

  pub linked_reached : (p : List Side) → 0 < node_at w p → Memᴰ (node_at w p) (cells_of t)
  linked_reached p i = rw ends_root at (Memᴰ.map (node_at w) (root_mem p i))

  pub linked_same : (p q : List Side) → 0 < node_at w p → node_at w q ≡ node_at w p → q ≡ p
  linked_same p q i e =
      distinct_key (node_at w) (rw ends_root (distinct-left (cells_of t) ks (linked_distinct h))) q p (root_mem q (rw e i)) (root_mem p i) e

  pub linked_placed : (p : List Side) → 0 < node_at w p → inside (region_of p) (point_at w (node_at w p)) ≡ true
  linked_placed p i = (spells_inside i (spells_path p).1).0

  pub linked_shallow : (p : List Side) → 0 < node_at w p → length p ≤ levels
  linked_shallow p i = omega (arith, (spells_inside i (spells_path p).1).1)

  pub linked_parent : (p : List Side) → 0 < node_at w p → parent_at w (node_at w p) ≡ cell_before w p
  linked_parent p i = let r = spells_path p in spells_parent i r.1 r.2

  names_before : (p : List Side) → 0 < node_at w p → NamesBefore w c p
  names_before p i = record { some = i; few = linked_within (from_root p); named = linked_parent p i }

  -- along every path to a cell
  pub linked_along : (p : List Side) → 0 < node_at w p → ParentsAlong w c p
  unfolding ParentsAlong
  linked_along [] i = names_before [] i
  linked_along (s ∷ p) i = (names_before (s ∷ p) i, linked_along p (path_before w p s i))
