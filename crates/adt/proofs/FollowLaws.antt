-- The removal walk on a spelled tree: it is never broken, and ends at a terminal cell below the one it starts from.
--   Terminal w c n k at met l r       where the walk from the cell k of the children l and r ends
--   follow-terminal                   it ends there, unless more cells were met than there are
--   terminal_from-ends, terminal_from-terminal     the whole walk from a cell that hangs in the tree
-- Assumes nothing.
use Prim.Native.Nat.{ℕ, zero, suc, ◌+◌, ◌<◌, ◌≤◌}
use mathlib.Core.Path.{◌≡◌, refl, ◌∙◌}
use mathlib.Core.List.{List}
use native.Mathlib.Omega.{arith}
use lib.ListN.{get_or, length-append}
use borrow.Author.Tests.{eq-eqb, ne_eqb, le-leb, lt-ltb}
use Rattle.lists.proofs.PermLaws.{length_perm}
use Rattle.geometry.specs.declared.Side.{Side}
use Rattle.geometry.specs.declared.Side.TheVariants.{Left, Right}
use Rattle.geometry.specs.Levels.{levels}
use Rattle.geometry.specs.Region.{Region}
use Rattle.pool.specs.Layout.{root_place}
use Rattle.adt.specs.Node.{link_place, parent_at}
use Rattle.adt.specs.Search.{Spot}
use Rattle.adt.specs.Remove.{terminal, next_link, follow, terminal_from}
use Rattle.adt.proofs.Spells.{Tree, blank, node, cells_of, size, Spells, spells_blank, spells_node}
use Rattle.adt.proofs.Parents.{Parented, parented_first, parented_child}
use Rattle.adt.proofs.ParentParts.{parented_part}
use Rattle.adt.proofs.TreeLaws.{child, spells_child, cells-size}
use Rattle.adt.proofs.PartLaws.{Part, part_here, part_child, HangsAt, hangs_below}
use Rattle.adt.proofs.PartRegion.{region_spells}
use Rattle.adt.proofs.ExchangeLaws.{outside, part_outside, spells_cell}
use Rattle.adt.proofs.Linked.{Linked, linked_count, linked_capacity}

-- where the walk goes on from a cell: nowhere, or to its child on a side
data Next (w : List ℕ) (k : ℕ) (l r : Tree) : Type 0 where
  next-none : l ≡ blank → r ≡ blank → get_or w (next_link w k) 0 ≡ 0 → Next w k l r
  next_child : (s : Side) (j : ℕ) (x y : Tree) → child s l r ≡ node j x y → next_link w k ≡ link_place k s → Next w k l r

-- from the links of its children
next_of : {w : List ℕ} {c n i j : ℕ} {g h : Region} {l r : Tree} (k : ℕ) → get_or w (link_place k Left) 0 ≡ i → get_or w (link_place k Right) 0 ≡ j
    → Spells w c n g i l → Spells w c n h j r → Next w k l r
next_of {w} k e f spells_blank spells_blank = next-none refl refl (rw (eq-eqb (get_or w (link_place k Left) 0) 0 e) f)
next_of {w} k e f spells_blank (spells_node {k = j} {l = x} {r = y} pos le i a b) =
    next_child Right j x y refl (rw (eq-eqb (get_or w (link_place k Left) 0) 0 e) refl)
next_of {w} k e f (spells_node {k = j} {l = x} {r = y} pos le i a b) other =
    next_child Left j x y refl (rw (ne_eqb (get_or w (link_place k Left) 0) 0 (omega arith)) refl)

pub record Terminal (w : List ℕ) (c n k at met : ℕ) (l r : Tree) : Type 0 where
  pub leaf : ℕ
  pub leaf_at : ℕ
  pub below : ℕ
  pub part : Part (suc n) at (node k l r) (suc below) leaf_at (node leaf blank blank)
  pub found : follow w c n k at met ≡ terminal leaf leaf_at

size_child : (s : Side) (k : ℕ) (l r : Tree) → size (child s l r) < size (node k l r)
unfolding size
size_child Left k l r = omega arith
size_child Right k l r = omega arith

size-some : (k : ℕ) (l r : Tree) → 0 < size (node k l r)
unfolding size
size-some k l r = omega arith

no_node : {w : List ℕ} {c j k : ℕ} {g : Region} {l r : Tree} → Spells w c zero g j (node k l r) → ⊥
no_node x = elim x [ ]

terminal_here : {w : List ℕ} {c n k at met : ℕ} → follow w c n k at met ≡ terminal k at → Terminal w c n k at met blank blank
terminal_here {n = n} {k = k} {at = at} e = record { leaf = k; leaf_at = at; below = n; part = part_here; found = e }

module _ (w : List ℕ) (c : ℕ) where
  -- no child: the cell itself
  follow-none : (n k at met : ℕ) → get_or w (next_link w k) 0 ≡ 0 → follow w c n k at met ≡ terminal k at
  unfolding follow
  follow-none zero k at met e = rw e refl
  follow-none (suc n) k at met e = rw e refl

  -- a child: on from there
  follow_child : (n k at met j : ℕ) (s : Side) → next_link w k ≡ link_place k s → get_or w (link_place k s) 0 ≡ j → 0 < j → j ≤ c → met < c → parent_at w j ≡ k
      → follow w c (suc n) k at met ≡ follow w c n j (link_place k s) (suc met)
  unfolding follow
  follow_child n k at met j s q e pos le lt named =
      rw (q, e, ne_eqb j 0 (omega arith), le-leb j c le, lt-ltb met c lt, eq-eqb (parent_at w j) k named) refl

-- the same walk, from the cell before
terminal_child : {w : List ℕ} {c n j met : ℕ} {x y : Tree} (k at : ℕ) (l r : Tree) (s : Side) → child s l r ≡ node j x y
    → follow w c (suc n) k at met ≡ follow w c n j (link_place k s) (suc met) → Terminal w c n j (link_place k s) (suc met) x y
    → Terminal w c (suc n) k at met l r
terminal_child {n = n} k at l r s e f t =
    let part : Part (suc n) (link_place k s) (child s l r) (suc t.below) t.leaf_at (node t.leaf blank blank) = rw e t.part in
    record { leaf = t.leaf; leaf_at = t.leaf_at; below = t.below; part = part_child s part; found = f ∙ t.found }

pub follow-terminal : {w : List ℕ} {c j p : ℕ} {g : Region} {l r : Tree} (n k at met : ℕ) → Spells w c (suc n) g j (node k l r)
    → Parented w p (node k l r) → met + size (node k l r) ≤ suc c → Terminal w c n k at met l r
follow-terminal {w} {c} {l = l} {r = r} zero k at met sp parents few = go (next_of k refl refl (spells_child Left sp) (spells_child Right sp))
  where
    go : Next w k l r → Terminal w c zero k at met l r
    go (next-none e f i) = rw (e, f) (terminal_here (follow-none w c zero k at met i))
    go (next_child s j x y e q) = absurd (no_node (rw e at (spells_child s sp)))
follow-terminal {w} {c} {l = l} {r = r} (suc n) k at met sp parents few =
    go (λ s j x y i h. follow-terminal n j (link_place k s) (suc met)) (next_of k refl refl (spells_child Left sp) (spells_child Right sp))
  where
    go : ((s : Side) (j : ℕ) (x y : Tree) (i : ℕ) (h : Region) → Spells w c (suc n) h i (node j x y) → Parented w k (node j x y)
        → suc met + size (node j x y) ≤ suc c → Terminal w c n j (link_place k s) (suc met) x y)
        → Next w k l r → Terminal w c (suc n) k at met l r
    go ih (next-none e f i) = rw (e, f) (terminal_here (follow-none w c (suc n) k at met i))
    go ih (next_child s j x y e q) =
        let below = rw e at (spells_child s sp) in
        let first = spells_cell below in
        let named = rw e at (parented_child s parents) in
        let small : size (node j x y) < size (node k l r) = rw e at (size_child s k l r) in
        terminal_child k at l r s e
        (follow_child w c n k at met j s q first.link first.pos first.le (omega (arith, size-some j x y)) (parented_first named))
        (ih s j x y _ _ below named (omega arith))

-- the whole walk from a cell that hangs in the tree
module _ {w : List ℕ} {c : ℕ} {t : Tree} {ks : List ℕ} {k : ℕ} {spot : Spot} (linked : Linked w c t ks) (hangs : HangsAt (suc levels) root_place t k spot) where
  part-few : size (node k hangs.left hangs.right) ≤ c
  part-few =
      let u = node k hangs.left hangs.right in
      let all = length_perm (part_outside hangs.part) in
      omega (arith, linked_count linked, cells-size t, cells-size u, length-append (cells_of u) (outside hangs.part))

  pub terminal_from-ends : Terminal w c hangs.below k spot.link 1 hangs.left hangs.right
  terminal_from-ends =
      follow-terminal hangs.below k spot.link 1 (region_spells hangs.part refl linked.spells)
      (parented_part hangs.part linked.parents) (omega (arith, part-few))

  pub terminal_from-terminal : terminal_from w k spot ≡ terminal terminal_from-ends.leaf terminal_from-ends.leaf_at
  unfolding terminal_from
  terminal_from-terminal = rw (linked_capacity linked, hangs_below hangs) terminal_from-ends.found
