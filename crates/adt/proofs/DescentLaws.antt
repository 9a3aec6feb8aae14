-- The way down of specs/Insert, in a tree that words spell: a point that differs from each cell's comes to a blank link, never broken.
--   Apart w p t        the point of each cell of t differs from p
--   Leads w p t        the way of p leads to a blank part of t, and the region there holds p
--   descend-leads      so it does where the root's link spells a tree of distinct cells, all apart from p
-- Assumes nothing.
use Prim.Native.Nat.{ℕ, zero, suc, ◌+◌, ◌-◌, ◌<◌, ◌≤◌}
use mathlib.Core.Path.{◌≡◌, refl, ap, ◌∙◌}
use mathlib.Core.Bool.{true}
use mathlib.Core.List.{List, Memᴰ}
use native.Mathlib.Omega.{arith}
use lib.ListN.{get_or}
use borrow.Author.Tests.{lt-ltb, le-leb, eq-eqb, ne_eqb}
use Rattle.lists.proofs.DistinctLaws.{Distinct}
use Rattle.geometry.specs.declared.Side.{Side}
use Rattle.geometry.specs.declared.Side.TheVariants.{Left, Right}
use Rattle.geometry.specs.Axis.{axis_of}
use Rattle.geometry.specs.Levels.{levels}
use Rattle.geometry.specs.Region.{Region, root_region, side_of, half}
use Rattle.geometry.specs.Point.{inside}
use Rattle.geometry.proofs.AxisLaws.{axis_lt}
use Rattle.geometry.proofs.RegionLaws.{Shape, root_shape, half-shape, inside-half}
use Rattle.geometry.proofs.PointLaws.{Differ}
use Rattle.geometry.proofs.LevelLaws.{Wide, root_wide, half_wide, wide_single}
use Rattle.pool.specs.Layout.{root_place}
use Rattle.pool.specs.Capacity.{capacity_of}
use Rattle.adt.specs.Node.{link_place, parent_at, point_at}
use Rattle.adt.specs.Insert.{blank_at, descend_from, descend}
use Rattle.adt.proofs.Spells.{Tree, blank, node, cells_of, size, Spells, spells_blank, spells_node}
use Rattle.adt.proofs.Parents.{Parented, parented_first, parented_child}
use Rattle.adt.proofs.TreeLaws.{child, child_cells, size_few}
use Rattle.adt.proofs.PartLaws.{Part, part_here, part_child}
use Rattle.adt.proofs.PartRegion.{region_in}

-- a step of the way down
module _ (w : List ℕ) (c : ℕ) (p : List ℕ) (n from at : ℕ) (g : Region) (met : ℕ) where
  descent_blank : get_or w at 0 ≡ 0 → descend_from w c p (suc n) from at g met ≡ blank_at at from
  unfolding descend_from
  descent_blank e = rw (eq-eqb (get_or w at 0) 0 e)

  descent_on : (k : ℕ) → get_or w at 0 ≡ k → 0 < k → k ≤ c → met < c → parent_at w k ≡ from → (s : Side) → side_of g (axis_of (levels - n)) (get_or p (axis_of (levels - n)) 0) ≡ s
      → descend_from w c p (suc n) from at g met ≡ descend_from w c p n k (link_place k s) (half s g (axis_of (levels - n))) (suc met)
  unfolding descend_from
  descent_on k is pos le lt named s e = rw (is, ne_eqb k 0 (omega arith), le-leb k c le, lt-ltb met c lt, eq-eqb (parent_at w k) from named, e)

-- from the place `at`, where the tree t hangs in the region g, the way leads to the blank part of t at the place `link`
record LeadsFrom (w : List ℕ) (c : ℕ) (p : List ℕ) (n from at : ℕ) (g : Region) (met : ℕ) (t : Tree) : Type 0 where
  link : ℕ
  below : ℕ
  part : Part (suc n) at t (suc below) link blank
  is_blank : get_or w link 0 ≡ 0
  holds : inside (region_in part g) p ≡ true
  parent : ℕ
  way : descend_from w c p (suc n) from at g met ≡ blank_at link parent

-- each cell's point differs from p
abbrev pub Apart : List ℕ → List ℕ → Tree → Type 0
Apart w p t = (k : ℕ) → Memᴰ k (cells_of t) → Differ p (point_at w k)

-- the one or the other, by the side
either : (P : Side → Type 0) → P Left → P Right → (s : Side) → P s
either P x y Left = x
either P x y Right = y

module _ (w : List ℕ) (c : ℕ) (p : List ℕ) where
  node_leads : {n from at k met : ℕ} {g : Region} {l r : Tree} → get_or w at 0 ≡ k → 0 < k → k ≤ c → met < c → parent_at w k ≡ from
      → ((s : Side) → side_of g (axis_of (levels - suc n)) (get_or p (axis_of (levels - suc n)) 0) ≡ s
      → LeadsFrom w c p n k (link_place k s) (half s g (axis_of (levels - suc n))) (suc met) (child s l r))
      → LeadsFrom w c p (suc n) from at g met (node k l r)
  unfolding region_in
  node_leads {n} {from} {at} {k} {met} {g} is pos le lt named children =
      let a = axis_of (levels - suc n) in
      let s = side_of g a (get_or p a 0) in
      let below = children s refl in
      record {
        link = below.link;
        below = below.below;
        part = part_child s below.part;
        is_blank = below.is_blank;
        holds = below.holds;
        parent = below.parent;
        way = descent_on w c p (suc n) from at g met k is pos le lt named s refl ∙ below.way;
      }

  leads : {n k : ℕ} {g : Region} {t : Tree} (from at met : ℕ) → get_or w at 0 ≡ k → Spells w c (suc n) g k t → Parented w from t → Shape g → Wide n g → inside g p ≡ true
      → Apart w p t → met + size t ≤ c → LeadsFrom w c p n from at g met t
  unfolding cells_of size region_in
  leads {n} {g = g} from at met is spells_blank parents v f i d fits =
      record { link = at; below = n; part = part_here; is_blank = is; holds = i; parent = from; way = descent_blank w c p n from at g met is }
  leads {n = zero} {g = g} from at met is (spells_node {k = k} pos le j x y) parents v f i d fits =
      absurd ((d k (Memᴰ.head refl)).differ (wide_single p (point_at w k) f i j))
  leads {n = suc n} {g = g} from at met is (spells_node {k = k} {l = l} {r = r} pos le j x y) parents v f i d fits =
      let a = axis_of (levels - suc n) in
      let lt = axis_lt (levels - suc n) in
      let on = inside-half g a v lt p i in
      node_leads {l = l} {r = r} is pos le (omega arith) (parented_first parents)
      (either (λ s. side_of g a (get_or p a 0) ≡ s → LeadsFrom w c p n k (link_place k s) (half s g a) (suc met) (child s l r))
      (λ e. leads k (link_place k Left) (suc met) refl x (parented_child Left parents) (half-shape Left g a v lt) (half_wide Left v f) (rw e at on)
      (λ z m. d z (child_cells Left k l r z m)) (omega arith))
      (λ e. leads k (link_place k Right) (suc met) refl y (parented_child Right parents) (half-shape Right g a v lt) (half_wide Right v f) (rw e at on)
      (λ z m. d z (child_cells Right k l r z m)) (omega arith)))

pub record Leads (w p : List ℕ) (t : Tree) : Type 0 where
  pub link : ℕ
  pub below : ℕ
  pub part : Part (suc levels) root_place t (suc below) link blank
  pub is_blank : get_or w link 0 ≡ 0
  pub holds : inside (region_in part root_region) p ≡ true
  pub parent : ℕ
  pub way : descend w p ≡ blank_at link parent

pub descend-leads : {w : List ℕ} {c : ℕ} {t : Tree} (p : List ℕ) → Spells w c (suc levels) root_region (get_or w root_place 0) t → Parented w 0 t → Distinct (cells_of t)
    → capacity_of w ≡ c
    → inside root_region p ≡ true → Apart w p t → Leads w p t
unfolding descend
descend-leads {w} {c} p s parents d e i apart =
    let found = leads w c p 0 root_place 0 refl s parents root_shape root_wide i apart (omega (arith, size_few s d)) in
    record {
      link = found.link;
      below = found.below;
      part = found.part;
      is_blank = found.is_blank;
      holds = found.holds;
      parent = found.parent;
      way = ap (λ (k : ℕ). descend_from w k p (suc levels) 0 root_place root_region 0) e ∙ found.way;
    }
