-- Where a cell hangs in the tree, and the path that ends at it.
--   part-path        a part of a tree that hangs at a path hangs at one too, longer by the levels between the two
--   hangs_path       the level of the spot at which a cell hangs is the length of its path
--   path-drop        a path that ends at a cell ends at one without its last steps too
-- Assumes nothing.
use Prim.Native.Nat.{ℕ, zero, suc, ◌+◌, ◌<◌}
use mathlib.Core.Path.{◌≡◌, refl, sym, ap, ◌∙◌}
use mathlib.Core.List.{List, [], ◌∷◌}
use native.Mathlib.Omega.{arith}
use lib.ListN.{length, drop}
use Rattle.geometry.specs.declared.Side.{Side}
use Rattle.geometry.specs.Levels.{levels}
use Rattle.geometry.specs.Region.{Region}
use Rattle.pool.specs.Layout.{root_place}
use Rattle.adt.specs.Search.{Spot}
use Rattle.adt.specs.Reach.{node_at}
use Rattle.adt.proofs.Spells.{Tree, Spells, spells_node}
use Rattle.adt.proofs.Parents.{first_cell, spells_first}
use Rattle.adt.proofs.TreeLaws.{spells_child, cells_upto}
use Rattle.adt.proofs.PartLaws.{Part, part_here, part_child, HangsAt, hangs_cell}
use Rattle.adt.proofs.Linked.{Linked}
use Rattle.adt.proofs.ReachLaws.{path_child, path_before, linked_same}

pub path-drop : (w : List ℕ) (p : List Side) (i : ℕ) → 0 < node_at w p → 0 < node_at w (drop i p)
path-drop w p zero h = h
path-drop w [] (suc i) h = h
path-drop w (s ∷ p) (suc i) h = path-drop w p i (path_before w p s h)

pub part-path : {w : List ℕ} {c n at m link k : ℕ} {g : Region} {t u : Tree} (p : List Side) → node_at w p ≡ k → Spells w c n g k t
    → Part n at t m link u
    → (q : List Side) × (node_at w q ≡ first_cell u) × (length q + m ≡ length p + n)
part-path p e x part_here = (p, e ∙ spells_first x, refl)
part-path {w} p e (spells_node {n = n} {g = g} pos le i x y) (part_child s part) =
    let o = part-path (s ∷ p) (path_child w p s e pos) (spells_child s (spells_node {n = n} {g = g} pos le i x y)) part in
    (o.0, o.1, omega (arith, o.2))

module _ {w : List ℕ} {c : ℕ} {t : Tree} {ks : List ℕ} (h : Linked w c t ks) where
  pub hangs_path : {k : ℕ} {spot : Spot} → HangsAt (suc levels) root_place t k spot → (p : List Side) → node_at w p ≡ k → spot.level ≡ length p
  unfolding node_at
  hangs_path {k} hangs p e =
      let pos = (cells_upto h.spells k (hangs_cell hangs)).0 in
      let o = part-path [] refl h.spells hangs.part in
      let same = linked_same h p o.0 (rw e pos) (o.1 ∙ sym e) in
      omega (arith, o.2, hangs.level, ap length same)
