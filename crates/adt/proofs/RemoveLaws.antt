-- A cell that is removed: the tree then has all the others, each in a region that holds its point, and the cell is the free head.
--   freed-*                    reads of the words once a cell is free
--   Removed w v c t k ks       what a removal leaves: the words v, with the cells of t but k in the tree, and k before ks free
--   remove-keeps_linked        it leaves that
-- That its walk is never broken is in FollowLaws. Assumes nothing.
use Prim.Native.Nat.{ℕ, suc, ◌<◌, ◌≤◌}
use mathlib.Core.Path.{◌≡◌, refl, sym, subst, ◌∙◌}
use mathlib.Core.List.{List, [], ◌∷◌, ◌++◌, Memᴰ}
use native.Mathlib.Omega.{arith}
use lib.ListN.{length, get_or, length-set}
use lib.Seq.{get_or-set_same, get_or-set_other}
use Rattle.lists.proofs.DistinctLaws.{Distinct, Upto, distinct-left, distinct_right, distinct_apart}
use Rattle.lists.proofs.PermLaws.{put_seam, put_perm, Perm, perm_sym, perm_trans, perm_cons, perm_append, perm_mem, perm_distinct}
use Rattle.geometry.specs.declared.Side.TheVariants.{Left}
use Rattle.geometry.specs.Levels.{levels}
use Rattle.geometry.specs.Region.{root_region}
use Rattle.geometry.proofs.RegionLaws.{root_shape}
use Rattle.pool.specs.declared.Field.{Field}
use Rattle.pool.specs.declared.Field.TheVariants as field
use Rattle.pool.specs.Layout.{capacity_place, root_place, free_place, field_of}
use Rattle.pool.specs.Capacity.{pool_length}
use Rattle.pool.specs.Cell.{grant_at, with_cell}
use Rattle.pool.specs.Fresh.{free_cell}
use Rattle.pool.proofs.LayoutLaws.{field_set_header}
use Rattle.pool.proofs.CellLaws.{SameGrantWords, length-with_cell, field_with_cell-same, field_with_cell_other, header_with_cell, grant_at-same}
use Rattle.pool.proofs.FreeCellLaws.{Cleared, cleared_same, cleared_with_cell}
use Rattle.adt.specs.Node.{link_field, link_place}
use Rattle.adt.specs.Search.{Spot}
use Rattle.adt.specs.Insert.{free_head}
use Rattle.adt.specs.Remove.{terminal, terminal_from, freed, removed}
use Rattle.adt.proofs.Spells.{Tree, blank, node, cells_of, Spells, FreeChain, chain_more}
use Rattle.adt.proofs.Parents.{Parented, parented_frame}
use Rattle.adt.proofs.ParentParts.{parent_in, parented_part, exchanged_parented}
use Rattle.adt.proofs.PartLaws.{Part, HangsAt}
use Rattle.adt.proofs.NodeLaws.{Away, root_away, Hook, hook_root, hook_link, hook_not-free, hook_past, hook_away, hook_with_cell}
use Rattle.adt.proofs.FrameLaws.{spells_frame, chain_frame}
use Rattle.adt.proofs.PartRegion.{region_in, region_shape, region_spells}
use Rattle.adt.proofs.ExchangeLaws.{spells_cell, exchanged, outside, exchanged_cells, part_outside, part_away, part_hook, Kept, exchanged_spells}
use Rattle.adt.proofs.Linked.{Linked, linked_distinct, linked_upto}
use Rattle.adt.proofs.FollowLaws.{terminal_from-ends, terminal_from-terminal}
use Rattle.adt.proofs.UnlinkLaws.{Unlinked, unlinked-part}

-- the words with the free cell stored
abbrev emptied : List ℕ → ℕ → List ℕ
emptied x k = with_cell x k (free_cell (free_head x))

-- reads of the words x once the cell k is free
module _ (x : List ℕ) {c k : ℕ} (long : length x ≡ pool_length c) (pos : 0 < k) (le : k ≤ c) where
  pub freed-long : length (freed x k) ≡ pool_length c
  unfolding freed
  freed-long = length-set (emptied x k) free_place k ∙ length-with_cell x k (free_cell (free_head x)) ∙ long

  pub freed-capacity : get_or (freed x k) capacity_place 0 ≡ get_or x capacity_place 0
  unfolding freed
  freed-capacity =
      get_or-set_other (emptied x k) free_place capacity_place k 0 (omega arith)
      ∙ header_with_cell x k (free_cell (free_head x)) refl capacity_place (omega arith)

  pub freed-free_head : free_head (freed x k) ≡ k
  unfolding freed
  freed-free_head = get_or-set_same (emptied x k) free_place k 0 (omega (arith, length-with_cell x k (free_cell (free_head x))))

  -- it leads to the old free head
  pub freed-left : get_or (freed x k) (link_place k Left) 0 ≡ free_head x
  unfolding freed field_of
  freed-left =
      get_or-set_other (emptied x k) free_place (link_place k Left) k 0 (hook_not-free {c = c} (hook_link Left pos le))
      ∙ field_with_cell-same x k (free_cell (free_head x)) refl c field.Left pos le long

  -- where others hang
  pub freed_other : {link : ℕ} → Hook c link → Away link k → get_or (freed x k) link 0 ≡ get_or x link 0
  unfolding freed
  freed_other {link} other away =
      get_or-set_other (emptied x k) free_place link k 0 (hook_not-free other)
      ∙ hook_with_cell x k (free_cell (free_head x)) refl pos other away

  -- others' fields
  pub freed_field : (j : ℕ) (f : Field) → 0 < j → ¬ (j ≡ k) → field_of (freed x k) j f ≡ field_of x j f
  unfolding freed
  freed_field j f hj n = field_set_header (emptied x k) free_place j f k (omega arith) ∙ field_with_cell_other x k (free_cell (free_head x)) refl j f hj pos n

  -- its words but left are 0
  pub freed_cleared : Cleared (freed x k) k
  unfolding freed
  freed_cleared f h = field_set_header (emptied x k) free_place k f k (omega arith) ∙ cleared_with_cell x c k (free_head x) pos le long f h

pub record Removed (w v : List ℕ) (c : ℕ) (t : Tree) (k : ℕ) (ks : List ℕ) : Type 0 where
  pub tree : Tree
  pub linked : Linked v c tree (k ∷ ks)
  pub cells : Perm (k ∷ cells_of tree) (cells_of t)
  pub others : (j : ℕ) → Memᴰ j (cells_of tree) → grant_at v j ≡ grant_at w j
  -- the same of the words that spell them
  pub other_words : (j : ℕ) → Memᴰ j (cells_of tree) → SameGrantWords w v j

-- the cell k, of the children l and r, at its place in the tree
module _ {w : List ℕ} {c : ℕ} {t : Tree} {ks : List ℕ} {n at k : ℕ} {l r : Tree} (h : Linked w c t ks)
    (p : Part (suc levels) root_place t (suc n) at (node k l r)) where
  part-cell : (j : ℕ) → Memᴰ j (cells_of (node k l r)) → Memᴰ j (cells_of t)
  part-cell j m = perm_mem (part_outside p) (mathlib.Core.List.Memᴰ.append_left (outside p) m)

  outside_cell : (j : ℕ) → Memᴰ j (outside p) → Memᴰ j (cells_of t)
  outside_cell j m = perm_mem (part_outside p) (mathlib.Core.List.Memᴰ.append_right (cells_of (node k l r)) m)

  upto_tree : Upto c (cells_of t)
  upto_tree j m = linked_upto h j (mathlib.Core.List.Memᴰ.append_left ks m)

  upto_outside : Upto c (outside p)
  upto_outside j m = upto_tree j (outside_cell j m)

  distinct-parts : Distinct (cells_of (node k l r) ++ outside p)
  distinct-parts = perm_distinct (perm_sym (part_outside p)) (distinct-left (cells_of t) ks (linked_distinct h))

  hook : Hook c at
  hook = part_hook p hook_root upto_outside

  -- no cell of the part, and no free one, has the part's place
  part_apart : (j : ℕ) → Memᴰ j (cells_of (node k l r)) → Away at j
  part_apart j m =
      part_away p j (root_away j) (upto_tree j (part-cell j m)).0 upto_outside (λ i. distinct_apart (cells_of (node k l r)) distinct-parts j m i)

  free-apart : (j : ℕ) → Memᴰ j ks → Away at j
  free-apart j m =
      part_away p j (root_away j) (linked_upto h j (mathlib.Core.List.Memᴰ.append_right (cells_of t) m)).0 upto_outside
      (λ i. distinct_apart (cells_of t) (linked_distinct h) j (outside_cell j i) m)

  own : Memᴰ k (cells_of (node k l r))
  unfolding cells_of
  own = mathlib.Core.List.Memᴰ.head refl

  bounds : (0 < k) × (k ≤ c)
  bounds = upto_tree k (part-cell k own)

  -- unlinked, with the words x
  module _ {x : List ℕ} (u : Unlinked w x c (suc n) at (region_in p root_region) (parent_in p 0) k (cells_of (node k l r))) where
    long : length x ≡ pool_length c
    long = u.long ∙ h.long

    shrunk : Tree
    shrunk = exchanged p u.tree

    -- the new part has the cells of the old one but k
    new_cell : (j : ℕ) → Memᴰ j (cells_of u.tree) → Memᴰ j (cells_of (node k l r))
    new_cell j m = perm_mem u.cells (mathlib.Core.List.Memᴰ.tail m)

    new_other : (j : ℕ) → Memᴰ j (cells_of u.tree) → ¬ (j ≡ k)
    new_other j m e =
        distinct_apart (k ∷ []) (perm_distinct (perm_sym u.cells) (distinct-left (cells_of (node k l r)) (outside p) distinct-parts)) j (mathlib.Core.List.Memᴰ.head e) m

    outside_other : (j : ℕ) → Memᴰ j (outside p) → ¬ (j ≡ k)
    outside_other j m e = distinct_apart (cells_of (node k l r)) distinct-parts k own (mathlib.Core.List.Memᴰ.cast (sym e) m)

    -- a field, and the grant, of a cell that is not k
    field_kept : (j : ℕ) (f : Field) → 0 < j → ¬ (j ≡ k) → field_of (freed x k) j f ≡ field_of x j f
    field_kept j f pos e = freed_field x long bounds.0 bounds.1 j f pos e

    words-kept : (j : ℕ) → 0 < j → ¬ (j ≡ k) → SameGrantWords w (freed x k) j
    words-kept j pos e f m = field_kept j f pos e ∙ u.words j f m

    kept_outside : Kept w (freed x k) c root_place at (outside p)
    unfolding field_of
    kept_outside = record {
      distinct = distinct_right (cells_of (node k l r)) distinct-parts;
      upto = upto_outside;
      away = λ j m. root_away j;
      same = λ j m.
          let b = upto_outside j m in
          let e = outside_other j m in
          record {
            links = λ s apart.
                let out : ¬ Memᴰ j (cells_of (node k l r)) = λ i. distinct_apart (cells_of (node k l r)) distinct-parts j i m in
                field_kept j (link_field s) b.0 e ∙ u.others j (link_field s) b.0 out apart;
            grant = grant_at-same w (freed x k) j (words-kept j b.0 e);
          };
      top = λ apart. freed_other x long bounds.0 bounds.1 hook_root (root_away k) ∙ u.root apart;
    }

    spells_new : Spells (freed x k) c (suc n) (region_in p root_region) (get_or (freed x k) at 0) u.tree
    unfolding field_of
    spells_new =
        rw (freed_other x long bounds.0 bounds.1 hook (part_apart k own))
        (spells_frame
        (λ j m.
        let b = upto_tree j (part-cell j (new_cell j m)) in
        record {
          links = λ s. field_kept j (link_field s) b.0 (new_other j m);
          grant = grant_at-same x (freed x k) j (λ f i. field_kept j f b.0 (new_other j m));
        })
        u.spells)

    parented_new : Parented (freed x k) 0 shrunk
    unfolding shrunk
    parented_new =
        exchanged_parented p u.tree h.parents
        (λ j m.
        let pos = (upto_outside j m).0 in
        let out : ¬ Memᴰ j (cells_of (node k l r)) = λ i. distinct_apart (cells_of (node k l r)) distinct-parts j i m in
        field_kept j field.Parent pos (outside_other j m) ∙ u.others j field.Parent pos out (hook_past j field.Parent hook (omega arith)))
        (parented_frame (λ j m. field_kept j field.Parent (upto_tree j (part-cell j (new_cell j m))).0 (new_other j m)) u.parented)

    -- the cells that were free
    free-bounds : (j : ℕ) → Memᴰ j ks → (0 < j) × (j ≤ c)
    free-bounds j m = linked_upto h j (mathlib.Core.List.Memᴰ.append_right (cells_of t) m)

    free_other : (j : ℕ) → Memᴰ j ks → (i : ℕ) → Memᴰ i (cells_of (node k l r)) → ¬ (j ≡ i)
    free_other j m i o e = distinct_apart (cells_of t) (linked_distinct h) i (part-cell i o) (mathlib.Core.List.Memᴰ.cast (sym e) m)

    free_field : (j : ℕ) (f : Field) → Memᴰ j ks → field_of (freed x k) j f ≡ field_of w j f
    free_field j f m =
        let pos = (free-bounds j m).0 in
        field_kept j f pos (free_other j m k own) ∙ u.others j f pos (λ i. free_other j m j i refl) (hook_away j hook (free-apart j m) f)

    chain_new : FreeChain (freed x k) c (free_head (freed x k)) (k ∷ ks)
    unfolding field_of
    chain_new =
        rw (freed-free_head x long bounds.0 bounds.1)
        (chain_more {ks = ks} bounds.0 bounds.1
        (rw (freed-left x long bounds.0 bounds.1, u.header free_place (omega arith) (omega arith))
        (chain_frame (λ j m. free_field j field.Left m) h.free)))

    cleared_new : (j : ℕ) → Memᴰ j (k ∷ ks) → Cleared (freed x k) j
    cleared_new j (mathlib.Core.List.Memᴰ.head e) = subst (Cleared (freed x k)) (sym e) (freed_cleared x long bounds.0 bounds.1)
    cleared_new j (mathlib.Core.List.Memᴰ.tail m) = cleared_same w (freed x k) j (λ f. free_field j f m) (h.cleared j m)

    cells_new : Perm (k ∷ cells_of shrunk) (cells_of t)
    unfolding shrunk
    cells_new =
        perm_trans (perm_cons k (perm_sym (exchanged_cells p u.tree)))
        (perm_trans (perm_append (outside p) u.cells) (part_outside p))

    words_shrunk : (j : ℕ) → Memᴰ j (cells_of shrunk) → SameGrantWords w (freed x k) j
    words_shrunk j m =
        let distinct = perm_distinct (perm_sym cells_new) (distinct-left (cells_of t) ks (linked_distinct h)) in
        words-kept j (upto_tree j (perm_mem cells_new (mathlib.Core.List.Memᴰ.tail m))).0 (λ e. distinct_apart (k ∷ []) distinct j (mathlib.Core.List.Memᴰ.head e) m)

    removed_all : Removed w (freed x k) c t k ks
    unfolding shrunk
    removed_all = record {
      tree = shrunk;
      linked = record {
        long = freed-long x long bounds.0 bounds.1;
        capacity = freed-capacity x long bounds.0 bounds.1 ∙ u.header capacity_place (omega arith) (omega arith) ∙ h.capacity;
        spells = exchanged_spells p u.tree refl h.spells kept_outside spells_new;
        parents = parented_new;
        free = chain_new;
        cells = perm_trans h.cells (perm_trans (perm_append ks (perm_sym cells_new)) (put_perm (put_seam (cells_of shrunk) ks)));
        cleared = cleared_new;
      };
      cells = cells_new;
      others = λ j m. grant_at-same w (freed x k) j (words_shrunk j m);
      other_words = words_shrunk;
    }

pub remove-keeps_linked : {w : List ℕ} {c : ℕ} {t : Tree} {k : ℕ} {ks : List ℕ} {spot : Spot} {leaf leaf_at : ℕ} → Linked w c t ks
    → HangsAt (suc levels) root_place t k spot → terminal_from w k spot ≡ terminal leaf leaf_at → Removed w (removed w k spot.link leaf leaf_at) c t k ks
unfolding removed
remove-keeps_linked {w} {c} {t} {k} {ks} {spot} {leaf} {leaf_at} h hangs found =
    let p = hangs.part in
    let ends = terminal_from-ends h hangs in
    let same : terminal ends.leaf ends.leaf_at ≡ terminal leaf leaf_at = sym (terminal_from-terminal h hangs) ∙ found in
    let e : ends.leaf ≡ leaf = cc in
    let f : ends.leaf_at ≡ leaf_at = cc in
    let sp = region_spells p refl h.spells in
    let first = spells_cell sp in
    let q : Part (suc hangs.below) spot.link (node k hangs.left hangs.right) (suc ends.below) leaf_at (node leaf blank blank) =
    rw (e, f) at ends.part in
    removed_all h p
    (unlinked-part q (parented_part p h.parents) h.long (hook h p) first.link (region_shape p root_shape) (rw first.link at sp)
    (distinct-left (cells_of (node k hangs.left hangs.right)) (outside p) (distinct-parts h p)) (part_apart h p))
