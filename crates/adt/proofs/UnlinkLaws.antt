-- The words once an unwanted cell is unlinked: what then hangs at its place has the other cells of its part.
--   Unlinked w x c n at g p k js  what unlinking the cell k leaves, with x the words then: at the place `at`, where a part with the cells
--                                 js hung below the parent p, a tree with the same cells but k is spelled, whose cells name their parents, and
--                                 all else stays
--   unlinked_leaf                 a terminal cell is cut off
--   unlinked_inner                a terminal cell below it takes its place
-- Assumes nothing.
use Prim.Native.Nat.{ℕ, suc, ◌<◌, ◌≤◌}
use mathlib.Core.Logic.{◌≢◌}
use mathlib.Core.Path.{◌≡◌, refl, sym, ap, ◌∙◌}
use mathlib.Core.List.Memᴰ
use mathlib.Core.List.{List, [], ◌∷◌, ◌++◌, Memᴰ}
use native.Mathlib.Omega.{arith}
use lib.ListN.{length, get_or, set, length-set}
use lib.Seq.{get_or-set_same, get_or-set_other}
use borrow.Author.Tests.{eq-eqb, ne_eqb}
use Rattle.lists.proofs.DistinctLaws.{Distinct, Upto, distinct-left, distinct_right, distinct_apart}
use Rattle.lists.proofs.PermLaws.{put_seam, put_perm, Perm, perm_refl, perm_sym, perm_trans, perm_cons, perm_exchange, perm_append, perm_mem, perm_distinct}
use Rattle.geometry.specs.declared.Side.{Side}
use Rattle.geometry.specs.declared.Side.TheVariants.{Left, Right}
use Rattle.geometry.specs.Region.{Region}
use Rattle.geometry.proofs.RegionLaws.{Shape}
use Rattle.pool.specs.declared.Field.{Field}
use Rattle.pool.specs.declared.Field.TheVariants as field
use Rattle.pool.specs.Layout.{root_place, header_words, offset, place, field_of}
use Rattle.pool.specs.Capacity.{pool_length}
use Rattle.pool.proofs.CellLaws.{grant_between, SameGrantWords, grant_at-same}
use Rattle.adt.specs.Node.{link_field, link_place, parent_at}
use Rattle.adt.specs.Remove.{replaced, raised, unlinked}
use Rattle.adt.proofs.Spells.{Tree, blank, node, cells_of, Spells, spells_blank}
use Rattle.adt.proofs.TreeLaws.{child, cells_upto, cells-inside}
use Rattle.adt.proofs.PartLaws.{Part, part_here, part_child}
use Rattle.adt.proofs.NodeLaws.{Away, root_away, other_away, link_away, Hook, hook_within, hook_away}
use Rattle.adt.proofs.FrameLaws.{SameNode, spells_frame, inside-same}
use Rattle.adt.proofs.Parents.{Parented, parented_blank, parented_first, parented_child, first_cell, spells_first, first_mem, apart-first, parented_under}
use Rattle.adt.proofs.ParentParts.{parented_with_son, unchanged_parented}
use Rattle.adt.proofs.DescentSteps.{length-raised}
use Rattle.adt.proofs.ReplaceLaws.{words-set, header_set, cut_off, replaced-long, replaced_past, replaced-words, replaced_header, replaced_here, replaced_leaf, replaced_other}
use Rattle.adt.proofs.RaiseLaws.{no_parent, header_no_parent, hook_no_parent, raised-place, raised_other, raised_leaf, raised_child}
use Rattle.adt.proofs.ExchangeLaws.{other, other_other, by_side, with_son, with_son_cells, spells_with_son, exchanged, outside, exchanged_cells}
use Rattle.adt.proofs.ExchangeLaws.{part_child_link, spells_parts, part_outside, part_hook, Kept, exchanged_spells}

pub record Unlinked (w x : List ℕ) (c n at : ℕ) (g : Region) (p k : ℕ) (js : List ℕ) : Type 0 where
  pub tree : Tree
  pub cells : Perm (k ∷ cells_of tree) js
  pub spells : Spells x c n g (get_or x at 0) tree
  pub parented : Parented x p tree
  pub words : (j : ℕ) → SameGrantWords w x j
  pub long : length x ≡ length w
  pub header : (i : ℕ) → i < header_words → i ≢ root_place → get_or x i 0 ≡ get_or w i 0
  pub root : root_place ≢ at → get_or x root_place 0 ≡ get_or w root_place 0
  pub others : (j : ℕ) (f : Field) → 0 < j → ¬ Memᴰ j js → place j f ≢ at → field_of x j f ≡ field_of w j f

-- the cell k with no children, at the place `at`
pub unlinked_leaf : {w : List ℕ} {c at : ℕ} (n p k : ℕ) (g : Region) → length w ≡ pool_length c → Hook c at
    → Unlinked w (set w at 0) c n at g p k (cells_of (node k blank blank))
unfolding cells_of field_of
unlinked_leaf {w} {c} {at} n p k g long hook = record {
  tree = blank;
  cells = perm_refl (k ∷ []);
  spells = rw (get_or-set_same w at 0 0 (omega (arith, hook_within hook))) spells_blank;
  parented = parented_blank;
  words = words-set w 0 hook;
  long = length-set w at 0;
  header = header_set w 0 hook;
  root = λ n. get_or-set_other w at root_place 0 0 n;
  others = λ j f pos out n. get_or-set_other w at (place j f) 0 0 n;
}

-- the links stand before the parent
link_before : (z : Side) → offset (link_field z) < offset field.Parent
link_before Left = omega arith
link_before Right = omega arith

-- the cell k with the children l and r, and the terminal cell below its child on the side s
module _ {w : List ℕ} {c n at m leaf_at p : ℕ} {g : Region} {leaf : ℕ} (s : Side) (k : ℕ) (l r : Tree)
    (q : Part n (link_place k s) (child s l r) (suc m) leaf_at (node leaf blank blank))
    (parents : Parented w p (node k l r)) (long : length w ≡ pool_length c) (hook : Hook c at) (here : get_or w at 0 ≡ k) (shape : Shape g) (sp : Spells w c (suc n) g k (node k l r))
    (distinct : Distinct (cells_of (node k l r))) (away : (j : ℕ) → Memᴰ j (cells_of (node k l r)) → Away at j) where
  abbrev beside : List ℕ
  beside = cells_of (child (other s) l r)

  abbrev whole : Part (suc n) at (node k l r) (suc m) leaf_at (node leaf blank blank)
  whole = part_child s q

  -- the terminal cell, and those that stay
  part_all : Perm (leaf ∷ outside q ++ (k ∷ beside)) (cells_of (node k l r))
  unfolding cells_of outside
  part_all = part_outside whole

  -- those below the child, once the terminal cell is cut off
  part-rest : Perm (outside q) (cells_of (exchanged q blank))
  unfolding cells_of
  part-rest = exchanged_cells q blank

  stays : (j : ℕ) → Memᴰ j (outside q ++ (k ∷ beside)) → Memᴰ j (cells_of (node k l r))
  stays j i = perm_mem part_all (Memᴰ.tail i)

  leaf_in : Memᴰ leaf (cells_of (node k l r))
  leaf_in = perm_mem part_all (Memᴰ.head refl)

  distinct_all : Distinct (leaf ∷ outside q ++ (k ∷ beside))
  distinct_all = perm_distinct (perm_sym part_all) distinct

  not_leaf : (j : ℕ) → Memᴰ j (outside q ++ (k ∷ beside)) → ¬ (j ≡ leaf)
  not_leaf j i e = distinct_apart (leaf ∷ []) distinct_all leaf (Memᴰ.head refl) (Memᴰ.cast (sym e) i)

  upto_stays : Upto c (outside q ++ (k ∷ beside))
  upto_stays j i = cells_upto sp j (stays j i)

  leaf_hook : Hook c leaf_at
  unfolding outside
  leaf_hook = part_hook whole hook upto_stays

  -- the part without the terminal cell, once that is cut off
  kept_cut : Kept w (cut_off w leaf_at) c at leaf_at (outside q ++ (k ∷ beside))
  kept_cut = record {
    distinct = distinct_right (leaf ∷ []) distinct_all;
    upto = upto_stays;
    away = λ j i. away j (stays j i);
    same = λ j i.
        record {
          links = λ z apart. get_or-set_other w leaf_at (link_place j z) 0 0 apart;
          grant = grant_at-same w (cut_off w leaf_at) j (words-set w 0 leaf_hook j);
        };
    top = λ apart. get_or-set_other w leaf_at at 0 0 apart;
  }

  spells_cut : Spells (cut_off w leaf_at) c (suc n) g (get_or (cut_off w leaf_at) at 0) (with_son s k l r (exchanged q blank))
  unfolding exchanged outside
  spells_cut =
      exchanged_spells whole blank here sp kept_cut
      (rw (get_or-set_same w leaf_at 0 0 (omega (arith, hook_within leaf_hook))) spells_blank)

  abbrev moved : List ℕ
  moved = replaced w k at leaf leaf_at

  leaf_bounds : (0 < leaf) × (leaf ≤ c)
  leaf_bounds = cells_upto sp leaf leaf_in

  -- each cell that stays has the links that it had then
  same_moved : (j : ℕ) → Memᴰ j (outside q ++ (k ∷ beside)) → SameNode (cut_off w leaf_at) moved j
  same_moved j i = record {
    links = λ z.
        replaced_other w k long hook leaf_hook leaf_bounds.0 leaf_bounds.1 (link_place j z) (away j (stays j i) z)
        (other_away j leaf (link_field z) (upto_stays j i).0 leaf_bounds.0 (not_leaf j i));
    grant =
        grant_at-same w moved j (replaced-words w k long hook leaf_hook leaf_bounds.0 leaf_bounds.1 j)
        ∙ sym (grant_at-same w (cut_off w leaf_at) j (words-set w 0 leaf_hook j));
  }

  spells_moved : Spells moved c (suc n) g leaf (with_son s leaf l r (exchanged q blank))
  spells_moved =
      let parts = spells_parts s k l r (exchanged q blank) spells_cut in
      let links = replaced_leaf w k long hook leaf_hook leaf_bounds.0 leaf_bounds.1 (away leaf leaf_in) in
      let words = replaced-words w k long hook leaf_hook leaf_bounds.0 leaf_bounds.1 leaf in
      spells_with_son s l r (exchanged q blank) leaf_bounds.0 leaf_bounds.1
      (inside-same w moved leaf g (grant_at-same w moved leaf words) (cells-inside shape sp leaf leaf_in))
      (rw (links s) (spells_frame (λ j i. same_moved j (Memᴰ.append_left (k ∷ beside) (perm_mem (perm_sym part-rest) i))) parts.0))
      (rw (links (other s)) (spells_frame (λ j i. same_moved j (Memᴰ.append_right (outside q) (Memᴰ.tail i))) parts.1))

  -- the fields of the cells outside of the part
  others_moved : (j : ℕ) (f : Field) → 0 < j → ¬ Memᴰ j (cells_of (node k l r)) → place j f ≢ at → field_of moved j f ≡ field_of w j f
  unfolding field_of
  others_moved j f pos out apart =
      let away = link_away j pos upto_stays (part_child_link s k l r q) (λ i. out (stays j i)) in
      replaced_other w k long hook leaf_hook leaf_bounds.0 leaf_bounds.1 (place j f) apart
      (other_away j leaf f pos leaf_bounds.0 (λ e. out (Memᴰ.cast e leaf_in)))
      ∙ get_or-set_other w leaf_at (place j f) 0 0 (hook_away j leaf_hook away f)

  root_moved : root_place ≢ at → get_or moved root_place 0 ≡ get_or w root_place 0
  root_moved apart =
      let parent = part_child_link s k l r q in
      replaced_other w k long hook leaf_hook leaf_bounds.0 leaf_bounds.1 root_place apart (root_away leaf)
      ∙ get_or-set_other w leaf_at root_place 0 0 (λ e. root_away parent.cell parent.side (sym (e ∙ parent.is)))

  -- k and the cells of the tree that then hangs there
  cells_moved : Perm (k ∷ cells_of (with_son s leaf l r (exchanged q blank))) (cells_of (node k l r))
  cells_moved =
      let ks = cells_of (exchanged q blank) in
      perm_trans (perm_cons k (perm_sym (with_son_cells s leaf l r (exchanged q blank))))
      (perm_trans (perm_cons k (perm_sym (put_perm (put_seam ks beside))))
      (perm_trans (perm_exchange k leaf (ks ++ beside))
      (perm_trans (perm_cons leaf (put_perm (put_seam ks beside)))
      (perm_trans (perm_cons leaf (perm_append (k ∷ beside) (perm_sym part-rest)))
      part_all))))

  -- the terminal cell's child on a side is the first of the cells that hang there
  abbrev child_on : Side → ℕ
  child_on z = get_or moved (link_place leaf z) 0

  abbrev own_side : Tree
  own_side = exchanged q blank

  abbrev other_side : Tree
  other_side = child (other s) l r

  child_own : child_on s ≡ first_cell own_side
  child_own =
      replaced_leaf w k long hook leaf_hook leaf_bounds.0 leaf_bounds.1 (away leaf leaf_in) s
      ∙ spells_first (spells_parts s k l r own_side spells_cut).0

  child_other : child_on (other s) ≡ first_cell other_side
  child_other =
      replaced_leaf w k long hook leaf_hook leaf_bounds.0 leaf_bounds.1 (away leaf leaf_in) (other s)
      ∙ spells_first (spells_parts s k l r own_side spells_cut).1

  -- the cells of either side are among those that stay
  own_stays : (j : ℕ) → Memᴰ j (cells_of own_side) → Memᴰ j (outside q)
  own_stays j i = perm_mem (perm_sym part-rest) i

  other_stays : (j : ℕ) → Memᴰ j (cells_of other_side) → Memᴰ j (outside q ++ (k ∷ beside))
  other_stays j i = Memᴰ.append_right (outside q) (Memᴰ.tail i)

  distinct_stays : Distinct (outside q ++ (k ∷ beside))
  distinct_stays = distinct_right (leaf ∷ []) distinct_all

  not_own : (j : ℕ) → Memᴰ j (cells_of other_side) → ¬ Memᴰ j (cells_of own_side)
  not_own j i o = distinct_apart (outside q) distinct_stays j (own_stays j o) (Memᴰ.tail i)

  -- a cell that is neither side's first is none of the terminal cell's children
  no_child : (j : ℕ) → ¬ (j ≡ first_cell own_side) → ¬ (j ≡ first_cell other_side) → (z : Side) → ¬ (j ≡ child_on z)
  no_child j a b = by_side (λ z. ¬ (j ≡ child_on z)) s (λ e. a (e ∙ child_own)) (λ e. b (e ∙ child_other))

  abbrev risen : List ℕ
  risen = raised moved k leaf

  long_moved : length moved ≡ pool_length c
  long_moved = replaced-long w k long hook leaf_hook leaf_bounds.0 leaf_bounds.1 ∙ long

  parent_moved : (j : ℕ) → parent_at moved j ≡ parent_at w j
  parent_moved j = replaced_past w k long hook leaf_hook leaf_bounds.0 leaf_bounds.1 j field.Parent (omega arith)

  not_leaf_first : (t : Tree) → ((j : ℕ) → Memᴰ j (cells_of t) → Memᴰ j (outside q ++ (k ∷ beside))) → ¬ (leaf ≡ first_cell t)
  not_leaf_first t sub = apart-first t leaf leaf_bounds.0 (λ i. not_leaf leaf (sub leaf i) refl)

  -- the parent of a cell that stays and is neither side's first
  parent_kept : (j : ℕ) → Memᴰ j (outside q ++ (k ∷ beside)) → ¬ (j ≡ first_cell own_side) → ¬ (j ≡ first_cell other_side) → parent_at risen j ≡ parent_at w j
  parent_kept j i a b =
      raised_other moved k leaf long_moved leaf_bounds.0 leaf_bounds.1 j field.Parent (upto_stays j i).0 (not_leaf j i) (no_child j a b)
      ∙ parent_moved j

  parented_risen : Parented risen p (with_son s leaf l r own_side)
  parented_risen =
      parented_with_son s l r own_side
      (raised_leaf moved k leaf long_moved leaf_bounds.0 leaf_bounds.1
      (no_child leaf (not_leaf_first own_side (λ j i. Memᴰ.append_left (k ∷ beside) (own_stays j i))) (not_leaf_first other_side other_stays))
      ∙ parent_moved k ∙ parented_first parents)
      (parented_under (perm_distinct part-rest (distinct-left (outside q) (k ∷ beside) distinct_stays))
      (λ j i. upto_stays j (Memᴰ.append_left (k ∷ beside) (own_stays j i)))
      (λ some. own_first some)
      (λ j i n. parent_kept j (Memᴰ.append_left (k ∷ beside) (own_stays j i)) n
      (apart-first other_side j (upto_stays j (Memᴰ.append_left (k ∷ beside) (own_stays j i))).0 (λ o. not_own j o i)))
      (unchanged_parented q blank (parented_child s parents) parented_blank))
      (parented_under (distinct_right (k ∷ []) (distinct_right (outside q) distinct_stays))
      (λ j i. upto_stays j (other_stays j i))
      (λ some. other_first some)
      (λ j i n. parent_kept j (other_stays j i)
      (apart-first own_side j (upto_stays j (other_stays j i)).0 (not_own j i)) n)
      (parented_child (other s) parents))
    where
      own_first : 0 < first_cell own_side → parent_at risen (first_cell own_side) ≡ leaf
      own_first some =
          let member = own_stays (first_cell own_side) (first_mem own_side some) in
          let bounds = upto_stays (first_cell own_side) (Memᴰ.append_left (k ∷ beside) member) in
          let apart = apart-first other_side (first_cell own_side) some (λ o. not_own (first_cell own_side) o (first_mem own_side some)) in
          rw child_own at
          (raised_child moved k leaf long_moved leaf_bounds.0 leaf_bounds.1 s (rw child_own some) (rw child_own bounds.1)
          (λ e. apart (sym child_own ∙ e ∙ child_other)))

      other_first : 0 < first_cell other_side → parent_at risen (first_cell other_side) ≡ leaf
      other_first some =
          let member = first_mem other_side some in
          let bounds = upto_stays (first_cell other_side) (other_stays (first_cell other_side) member) in
          let apart = apart-first own_side (first_cell other_side) some (not_own (first_cell other_side) member) in
          rw child_other at
          (raised_child moved k leaf long_moved leaf_bounds.0 leaf_bounds.1 (other s) (rw child_other some) (rw child_other bounds.1)
          (λ e. apart (sym child_other ∙ e ∙ ap child_on (other_other s) ∙ child_own)))

  -- raising changes no link and no grant
  raised-words : (j : ℕ) → SameGrantWords moved risen j
  unfolding field_of
  raised-words j f h = raised-place moved k leaf (place j f) (no_parent j f (grant_between f h).before)

  raised-same : (j : ℕ) → SameNode moved risen j
  raised-same j = record {
    links = λ z. raised-place moved k leaf (link_place j z) (no_parent j (link_field z) (link_before z));
    grant = grant_at-same moved risen j (raised-words j);
  }

  pub unlinked_inner : Unlinked w risen c (suc n) at g p k (cells_of (node k l r))
  unlinked_inner = record {
    tree = with_son s leaf l r own_side;
    cells = cells_moved;
    spells = rw (raised-place moved k leaf at (hook_no_parent hook), replaced_here w k long hook leaf_hook leaf_bounds.0 leaf_bounds.1)
        (spells_frame (λ j i. raised-same j) spells_moved);
    parented = parented_risen;
    words = λ j f h. raised-words j f h ∙ replaced-words w k long hook leaf_hook leaf_bounds.0 leaf_bounds.1 j f h;
    long = length-raised moved k leaf ∙ replaced-long w k long hook leaf_hook leaf_bounds.0 leaf_bounds.1;
    header = λ i lt z.
        raised-place moved k leaf i (header_no_parent i lt)
        ∙ replaced_header w k long hook leaf_hook leaf_bounds.0 leaf_bounds.1 i lt z;
    root = λ apart. raised-place moved k leaf root_place (header_no_parent root_place (omega arith)) ∙ root_moved apart;
    others = λ j f pos out apart.
        raised_other moved k leaf long_moved leaf_bounds.0 leaf_bounds.1 j f pos (λ e. out (Memᴰ.cast e leaf_in))
        (no_child j
        (apart-first own_side j pos (λ i. out (stays j (Memᴰ.append_left (k ∷ beside) (own_stays j i)))))
        (apart-first other_side j pos (λ i. out (stays j (other_stays j i)))))
        ∙ others_moved j f pos out apart;
  }

  -- the terminal cell is another
  pub inner_other : ¬ (leaf ≡ k)
  inner_other e = not_leaf k (Memᴰ.append_right (outside q) (Memᴰ.head refl)) (sym e)

pub unlinked-part : {w : List ℕ} {c n at m leaf_at p : ℕ} {g : Region} {k leaf : ℕ} {l r : Tree}
    → Part (suc n) at (node k l r) (suc m) leaf_at (node leaf blank blank) → Parented w p (node k l r)
    → length w ≡ pool_length c → Hook c at → get_or w at 0 ≡ k → Shape g → Spells w c (suc n) g k (node k l r)
    → Distinct (cells_of (node k l r)) → ((j : ℕ) → Memᴰ j (cells_of (node k l r)) → Away at j)
    → Unlinked w (unlinked w k at leaf leaf_at) c (suc n) at g p k (cells_of (node k l r))
unfolding unlinked
unlinked-part {n = n} {p = p} {g = g} {k = k} part_here parents long hook here shape sp distinct away =
    rw (eq-eqb k k refl) (unlinked_leaf (suc n) p k g long hook)
unlinked-part {k = k} {leaf = leaf} {l = l} {r = r} (part_child s q) parents long hook here shape sp distinct away =
    rw (ne_eqb leaf k (inner_other s k l r q parents long hook here shape sp distinct away)) (unlinked_inner s k l r q parents long hook here shape sp distinct away)
