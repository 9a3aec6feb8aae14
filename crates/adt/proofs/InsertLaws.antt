-- A grant that is added where its point leads: the tree then has the free head's cell in it, and all else stays.
--   BlankPart p n from at t g link parent   the place `link` is blank in the tree t, which hangs at the place `at` of the cell `from`, it is a
--                                  link of the cell `parent`, and the point p lies in the region there
--   descend_from-blank, descend-blank   the way down ends at such a place
--   inserted-*                     reads of the words then
--   FirstFree, chain_first         the first cell of a free chain
--   Inserted w v c t k ks g        what an insertion leaves: the words v, with the grant g in the cell k among those of t, and ks free
--   insert-keeps_linked            it leaves that
-- Assumes nothing.
use Prim.Native.Nat.{ℕ, zero, suc, ◌-◌, ◌<◌, ◌≤◌}
use mathlib.Core.Logic.{◌≢◌}
use mathlib.Core.Path.{◌≡◌, refl, sym, subst, ◌∙◌}
use mathlib.Core.Bool.{Bool, true, false, cond, ◌&&◌}
use mathlib.Core.List.Memᴰ
use mathlib.Core.List.{List, [], ◌∷◌, Memᴰ}
use native.Mathlib.Omega.{arith}
use lib.Dec.{leb, ltb}
use lib.ListN.{length, get_or, set, length-set}
use lib.Seq.{get_or-set_same, get_or-set_other}
use borrow.Author.Tests.{eq-eqb, ne_eqb}
use Rattle.lists.proofs.DistinctLaws.{Distinct, Upto, distinct-left, distinct_right, distinct_apart}
use Rattle.lists.proofs.PermLaws.{Put, put_first, put_append-left, put_seam, put_perm, perm_sym, perm_trans, perm_mem, perm_distinct}
use Rattle.model.specs.declared.Grant.{Grant}
use Rattle.model.specs.Values.{GrantFits}
use Rattle.geometry.specs.declared.Side.{Side}
use Rattle.geometry.specs.declared.Side.TheVariants.{Left, Right}
use Rattle.geometry.specs.Axis.{axis_of}
use Rattle.geometry.specs.Levels.{levels}
use Rattle.geometry.specs.Region.{Region, root_region, side_of, half}
use Rattle.geometry.specs.Point.{inside, point_of}
use Rattle.geometry.proofs.AxisLaws.{axis_lt}
use Rattle.geometry.proofs.RegionLaws.{Shape, root_shape, half-shape, inside-half}
use Rattle.pool.specs.declared.Field.{Field}
use Rattle.pool.specs.declared.Field.TheVariants as field
use Rattle.pool.specs.Layout.{capacity_place, root_place, free_place, offset, place, field_of}
use Rattle.pool.specs.Capacity.{pool_length, capacity_of}
use Rattle.pool.specs.Cell.{grant_at, cell_of, with_cell}
use Rattle.pool.proofs.LayoutLaws.{field_set_header}
use Rattle.pool.proofs.CellLaws.{grant_between, SameGrantWords, length-with_cell, field_with_cell-same, field_with_cell_other}
use Rattle.pool.proofs.CellLaws.{header_with_cell, grant_at-same, grant_at-with_cell-same}
use Rattle.pool.proofs.FreeCellLaws.{Cleared, cleared_same}
use Rattle.adt.specs.Node.{link_field, link_place, parent_at, is_parent}
use Rattle.adt.specs.Insert.{InsertionWalk, broken, blank_at, descend_from, descend, free_head, next_free, inserted}
use Rattle.adt.proofs.Spells.{Tree, blank, node, cells_of, Spells, spells_blank, spells_node, FreeChain, chain_more}
use Rattle.adt.proofs.Parents.{Parented, parented_blank, parented_node}
use Rattle.adt.proofs.ParentParts.{parent_in, exchanged_parented}
use Rattle.adt.proofs.TreeLaws.{child, spells_child}
use Rattle.adt.proofs.PartLaws.{Part, part_here, part_child}
use Rattle.adt.proofs.NodeLaws.{Away, root_away, Hook, hook_root, hook_link}
use Rattle.adt.proofs.NodeLaws.{hook_within, hook_header, hook_not-free, hook_past, hook_away, field_set_hook}
use Rattle.adt.proofs.FrameLaws.{chain_frame}
use Rattle.adt.proofs.PartRegion.{region_in}
use Rattle.adt.proofs.ExchangeLaws.{exchanged, outside, exchanged_same, exchanged_put, part_outside, part_away, part_hook, Kept, exchanged_spells}
use Rattle.adt.proofs.Linked.{Linked, linked_distinct, linked_upto, linked_capacity}

pub record BlankPart (p : List ℕ) (n from at : ℕ) (t : Tree) (g : Region) (link parent : ℕ) : Type 0 where
  pub below : ℕ
  pub part : Part n at t (suc below) link blank
  pub inside : inside (region_in part g) p ≡ true
  pub parent_is : parent ≡ parent_in part from

blank_child : {p : List ℕ} {n from at k : ℕ} {l r : Tree} {g : Region} {link parent : ℕ} (s : Side)
    → BlankPart p n k (link_place k s) (child s l r) (half s g (axis_of (levels - n))) link parent → BlankPart p (suc n) from at (node k l r) g link parent
unfolding region_in parent_in
blank_child s b = record { below = b.below; part = part_child s b.part; inside = b.inside; parent_is = b.parent_is }

-- the end of a way that is not broken
descent_on : (t : Bool) (way : InsertionWalk) (link parent : ℕ) → cond t way broken ≡ blank_at link parent → way ≡ blank_at link parent
descent_on true way link parent e = e
descent_on false way link parent e = absurd (let z : ◌≡◌ {A = ℕ} 0 1 = cc in omega arith)

blank_here : {p : List ℕ} {n from at : ℕ} {g : Region} {link parent : ℕ} → inside g p ≡ true → at ≡ link → from ≡ parent
    → BlankPart p (suc n) from at blank g link parent
unfolding region_in parent_in
blank_here {p} {n} {from} {at} {g} {parent = parent} i e f =
    subst (λ (x : ℕ). BlankPart p (suc n) from at blank g x parent) e (record { below = n; part = part_here; inside = i; parent_is = sym f })

pub descend_from-blank : {w : List ℕ} {c k : ℕ} {t : Tree} {g : Region} {link parent : ℕ} (p : List ℕ) (n from at met : ℕ) → Spells w c n g k t → get_or w at 0 ≡ k
    → Shape g → inside g p ≡ true → descend_from w c p n from at g met ≡ blank_at link parent → BlankPart p n from at t g link parent
unfolding descend_from
descend_from-blank p zero from at met sp e shape i found = absurd (let z : ◌≡◌ {A = ℕ} 0 1 = cc in omega arith)
descend_from-blank {w} {link = link} {parent = parent} p (suc n) from at met spells_blank e shape i found =
    let here : blank_at at from ≡ blank_at link parent = rw (eq-eqb (get_or w at 0) 0 e) at found in
    blank_here i (cc) (cc)
descend_from-blank {w} {c} {link = link} {parent = parent} p (suc n) from at met (spells_node {g = g} {k = k} {l = l} {r = r} pos le j x y) e shape i found =
    let a = axis_of (levels - n) in
    let lt = axis_lt (levels - n) in
    let s = side_of g a (get_or p a 0) in
    let on : cond (leb k c && ltb met c && is_parent w from k) (descend_from w c p n k (link_place k s) (half s g a) (suc met)) broken ≡ blank_at link parent =
    rw (e, ne_eqb k 0 (omega arith)) at found in
    blank_child s
    (descend_from-blank {k = get_or w (link_place k s) 0} p n k (link_place k s) (suc met) (spells_child s (spells_node pos le j x y)) refl (half-shape s g a shape lt) (inside-half g a shape lt p i)
    (descent_on (leb k c && ltb met c && is_parent w from k) (descend_from w c p n k (link_place k s) (half s g a) (suc met)) link parent on))

pub descend-blank : {w : List ℕ} {c : ℕ} {t : Tree} {link parent : ℕ} (p : List ℕ) → capacity_of w ≡ c → Spells w c (suc levels) root_region (get_or w root_place 0) t
    → inside root_region p ≡ true → descend w p ≡ blank_at link parent → BlankPart p (suc levels) 0 root_place t root_region link parent
unfolding descend
descend-blank p cap sp i found = descend_from-blank p (suc levels) 0 root_place 0 sp refl root_shape i (rw cap at found)

-- the words with the cell stored, and with its link
abbrev stored : List ℕ → ℕ → Grant → List ℕ
stored w parent g = with_cell w (free_head w) (cell_of 0 0 g parent)

abbrev added : List ℕ → ℕ → ℕ → Grant → List ℕ
added w at parent g = set (stored w parent g) at (free_head w)

-- the words after an insertion at a place where a cell may hang
module _ (w : List ℕ) (parent : ℕ) (g : Grant) {c at : ℕ} (hook : Hook c at) (long : length w ≡ pool_length c) (pos : 0 < free_head w) (le : free_head w ≤ c) where
  length-added : length (added w at parent g) ≡ pool_length c
  length-added = length-set (stored w parent g) at (free_head w) ∙ length-with_cell w (free_head w) (cell_of 0 0 g parent) ∙ long

  pub inserted-long : length (inserted w at parent g) ≡ pool_length c
  unfolding inserted
  inserted-long = length-set (added w at parent g) free_place (next_free w) ∙ length-added

  pub inserted-capacity : get_or (inserted w at parent g) capacity_place 0 ≡ get_or w capacity_place 0
  unfolding inserted
  inserted-capacity =
      get_or-set_other (added w at parent g) free_place capacity_place (next_free w) 0 (omega arith)
      ∙ get_or-set_other (stored w parent g) at capacity_place (free_head w) 0 (hook_header capacity_place hook (omega arith) (omega arith))
      ∙ header_with_cell w (free_head w) (cell_of 0 0 g parent) refl capacity_place (omega arith)

  pub inserted-free_head : free_head (inserted w at parent g) ≡ next_free w
  unfolding inserted
  inserted-free_head = get_or-set_same (added w at parent g) free_place (next_free w) 0 (omega (arith, length-added))

  -- where it hangs
  pub inserted_here : get_or (inserted w at parent g) at 0 ≡ free_head w
  unfolding inserted
  inserted_here =
      get_or-set_other (added w at parent g) free_place at (next_free w) 0 (hook_not-free hook)
      ∙ get_or-set_same (stored w parent g) at (free_head w) 0 (omega (arith, hook_within hook, length-with_cell w (free_head w) (cell_of 0 0 g parent)))

  -- the root's word, and the fields of others, but where it hangs
  pub inserted_root : root_place ≢ at → get_or (inserted w at parent g) root_place 0 ≡ get_or w root_place 0
  unfolding inserted
  inserted_root apart =
      get_or-set_other (added w at parent g) free_place root_place (next_free w) 0 (omega arith)
      ∙ get_or-set_other (stored w parent g) at root_place (free_head w) 0 apart
      ∙ header_with_cell w (free_head w) (cell_of 0 0 g parent) refl root_place (omega arith)

  pub inserted_field : (k : ℕ) (f : Field) → 0 < k → ¬ (k ≡ free_head w) → place k f ≢ at → field_of (inserted w at parent g) k f ≡ field_of w k f
  unfolding inserted field_of
  inserted_field k f hk n apart =
      field_set_header (added w at parent g) free_place k f (next_free w) (omega arith)
      ∙ get_or-set_other (stored w parent g) at (place k f) (free_head w) 0 apart
      ∙ field_with_cell_other w (free_head w) (cell_of 0 0 g parent) refl k f hk pos n

  -- its own links are blank
  pub inserted_links : (s : Side) → Away at (free_head w) → get_or (inserted w at parent g) (link_place (free_head w) s) 0 ≡ 0
  unfolding inserted field_of
  inserted_links s away =
      get_or-set_other (added w at parent g) free_place (link_place (free_head w) s) (next_free w) 0 (hook_not-free {c = c} (hook_link s pos le))
      ∙ get_or-set_other (stored w parent g) at (link_place (free_head w) s) (free_head w) 0 (away s)
      ∙ field_with_cell-same w (free_head w) (cell_of 0 0 g parent) refl c (link_field s) pos le long
      ∙ go s
    where
      go : (s : Side) → get_or (cell_of 0 0 g parent) (offset (link_field s)) 0 ≡ 0
      go Left = refl
      go Right = refl

  -- its own parent
  pub inserted_parent : parent_at (inserted w at parent g) (free_head w) ≡ parent
  unfolding inserted
  inserted_parent =
      field_set_header (added w at parent g) free_place (free_head w) field.Parent (next_free w) (omega arith)
      ∙ field_set_hook (stored w parent g) (free_head w) (free_head w) field.Parent hook (omega arith)
      ∙ field_with_cell-same w (free_head w) (cell_of 0 0 g parent) refl c field.Parent pos le long

  -- the words of its grant, and those of others
  pub inserted-words : SameGrantWords (stored w parent g) (inserted w at parent g) (free_head w)
  unfolding inserted
  inserted-words f h =
      field_set_header (added w at parent g) free_place (free_head w) f (next_free w) (omega arith)
      ∙ field_set_hook (stored w parent g) (free_head w) (free_head w) f hook (grant_between f h).past

  pub inserted-grant : GrantFits g → grant_at (inserted w at parent g) (free_head w) ≡ g
  inserted-grant fits = grant_at-same (stored w parent g) (inserted w at parent g) (free_head w) inserted-words ∙ grant_at-with_cell-same w c (free_head w) 0 0 g parent pos le long fits

  pub inserted-kept : (k : ℕ) → 0 < k → ¬ (k ≡ free_head w) → SameGrantWords w (inserted w at parent g) k
  inserted-kept k hk n f h = inserted_field k f hk n (hook_past k f hook (grant_between f h).past)

-- the first free cell
pub record FirstFree (w : List ℕ) (c j k : ℕ) (ks : List ℕ) : Type 0 where
  pub head : j ≡ k
  pub pos : 0 < k
  pub le : k ≤ c
  pub rest : FreeChain w c (get_or w (link_place k Left) 0) ks

pub chain_first : {w : List ℕ} {c j k : ℕ} {ks : List ℕ} → FreeChain w c j (k ∷ ks) → FirstFree w c j k ks
chain_first (chain_more pos le x) = record { head = refl; pos = pos; le = le; rest = x }

pub record Inserted (w v : List ℕ) (c : ℕ) (t : Tree) (k : ℕ) (ks : List ℕ) (g : Grant) : Type 0 where
  pub tree : Tree
  pub linked : Linked v c tree ks
  pub cells : Put k (cells_of t) (cells_of tree)
  pub grant : grant_at v k ≡ g
  pub others : (j : ℕ) → Memᴰ j (cells_of t) → grant_at v j ≡ grant_at w j
  pub parent : ℕ
  -- the same of the words that spell them
  pub grant-words : SameGrantWords (with_cell w k (cell_of 0 0 g parent)) v k
  pub other_words : (j : ℕ) → Memᴰ j (cells_of t) → SameGrantWords w v j

-- the parts of the law, with the new cell named as the free head
module _ {w : List ℕ} {c : ℕ} {t : Tree} {ks : List ℕ} {g : Grant} {at parent : ℕ} (h : Linked w c t (free_head w ∷ ks)) (fits : GrantFits g)
    (b : BlankPart (point_of g) (suc levels) 0 root_place t root_region at parent) where
  own : FirstFree w c (free_head w) (free_head w) ks
  own = chain_first h.free

  outside_cells : (j : ℕ) → Memᴰ j (outside b.part) → Memᴰ j (cells_of t)
  unfolding cells_of
  outside_cells j m = perm_mem (part_outside b.part) m

  upto_outside : Upto c (outside b.part)
  upto_outside j m = linked_upto h j (Memᴰ.append_left (free_head w ∷ ks) (outside_cells j m))

  distinct_outside : Distinct (outside b.part)
  unfolding cells_of
  distinct_outside = perm_distinct (perm_sym (part_outside b.part)) (distinct-left (cells_of t) (free_head w ∷ ks) (linked_distinct h))

  hook : Hook c at
  hook = part_hook b.part hook_root upto_outside

  -- neither the new cell nor a free one is in the tree
  not_outside : (j : ℕ) → Memᴰ j (free_head w ∷ ks) → ¬ Memᴰ j (outside b.part)
  not_outside j m i = distinct_apart (cells_of t) (linked_distinct h) j (outside_cells j i) m

  free_away : (j : ℕ) → Memᴰ j (free_head w ∷ ks) → Away at j
  free_away j m = part_away b.part j (root_away j) (linked_upto h j (Memᴰ.append_right (cells_of t) m)).0 upto_outside (not_outside j m)

  -- another cell's fields
  kept_field : (j : ℕ) (f : Field) → 0 < j → ¬ (j ≡ free_head w) → place j f ≢ at → field_of (inserted w at parent g) j f ≡ field_of w j f
  kept_field j f pos n apart = inserted_field w parent g hook h.long own.pos own.le j f pos n apart

  kept-grant : (j : ℕ) → 0 < j → ¬ (j ≡ free_head w) → grant_at (inserted w at parent g) j ≡ grant_at w j
  kept-grant j pos n = grant_at-same w (inserted w at parent g) j (inserted-kept w parent g hook h.long own.pos own.le j pos n)

  kept_outside : Kept w (inserted w at parent g) c root_place at (outside b.part)
  unfolding field_of
  kept_outside = record {
    distinct = distinct_outside;
    upto = upto_outside;
    away = λ j m. root_away j;
    same = λ j m.
        let n : ¬ (j ≡ free_head w) = λ e. not_outside (free_head w) (Memᴰ.head refl) (Memᴰ.cast (sym e) m) in
        let bounds = upto_outside j m in
        record { links = λ s apart. kept_field j (link_field s) bounds.0 n apart; grant = kept-grant j bounds.0 n };
    top = inserted_root w parent g hook h.long own.pos own.le;
  }

  grown : Tree
  grown = exchanged b.part (node (free_head w) blank blank)

  spells_new : Spells (inserted w at parent g) c (suc b.below) (region_in b.part root_region) (get_or (inserted w at parent g) at 0) (node (free_head w) blank blank)
  spells_new =
      let away = free_away (free_head w) (Memᴰ.head refl) in
      rw (inserted_here w parent g hook h.long own.pos own.le)
      (spells_node {n = b.below} {g = region_in b.part root_region} {l = blank} {r = blank} own.pos own.le
      (rw (inserted-grant w parent g hook h.long own.pos own.le fits) b.inside)
      (rw (inserted_links w parent g hook h.long own.pos own.le Left away) spells_blank)
      (rw (inserted_links w parent g hook h.long own.pos own.le Right away) spells_blank))

  parented_new : Parented (inserted w at parent g) 0 grown
  unfolding grown
  parented_new =
      exchanged_parented b.part (node (free_head w) blank blank) h.parents
      (λ j m.
      let n : ¬ (j ≡ free_head w) = λ e. not_outside (free_head w) (Memᴰ.head refl) (Memᴰ.cast (sym e) m) in
      kept_field j field.Parent (upto_outside j m).0 n (hook_past j field.Parent hook (omega arith)))
      (parented_node (inserted_parent w parent g hook h.long own.pos own.le ∙ b.parent_is) parented_blank parented_blank)

  put_new : Put (free_head w) (cells_of t) (cells_of grown)
  unfolding grown cells_of
  put_new = rw (exchanged_same b.part) at (exchanged_put b.part (free_head w) blank (node (free_head w) blank blank) put_first)

  -- the free cells that stay
  free-bounds : (j : ℕ) → Memᴰ j ks → (0 < j) × (j ≤ c)
  free-bounds j m = linked_upto h j (Memᴰ.append_right (cells_of t) (Memᴰ.tail m))

  free_other : (j : ℕ) → Memᴰ j ks → ¬ (j ≡ free_head w)
  free_other j m e = distinct_apart (free_head w ∷ []) (distinct_right (cells_of t) (linked_distinct h)) j (Memᴰ.head e) m

  free_field : (j : ℕ) (f : Field) → Memᴰ j ks → field_of (inserted w at parent g) j f ≡ field_of w j f
  free_field j f m = kept_field j f (free-bounds j m).0 (free_other j m) (hook_away j hook (free_away j (Memᴰ.tail m)) f)

  chain_rest : FreeChain (inserted w at parent g) c (free_head (inserted w at parent g)) ks
  unfolding field_of
  chain_rest = rw (inserted-free_head w parent g hook h.long own.pos own.le) (chain_frame (λ j m. free_field j field.Left m) own.rest)

  cleared_rest : (j : ℕ) → Memᴰ j ks → Cleared (inserted w at parent g) j
  cleared_rest j m = cleared_same w (inserted w at parent g) j (λ f. free_field j f m) (h.cleared j (Memᴰ.tail m))

  linked_new : Linked (inserted w at parent g) c grown ks
  unfolding grown
  linked_new = record {
    long = inserted-long w parent g hook h.long own.pos own.le;
    capacity = inserted-capacity w parent g hook h.long own.pos own.le ∙ h.capacity;
    spells = exchanged_spells b.part (node (free_head w) blank blank) refl h.spells kept_outside spells_new;
    parents = parented_new;
    free = chain_rest;
    cells = perm_trans h.cells (perm_trans (perm_sym (put_perm (put_seam (cells_of t) ks))) (put_perm (put_append-left ks put_new)));
    cleared = cleared_rest;
  }

  words-kept : (j : ℕ) → Memᴰ j (cells_of t) → SameGrantWords w (inserted w at parent g) j
  words-kept j m =
      inserted-kept w parent g hook h.long own.pos own.le j (linked_upto h j (Memᴰ.append_left (free_head w ∷ ks) m)).0
      (λ e. distinct_apart (cells_of t) (linked_distinct h) j m (Memᴰ.head e))

  inserted_all : Inserted w (inserted w at parent g) c t (free_head w) ks g
  inserted_all = record {
    tree = grown;
    linked = linked_new;
    cells = put_new;
    grant = inserted-grant w parent g hook h.long own.pos own.le fits;
    others = λ j m. grant_at-same w (inserted w at parent g) j (words-kept j m);
    parent = parent;
    grant-words = inserted-words w parent g hook h.long own.pos own.le;
    other_words = words-kept;
  }

pub insert-keeps_linked : {w : List ℕ} {c : ℕ} {t : Tree} {k : ℕ} {ks : List ℕ} {g : Grant} {at parent : ℕ} → Linked w c t (k ∷ ks) → GrantFits g
    → inside root_region (point_of g) ≡ true → descend w (point_of g) ≡ blank_at at parent → Inserted w (inserted w at parent g) c t k ks g
insert-keeps_linked {w} {c} {t} {k} {ks} {g} {at} {parent} h fits i found =
    let e : free_head w ≡ k = (chain_first h.free).head in
    let same : Linked w c t (free_head w ∷ ks) = rw e h in
    let b = descend-blank (point_of g) (linked_capacity h) h.spells i found in
    rw e at (inserted_all same fits b)
