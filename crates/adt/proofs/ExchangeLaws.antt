-- A part of a tree exchanged for another tree.
--   other s, other_other, by_side     the other side
--   exchanged p x           the tree with x in place of the part
--   outside p               the cells outside of the part
--   exchanged_same          a part in its own place
--   exchanged_cells, part_outside   the cells of the tree are those of the part and those outside
--   exchanged_put           a cell put among those of the part is put among those of the tree
--   part-link, part_hook, part_away    the place of the part: that of the tree, or a link of a cell outside
--   Kept w v c at link ks   the words v keep the distinct cells ks of w, but for the place `link`, and the word at the place `at`
--   exchanged_spells        where v keeps the cells outside and spells x at the part's place, it spells the tree with x there
-- Assumes nothing.
use Prim.Native.Nat.{ℕ, suc, ◌-◌, ◌<◌, ◌≤◌}
use mathlib.Core.Logic.{◌⊎◌, inl, inr, ◌≢◌}
use mathlib.Core.Path.{◌≡◌, refl, sym, subst, ◌∙◌}
use mathlib.Core.Bool.{true}
use mathlib.Core.List.{List, [], ◌∷◌, ◌++◌, append-nil, append_assoc, Memᴰ}
use native.Mathlib.Omega.{arith}
use lib.ListN.{get_or}
use Rattle.lists.proofs.DistinctLaws.{Distinct, Upto, distinct-left, distinct_right, distinct_apart}
use Rattle.lists.proofs.PermLaws.{Put, put_first, put_later, put_append-left, put_append_right, put_seam, put_perm}
use Rattle.lists.proofs.PermLaws.{Perm, perm_more, perm_refl, perm_sym, perm_trans, perm_append, perm_swap}
use Rattle.geometry.specs.declared.Side.{Side}
use Rattle.geometry.specs.declared.Side.TheVariants.{Left, Right}
use Rattle.geometry.specs.Axis.{axis_of}
use Rattle.geometry.specs.Levels.{levels}
use Rattle.geometry.specs.Region.{Region, half}
use Rattle.geometry.specs.Point.{inside}
use Rattle.pool.specs.Cell.{grant_at}
use Rattle.adt.specs.Node.{link_place, point_at}
use Rattle.adt.proofs.Spells.{Tree, node, cells_of, Spells, spells_node}
use Rattle.adt.proofs.TreeLaws.{child, spells_child}
use Rattle.adt.proofs.PartLaws.{Part, part_here, part_child}
use Rattle.adt.proofs.PartRegion.{region_in}
use Rattle.adt.proofs.NodeLaws.{link_injective, Away, LinkOf, link_more, link_away, Hook, hook_link}
use Rattle.adt.proofs.FrameLaws.{inside-same, spells_frame}

abbrev pub other : Side → Side
other Left = Right
other Right = Left

pub other_other : (s : Side) → other (other s) ≡ s
other_other Left = refl
other_other Right = refl

-- what holds of a side and of the other holds of both
pub by_side : (P : Side → Type 0) (s : Side) → P s → P (other s) → (z : Side) → P z
by_side P Left a b Left = a
by_side P Left a b Right = b
by_side P Right a b Left = b
by_side P Right a b Right = a

-- the node k of the children l and r, with x on a side
abbrev pub with_son : Side → ℕ → Tree → Tree → Tree → Tree
with_son Left k l r x = node k x r
with_son Right k l r x = node k l x

unfoldable pub exchanged : {n at m link : ℕ} {t u : Tree} → Part n at t m link u → Tree → Tree
exchanged part_here x = x
exchanged (part_child {k = k} {l = l} {r = r} s p) x = with_son s k l r (exchanged p x)

unfoldable pub outside : {n at m link : ℕ} {t u : Tree} → Part n at t m link u → List ℕ
outside part_here = []
outside (part_child {k = k} {l = l} {r = r} s p) = outside p ++ (k ∷ cells_of (child (other s) l r))

with_son_same : (s : Side) (k : ℕ) (l r : Tree) → with_son s k l r (child s l r) ≡ node k l r
with_son_same Left k l r = refl
with_son_same Right k l r = refl

pub exchanged_same : {n at m link : ℕ} {t u : Tree} (p : Part n at t m link u) → exchanged p u ≡ t
unfolding exchanged
exchanged_same part_here = refl
exchanged_same (part_child {k = k} {l = l} {r = r} s p) = rw (exchanged_same p) (with_son_same s k l r)

pub with_son_cells : (s : Side) (k : ℕ) (l r x : Tree) → Perm (cells_of x ++ (k ∷ cells_of (child (other s) l r))) (cells_of (with_son s k l r x))
unfolding cells_of
with_son_cells Left k l r x = perm_sym (put_perm (put_seam (cells_of x) (cells_of r)))
with_son_cells Right k l r x =
    perm_trans (perm_sym (put_perm (put_seam (cells_of x) (cells_of l)))) (perm_more (perm_swap (cells_of x) (cells_of l)) put_first)

pub exchanged_cells : {n at m link : ℕ} {t u : Tree} (p : Part n at t m link u) (x : Tree) → Perm (cells_of x ++ outside p) (cells_of (exchanged p x))
unfolding exchanged outside
exchanged_cells part_here x = rw append-nil (perm_refl (cells_of x))
exchanged_cells (part_child {k = k} {l = l} {r = r} s p) x =
    let rest = k ∷ cells_of (child (other s) l r) in
    perm_trans (rw (← append_assoc (cells_of x) (outside p) rest) (perm_append rest (exchanged_cells p x))) (with_son_cells s k l r (exchanged p x))

-- the tree's own cells
pub part_outside : {n at m link : ℕ} {t u : Tree} (p : Part n at t m link u) → Perm (cells_of u ++ outside p) (cells_of t)
part_outside {u = u} p = rw (exchanged_same p) at (exchanged_cells p u)

with_son_put : (s : Side) (j k : ℕ) (l r x y : Tree) → Put j (cells_of x) (cells_of y) → Put j (cells_of (with_son s k l r x)) (cells_of (with_son s k l r y))
unfolding cells_of
with_son_put Left j k l r x y q = put_later (put_append-left (cells_of r) q)
with_son_put Right j k l r x y q = put_later (put_append_right (cells_of l) q)

pub exchanged_put : {n at m link : ℕ} {t u : Tree} (p : Part n at t m link u) (j : ℕ) (x y : Tree) → Put j (cells_of x) (cells_of y)
    → Put j (cells_of (exchanged p x)) (cells_of (exchanged p y))
unfolding exchanged
exchanged_put part_here j x y q = q
exchanged_put (part_child {k = k} {l = l} {r = r} s p) j x y q = with_son_put s j k l r (exchanged p x) (exchanged p y) (exchanged_put p j x y q)

-- a link of the cell k, or of one below its child
link_child : {link : ℕ} (s : Side) (k : ℕ) (below beside : List ℕ) → (link ≡ link_place k s) ⊎ LinkOf below link → LinkOf (below ++ (k ∷ beside)) link
link_child s k below beside (inl e) = record { cell = k; member = mathlib.Core.List.Memᴰ.append_right below (mathlib.Core.List.Memᴰ.head refl); side = s; is = e }
link_child s k below beside (inr h) = link_more (λ j m. mathlib.Core.List.Memᴰ.append_left (k ∷ beside) m) h

-- a part hangs at the place of the tree, or at a link of a cell outside of it
pub part-link : {n at m link : ℕ} {t u : Tree} (p : Part n at t m link u) → (link ≡ at) ⊎ LinkOf (outside p) link
unfolding outside
part-link part_here = inl refl
part-link (part_child {k = k} {l = l} {r = r} s p) = inr (link_child s k (outside p) (cells_of (child (other s) l r)) (part-link p))

-- below a child it is such a link
pub part_child_link : {n m link : ℕ} {u : Tree} (s : Side) (k : ℕ) (l r : Tree) (p : Part n (link_place k s) (child s l r) m link u)
    → LinkOf (outside p ++ (k ∷ cells_of (child (other s) l r))) link
part_child_link s k l r p = link_child s k (outside p) (cells_of (child (other s) l r)) (part-link p)

-- a cell that is not outside of it is away from the place
pub part_away : {c n at m link : ℕ} {t u : Tree} (p : Part n at t m link u) (k : ℕ) → Away at k → 0 < k → Upto c (outside p) → ¬ Memᴰ k (outside p)
    → Away link k
part_away {c} {at = at} {link = link} p k away pos upto n = go (part-link p)
  where
    go : (link ≡ at) ⊎ LinkOf (outside p) link → Away link k
    go (inl e) = λ s q. away s (q ∙ e)
    go (inr h) = link_away k pos upto h n

pub part_hook : {c n at m link : ℕ} {t u : Tree} (p : Part n at t m link u) → Hook c at → Upto c (outside p) → Hook c link
part_hook {c} {at = at} {link = link} p hook upto = go (part-link p)
  where
    go : (link ≡ at) ⊎ LinkOf (outside p) link → Hook c link
    go (inl e) = subst (Hook c) (sym e) hook
    go (inr h) = let b = upto h.cell h.member in subst (Hook c) (sym h.is) (hook_link h.side b.0 b.1)

-- cell k has the same grant in both, and the same links but for one place
pub record SameBut (w v : List ℕ) (link k : ℕ) : Type 0 where
  pub links : (s : Side) → link_place k s ≢ link → get_or v (link_place k s) 0 ≡ get_or w (link_place k s) 0
  pub grant : grant_at v k ≡ grant_at w k

pub record Kept (w v : List ℕ) (c at link : ℕ) (ks : List ℕ) : Type 0 where
  pub distinct : Distinct ks
  pub upto : Upto c ks
  pub away : (k : ℕ) → Memᴰ k ks → Away at k
  pub same : (k : ℕ) → Memᴰ k ks → SameBut w v link k
  pub top : at ≢ link → get_or v at 0 ≡ get_or w at 0

-- of the cells outside of a part, below the child that has it
kept_child : {w v : List ℕ} {c at link : ℕ} (s : Side) (k : ℕ) (below beside : List ℕ) → Kept w v c at link (below ++ (k ∷ beside))
    → Kept w v c (link_place k s) link below
kept_child {c = c} s k below beside h =
    let here = mathlib.Core.List.Memᴰ.append_right below (mathlib.Core.List.Memᴰ.head refl) in
    let down : (j : ℕ) → Memᴰ j below → Memᴰ j (below ++ (k ∷ beside)) = λ j m. mathlib.Core.List.Memᴰ.append_left (k ∷ beside) m in
    record {
      distinct = distinct-left below (k ∷ beside) h.distinct;
      upto = λ j m. h.upto j (down j m);
      away = λ j m z e. distinct_apart below h.distinct j m (mathlib.Core.List.Memᴰ.head (link_injective j k z s (h.upto j (down j m)).0 (h.upto k here).0 e).0);
      same = λ j m. h.same j (down j m);
      top = (h.same k here).links s;
    }

-- a node with one child anew
pub spells_with_son : {v : List ℕ} {c n k : ℕ} {g : Region} (s : Side) (l r x : Tree) → 0 < k → k ≤ c → inside g (point_at v k) ≡ true
    → Spells v c n (half s g (axis_of (levels - n))) (get_or v (link_place k s) 0) x
    → Spells v c n (half (other s) g (axis_of (levels - n))) (get_or v (link_place k (other s)) 0) (child (other s) l r)
    → Spells v c (suc n) g k (with_son s k l r x)
spells_with_son Left l r x pos le i a b = spells_node pos le i a b
spells_with_son Right l r x pos le i a b = spells_node pos le i b a

pub spells_parts : {v : List ℕ} {c n j : ℕ} {g : Region} (s : Side) (k : ℕ) (l r x : Tree) → Spells v c (suc n) g j (with_son s k l r x)
    → Spells v c n (half s g (axis_of (levels - n))) (get_or v (link_place k s) 0) x
    × Spells v c n (half (other s) g (axis_of (levels - n))) (get_or v (link_place k (other s)) 0) (child (other s) l r)
spells_parts Left k l r x sp = (spells_child Left sp, spells_child Right sp)
spells_parts Right k l r x sp = (spells_child Right sp, spells_child Left sp)

-- the first cell of a spelled tree
pub record Cell (w : List ℕ) (c j k : ℕ) (g : Region) : Type 0 where
  pub link : j ≡ k
  pub pos : 0 < k
  pub le : k ≤ c
  pub inside : inside g (point_at w k) ≡ true

pub spells_cell : {w : List ℕ} {c n j k : ℕ} {g : Region} {l r : Tree} → Spells w c (suc n) g j (node k l r) → Cell w c j k g
spells_cell (spells_node pos le i x y) = record { link = refl; pos = pos; le = le; inside = i }

other_not-same : (s : Side) → other s ≢ s
other_not-same Left e = absurd (let z : ◌≡◌ {A = ℕ} 0 1 = cc in omega arith)
other_not-same Right e = absurd (let z : ◌≡◌ {A = ℕ} 0 1 = cc in omega arith)

-- the link of a part below the child on the side s of the cell k: it is no link of a cell beside that child, nor the other link of k
module _ {c link : ℕ} (s : Side) (k : ℕ) (below beside : List ℕ) (distinct : Distinct (below ++ (k ∷ beside))) (upto : Upto c (below ++ (k ∷ beside)))
    (hangs : (link ≡ link_place k s) ⊎ LinkOf below link) where
  upto_below : Upto c below
  upto_below j m = upto j (mathlib.Core.List.Memᴰ.append_left (k ∷ beside) m)

  pos_first : 0 < k
  pos_first = (upto k (mathlib.Core.List.Memᴰ.append_right below (mathlib.Core.List.Memᴰ.head refl))).0

  beside_away : (j : ℕ) → Memᴰ j beside → Away link j
  beside_away j m = go hangs
    where
      pos : 0 < j
      pos = (upto j (mathlib.Core.List.Memᴰ.append_right below (mathlib.Core.List.Memᴰ.tail m))).0

      go : (link ≡ link_place k s) ⊎ LinkOf below link → Away link j
      go (inl e) = λ z q.
          let same = (link_injective j k z s pos pos_first (q ∙ e)).0 in
          distinct_apart (k ∷ []) (distinct_right below distinct) k (mathlib.Core.List.Memᴰ.head refl) (mathlib.Core.List.Memᴰ.cast (sym same) m)
      go (inr h) = link_away j pos upto_below h (λ i. distinct_apart below distinct j i (mathlib.Core.List.Memᴰ.tail m))

  opposite_away : link_place k (other s) ≢ link
  opposite_away q = go hangs
    where
      go : (link ≡ link_place k s) ⊎ LinkOf below link → ⊥
      go (inl e) = other_not-same s (link_injective k k (other s) s pos_first pos_first (q ∙ e)).1
      go (inr h) = link_away k pos_first upto_below h (λ i. distinct_apart below distinct k i (mathlib.Core.List.Memᴰ.head refl)) (other s) q

-- a proper part does not hang at the place of the tree
kept_proper : {w v : List ℕ} {c at link : ℕ} {ks : List ℕ} → Kept w v c at link ks → LinkOf ks link → at ≢ link
kept_proper kept h e = kept.away h.cell h.member h.side (sym (e ∙ h.is))

pub exchanged_spells : {w v : List ℕ} {c n at m link j : ℕ} {g : Region} {t u : Tree} (p : Part n at t m link u) (x : Tree) → get_or w at 0 ≡ j
    → Spells w c n g j t
    → Kept w v c at link (outside p) → Spells v c m (region_in p g) (get_or v link 0) x → Spells v c n g (get_or v at 0) (exchanged p x)
unfolding region_in exchanged outside
exchanged_spells part_here x e sp kept new = new
exchanged_spells {w} {v} {c} {at = at} {link = link} {g = g} (part_child {n = n} {k = k} {l = l} {r = r} s p) x e sp kept new =
    let beside = cells_of (child (other s) l r) in
    let first = spells_cell sp in
    let here : Memᴰ k (outside p ++ (k ∷ beside)) = mathlib.Core.List.Memᴰ.append_right (outside p) (mathlib.Core.List.Memᴰ.head refl) in
    let away = beside_away s k (outside p) beside kept.distinct kept.upto (part-link p) in
    let top : get_or v at 0 ≡ k = kept.top (kept_proper kept (part_child_link s k l r p)) ∙ e ∙ first.link in
    let side : get_or v (link_place k (other s)) 0 ≡ get_or w (link_place k (other s)) 0 =
    (kept.same k here).links (other s) (opposite_away s k (outside p) beside kept.distinct kept.upto (part-link p)) in
    rw top
    (spells_with_son s l r (exchanged p x) first.pos first.le (inside-same w v k g (kept.same k here).grant first.inside)
    (exchanged_spells p x refl (spells_child s sp) (kept_child s k (outside p) beside kept) new)
    (rw side
    (spells_frame
    (λ j m.
    let same = kept.same j (mathlib.Core.List.Memᴰ.append_right (outside p) (mathlib.Core.List.Memᴰ.tail m)) in
    record { links = λ z. same.links z (away j m z); grant = same.grant })
    (spells_child (other s) sp))))
