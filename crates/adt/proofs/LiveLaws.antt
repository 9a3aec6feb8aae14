-- The grants of a tree, ascending by number, after an insertion and after a removal: what the plain book has then.
--   grants_of w t            the grants of the cells of t, in the tree's order
--   live w t                ascending by number
--   numbers_of w t           their numbers, in the tree's order
--   inserted-numbers, removed-numbers   they stay distinct
--   live-inserted           the new grant is inserted
--   live-removed            all stay but those of the removed cell's number
-- Assumes nothing.
use Prim.Native.Nat.{ℕ}
use mathlib.Core.Path.{◌≡◌, refl, sym, ap, ◌∙◌}
use mathlib.Core.Bool.{not}
use mathlib.Core.List.Memᴰ
use mathlib.Core.List.{List, [], ◌∷◌, map, Memᴰ}
use lib.Dec.{eqb}
use borrow.Author.Tests.{eq-eqb, ne_eqb}
use Rattle.lists.specs.Tests.{filter}
use Rattle.lists.specs.Sort.{insert_by, sort_by}
use Rattle.lists.proofs.DistinctLaws.{Distinct, distinct_more}
use Rattle.lists.proofs.PermLaws.{Put, put_map, distinct_put, Perm, perm_sym, perm_map, perm_distinct}
use Rattle.lists.proofs.SortLaws.{put_insert_by, sort_by_mem, sort_by_put, sort_by_perm, filter_put}
use Rattle.model.specs.declared.Grant.{Grant}
use Rattle.pool.specs.Cell.{grant_at}
use Rattle.adt.proofs.Spells.{Tree, cells_of}
use Rattle.adt.proofs.InsertLaws.{Inserted}
use Rattle.adt.proofs.RemoveLaws.{Removed}

abbrev number : Grant → ℕ
number g = g.number

abbrev pub grants_of : List ℕ → Tree → List Grant
grants_of w t = map (grant_at w) (cells_of t)

abbrev pub numbers_of : List ℕ → Tree → List ℕ
numbers_of w t = map (λ g. g.number) (grants_of w t)

abbrev pub live : List ℕ → Tree → List Grant
live w t = sort_by (λ g. g.number) (grants_of w t)

map_same : {A B : Type 0} (f g : A → B) (xs : List A) → ((x : A) → Memᴰ x xs → f x ≡ g x) → map f xs ≡ map g xs
map_same f g [] e = refl
map_same {B = B} f g (x ∷ xs) e = rw (e x (Memᴰ.head refl)) (ap (λ (ys : List B). g x ∷ ys) (map_same f g xs (λ y m. e y (Memᴰ.tail m))))

-- an element of a sorted list that has some number
number_mem : (gs : List Grant) (g : Grant) → Memᴰ g (sort_by number gs) → Memᴰ g.number (map number gs)
number_mem gs g m = Memᴰ.map number (sort_by_mem number gs m)

-- of a list without its first
first-apart : {n : ℕ} {ns : List ℕ} → Distinct (n ∷ ns) → ¬ Memᴰ n ns
first-apart (distinct_more f d) = f

rest-distinct : {n : ℕ} {ns : List ℕ} → Distinct (n ∷ ns) → Distinct ns
rest-distinct (distinct_more f d) = d

module _ {w v : List ℕ} {c : ℕ} {t : Tree} {k : ℕ} {ks : List ℕ} {g : Grant} (i : Inserted w v c t k ks g)
    (fresh : ¬ Memᴰ g.number (numbers_of w t)) (distinct : Distinct (numbers_of w t)) where
  put_grant : Put g (grants_of w t) (grants_of v i.tree)
  put_grant = rw (i.grant, map_same (grant_at v) (grant_at w) (cells_of t) i.others) at (put_map (grant_at v) i.cells)

  pub inserted-numbers : Distinct (numbers_of v i.tree)
  inserted-numbers = distinct_put (put_map number put_grant) fresh distinct

  pub live-inserted : live v i.tree ≡ insert_by (λ g. g.number) g (live w t)
  live-inserted = sort_by_put number put_grant inserted-numbers

module _ {w v : List ℕ} {c : ℕ} {t : Tree} {k : ℕ} {ks : List ℕ} (r : Removed w v c t k ks) (distinct : Distinct (numbers_of w t)) where
  perm_grants : Perm (grant_at w k ∷ grants_of v r.tree) (grants_of w t)
  perm_grants = rw (map_same (grant_at v) (grant_at w) (cells_of r.tree) r.others) (perm_map (grant_at w) r.cells)

  distinct_more_numbers : Distinct ((grant_at w k).number ∷ numbers_of v r.tree)
  distinct_more_numbers = perm_distinct (perm_sym (perm_map number perm_grants)) distinct

  pub removed-numbers : Distinct (numbers_of v r.tree)
  removed-numbers = rest-distinct distinct_more_numbers

  pub live-removed : filter (λ g. not (eqb g.number (grant_at w k).number)) (live w t) ≡ live v r.tree
  unfolding sort_by
  live-removed =
      ap (filter (λ g. not (eqb g.number (grant_at w k).number))) (sym (sort_by_perm number perm_grants distinct_more_numbers))
      ∙ filter_put _ (put_insert_by number (grant_at w k) (live v r.tree)) (ap not (eq-eqb (grant_at w k).number (grant_at w k).number refl))
      (λ g m. ap not (ne_eqb g.number (grant_at w k).number
      (λ e. first-apart distinct_more_numbers (Memᴰ.cast (sym e) (number_mem (grants_of v r.tree) g m)))))
