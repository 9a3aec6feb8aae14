-- Lists of the same elements in another order.
--   Put x xs ys                          ys is xs with x put somewhere
--   Perm xs ys                           ys is xs in some order
--   put_mem, put_here, mem_put           the elements of ys are those of xs, and x
--   put_append-left, put_append_right    put in a part of a list
--   put_seam                             put between two parts
--   put_put                              of two that are put, either may be put first
--   put_map, length_put, distinct_put, put_distinct
--   perm_refl, perm_sym, perm_trans      Perm is an equivalence
--   put_perm, perm_cons, perm_exchange, perm_swap, perm_append     one put first; the first kept; the first two exchanged; two parts
--                                        exchanged; a part in another order
--   perm_mem, perm_map, length_perm, perm_distinct
-- Assumes nothing.
use Prim.Native.Nat.{suc}
use mathlib.Core.Logic.{◌⊎◌, inl, inr}
use mathlib.Core.Path.{◌≡◌, refl, sym, ap, ◌∙◌}
use mathlib.Core.List.Memᴰ
use mathlib.Core.List.{List, [], ◌∷◌, ◌++◌, map, append-nil, Memᴰ}
use lib.ListN.{length}
use Rattle.lists.proofs.DistinctLaws.{Distinct, distinct_more}

pub data Put {A : Type 0} (x : A) : List A → List A → Type 0 where
  put_first : {xs : List A} → Put x xs (x ∷ xs)
  put_later : {y : A} {xs ys : List A} → Put x xs ys → Put x (y ∷ xs) (y ∷ ys)

pub data Perm {A : Type 0} : List A → List A → Type 0 where
  perm_none : Perm [] []
  perm_more : {x : A} {xs ys zs : List A} → Perm xs ys → Put x ys zs → Perm (x ∷ xs) zs

module _ {A : Type 0} where
  pub put_mem : {x y : A} {xs ys : List A} → Put x xs ys → Memᴰ y ys → (y ≡ x) ⊎ Memᴰ y xs
  put_mem put_first (Memᴰ.head e) = inl e
  put_mem put_first (Memᴰ.tail m) = inr m
  put_mem (put_later p) (Memᴰ.head e) = inr (Memᴰ.head e)
  put_mem {x} {y} (put_later {y = z} {xs = xs} p) (Memᴰ.tail m) = go (put_mem p m)
    where
      go : (y ≡ x) ⊎ Memᴰ y xs → (y ≡ x) ⊎ Memᴰ y (z ∷ xs)
      go (inl e) = inl e
      go (inr i) = inr (Memᴰ.tail i)

  -- x itself, and the others
  pub put_here : {x : A} {xs ys : List A} → Put x xs ys → Memᴰ x ys
  put_here put_first = Memᴰ.head refl
  put_here (put_later p) = Memᴰ.tail (put_here p)

  pub mem_put : {x y : A} {xs ys : List A} → Put x xs ys → Memᴰ y xs → Memᴰ y ys
  mem_put put_first m = Memᴰ.tail m
  mem_put (put_later p) (Memᴰ.head e) = Memᴰ.head e
  mem_put (put_later p) (Memᴰ.tail m) = Memᴰ.tail (mem_put p m)

  pub put_append-left : {x : A} {xs ys : List A} (zs : List A) → Put x xs ys → Put x (xs ++ zs) (ys ++ zs)
  put_append-left zs put_first = put_first
  put_append-left zs (put_later p) = put_later (put_append-left zs p)

  pub put_append_right : {x : A} (zs : List A) {xs ys : List A} → Put x xs ys → Put x (zs ++ xs) (zs ++ ys)
  put_append_right [] p = p
  put_append_right (z ∷ zs) p = put_later (put_append_right zs p)

  pub put_seam : {x : A} (xs ys : List A) → Put x (xs ++ ys) (xs ++ x ∷ ys)
  put_seam xs ys = put_append_right xs put_first

  pub put_put : {x y : A} {xs ys zs : List A} → Put x xs ys → Put y ys zs → (us : List A) × Put y xs us × Put x us zs
  put_put {y = y} {xs = xs} put_first put_first = (y ∷ xs, put_first, put_later put_first)
  put_put put_first (put_later {ys = zs} q) = (zs, q, put_first)
  put_put {y = y} {xs = xs} (put_later p) put_first = (y ∷ xs, put_first, put_later (put_later p))
  put_put (put_later {y = z} p) (put_later q) = let r = put_put p q in (z ∷ r.0, put_later r.1, put_later r.2)

  pub length_put : {x : A} {xs ys : List A} → Put x xs ys → length ys ≡ suc (length xs)
  length_put put_first = refl
  length_put (put_later p) = ap suc (length_put p)

  pub distinct_put : {x : A} {xs ys : List A} → Put x xs ys → ¬ Memᴰ x xs → Distinct xs → Distinct ys
  distinct_put put_first n d = distinct_more n d
  distinct_put {x} (put_later {y = y} {xs = xs} p) n (distinct_more f d) =
      distinct_more (λ m. go (put_mem p m)) (distinct_put p (λ m. n (Memᴰ.tail m)) d)
    where
      go : (y ≡ x) ⊎ Memᴰ y xs → ⊥
      go (inl e) = n (Memᴰ.head (sym e))
      go (inr m) = f m

  pub put_distinct : {x : A} {xs ys : List A} → Put x xs ys → Distinct ys → Distinct xs × (¬ Memᴰ x xs)
  put_distinct put_first (distinct_more n d) = (d, n)
  put_distinct {x} (put_later {y = y} {xs = xs} {ys = ys} p) (distinct_more f d) =
      let r = put_distinct p d in
      (distinct_more (λ m. f (mem_put p m)) r.0, λ m. go r.1 m)
    where
      go : ¬ Memᴰ x xs → Memᴰ x (y ∷ xs) → ⊥
      go n (Memᴰ.head e) = f (Memᴰ.cast (sym e) (put_here p))
      go n (Memᴰ.tail m) = n m

  pub perm_refl : (xs : List A) → Perm xs xs
  perm_refl [] = perm_none
  perm_refl (x ∷ xs) = perm_more (perm_refl xs) put_first

  pub perm_cons : (x : A) {xs ys : List A} → Perm xs ys → Perm (x ∷ xs) (x ∷ ys)
  perm_cons x p = perm_more p put_first

  pub perm_exchange : (x y : A) (xs : List A) → Perm (x ∷ y ∷ xs) (y ∷ x ∷ xs)
  perm_exchange x y xs = perm_more (perm_refl (y ∷ xs)) (put_later put_first)

  pub put_perm : {x : A} {xs ys : List A} → Put x xs ys → Perm (x ∷ xs) ys
  put_perm {xs = xs} p = perm_more (perm_refl xs) p

  -- put in a list, and the same in an order of it
  perm_put : {x : A} {xs ys zs : List A} → Put x xs ys → Perm ys zs → (us : List A) × Perm xs us × Put x us zs
  perm_put put_first (perm_more {ys = us} q r) = (us, q, r)
  perm_put (put_later p) (perm_more q r) =
      let s = perm_put p q in
      let t = put_put s.2 r in
      (t.0, perm_more s.1 t.1, t.2)

  pub perm_trans : {xs ys zs : List A} → Perm xs ys → Perm ys zs → Perm xs zs
  perm_trans perm_none q = q
  perm_trans (perm_more p r) q = let s = perm_put r q in perm_more (perm_trans p s.1) s.2

  -- first in one list, somewhere in the other
  perm_first : {x : A} {xs ys zs : List A} → Perm ys xs → Put x ys zs → Perm zs (x ∷ xs)
  perm_first p put_first = perm_more p put_first
  perm_first (perm_more {ys = us} p r) (put_later q) = perm_more (perm_first {xs = us} p q) (put_later r)

  pub perm_sym : {xs ys : List A} → Perm xs ys → Perm ys xs
  perm_sym perm_none = perm_none
  perm_sym (perm_more p r) = perm_first (perm_sym p) r

  pub perm_mem : {y : A} {xs ys : List A} → Perm xs ys → Memᴰ y xs → Memᴰ y ys
  perm_mem {y = y} perm_none x4 = elim x4 [ ]
  perm_mem (perm_more p r) (Memᴰ.head e) = Memᴰ.cast e (put_here r)
  perm_mem (perm_more p r) (Memᴰ.tail m) = mem_put r (perm_mem p m)

  pub perm_append : {xs ys : List A} (zs : List A) → Perm xs ys → Perm (xs ++ zs) (ys ++ zs)
  perm_append zs perm_none = perm_refl zs
  perm_append zs (perm_more p r) = perm_more (perm_append zs p) (put_append-left zs r)

  pub perm_swap : (xs ys : List A) → Perm (xs ++ ys) (ys ++ xs)
  perm_swap [] ys = rw append-nil (perm_refl ys)
  perm_swap (x ∷ xs) ys = perm_more (perm_swap xs ys) (put_seam ys xs)

  pub length_perm : {xs ys : List A} → Perm xs ys → length ys ≡ length xs
  length_perm perm_none = refl
  length_perm (perm_more p r) = length_put r ∙ ap suc (length_perm p)

  pub perm_distinct : {xs ys : List A} → Perm xs ys → Distinct xs → Distinct ys
  perm_distinct perm_none d = d
  perm_distinct (perm_more p r) (distinct_more n d) = distinct_put r (λ m. n (perm_mem (perm_sym p) m)) (perm_distinct p d)

module _ {A B : Type 0} (f : A → B) where
  pub put_map : {x : A} {xs ys : List A} → Put x xs ys → Put (f x) (map f xs) (map f ys)
  put_map put_first = put_first
  put_map (put_later p) = put_later (put_map p)

  pub perm_map : {xs ys : List A} → Perm xs ys → Perm (map f xs) (map f ys)
  perm_map perm_none = perm_none
  perm_map (perm_more p r) = perm_more (perm_map p) (put_map r)
