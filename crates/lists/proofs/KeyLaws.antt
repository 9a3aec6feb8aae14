-- Lists whose elements are told apart by a key.
--   distinct_key         where the keys differ, elements of one key are one
--   distinct-keys-keep   the keys of what is kept differ
--   any_mem, mem_any     a test passes for one of a list exactly if one in it passes
--   any-keep             or if some are kept
-- Assumes nothing.
use mathlib.Core.Path.{◌≡◌, refl, sym, ap, ◌∙◌}
use mathlib.Core.Bool.{Bool, true, false, not, cond, ◌||◌, false≢true}
use mathlib.Core.List.Memᴰ
use mathlib.Core.List.{List, [], ◌∷◌, map, Memᴰ}
use lib.Dec.{eqb, eqb-suc-zero}
use lib.ListN.{length}
use Rattle.lists.specs.Tests.{filter, any}
use Rattle.lists.proofs.TestLaws.{filter_mem}
use Rattle.lists.proofs.DistinctLaws.{Distinct, distinct_more, distinct_first, distinct_rest}

among : {A K : Type 0} (key : A → K) (y z : A) → key y ≡ key z → (xs : List A) → Distinct (map key xs) → Memᴰ y xs → Memᴰ z xs → y ≡ z
among key y z q [] d m i = elim m [ ]
among key y z q (x ∷ xs) d (Memᴰ.head e) (Memᴰ.head f) = e ∙ sym f
among key y z q (x ∷ xs) d (Memᴰ.head e) (Memᴰ.tail j) = absurd (distinct_first d (Memᴰ.cast (ap key (sym e) ∙ q) (Memᴰ.map key j)))
among key y z q (x ∷ xs) d (Memᴰ.tail i) (Memᴰ.head f) = absurd (distinct_first d (Memᴰ.cast (ap key (sym f) ∙ sym q) (Memᴰ.map key i)))
among key y z q (x ∷ xs) d (Memᴰ.tail i) (Memᴰ.tail j) = among key y z q xs (distinct_rest d) i j

pub distinct_key : {A K : Type 0} (key : A → K) {xs : List A} → Distinct (map key xs) → (x y : A) → Memᴰ x xs → Memᴰ y xs → key x ≡ key y → x ≡ y
distinct_key key {xs = xs} d y z m i q = among key y z q xs d m i

pub distinct-keys-filter : {A K : Type 0} (key : A → K) (t : A → Bool) (xs : List A) → Distinct (map key xs) → Distinct (map key (filter t xs))
unfolding filter
distinct-keys-filter key t [] d = d
distinct-keys-filter {A} key t (x ∷ xs) (distinct_more n d) = go (t x) (distinct-keys-filter key t xs d)
  where
    go : (b : Bool) → Distinct (map key (filter t xs)) → Distinct (map key (cond b (x ∷ filter t xs) (filter t xs)))
    go true r = distinct_more (λ m. let o = Memᴰ.of_map key (filter t xs) m in n (Memᴰ.cast (sym o.2) (Memᴰ.map key (filter_mem t xs o.0 o.1).0))) r
    go false r = r

module _ {A : Type 0} (t : A → Bool) where
  pub any_mem : (xs : List A) → any t xs ≡ true → (x : A) × Memᴰ x xs × (t x ≡ true)
  unfolding any
  any_mem [] e = absurd (false≢true e)
  any_mem (x ∷ xs) e = go (t x) refl e (any_mem xs)
    where
      go : (b : Bool) → t x ≡ b → b || any t xs ≡ true → (any t xs ≡ true → (y : A) × Memᴰ y xs × (t y ≡ true))
          → (y : A) × Memᴰ y (x ∷ xs) × (t y ≡ true)
      go true p q f = (x, Memᴰ.head refl, p)
      go false p q f = let r = f q in (r.0, Memᴰ.tail r.1, r.2)

  pub any-filter : (xs : List A) → any t xs ≡ not (eqb (length (filter t xs)) 0)
  unfolding any filter
  any-filter [] = refl
  any-filter (x ∷ xs) = go (t x) (any-filter xs)
    where
      go : (b : Bool) → any t xs ≡ not (eqb (length (filter t xs)) 0) → (b || any t xs) ≡ not (eqb (length (cond b (x ∷ filter t xs) (filter t xs))) 0)
      go true e = rw (eqb-suc-zero (length (filter t xs)))
      go false e = e

  pub mem_any : {x : A} {xs : List A} → Memᴰ x xs → t x ≡ true → any t xs ≡ true
  unfolding any
  mem_any {xs = []} x6 p = elim x6 [ ]
  mem_any {xs = y ∷ ys} (Memᴰ.head e) p = rw (ap t (sym e) ∙ p)
  mem_any {xs = y ∷ ys} (Memᴰ.tail m) p = go (t y) (mem_any m p)
    where
      go : (b : Bool) → any t ys ≡ true → b || any t ys ≡ true
      go true e = refl
      go false e = e
