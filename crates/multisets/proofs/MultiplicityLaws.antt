-- Laws of how often a number stands in a list (specs/Multiplicity).
--   count_nil, count_here, count_other         by the first of the list: one more if it is the number, and as often as behind it if not
--   count-append                               two lists in a row
--   count_none                                 a number that equals none of the list stands there 0 times
--   count_put, count_perm, count-sort_by        the order does not matter
--   without_nil, without_here, without_other   by the first of the list: it goes if it is the number, and stays if not
--   without_twice, without_swap                a number taken out twice, and two numbers in either order
--   mem_without                                what stays is not the number
--   count-without-same, count-without_other    so that stands there 0 times, and the others as often as before
--   length_without                             a list is as long as a number's times and the others
--   distinct_nil, distinct_without             each number once, without one of them
--   count-distinct                             each once, if at all
--   peeling                                    what holds of the empty list, and of x ∷ xs if of xs without x, holds of every list
-- Assumes nothing.
use Prim.Native.Nat.{ℕ, zero, suc, ◌+◌, ◌≤◌, min}
use mathlib.Core.Logic.{◌≢◌}
use mathlib.Core.Path.{◌≡◌, refl, sym, ap, ◌∙◌}
use mathlib.Core.Bool.{Bool, true, false, cond, not}
use mathlib.Core.List.{List, [], ◌∷◌, ◌++◌, Memᴰ}
use native.Mathlib.Omega.{arith}
use native.Mathlib.Decide.{ℕ_discrete}
use lib.Dec.{eqb}
use lib.ListN.{length, length-append}
use borrow.Author.Tests.{eqb-true, eqb-false, eq-eqb, ne_eqb, not-true}
use Rattle.lists.specs.Tests.{filter}
use Rattle.lists.specs.Sort.{sort_by}
use Rattle.lists.proofs.TestLaws.{filter-append, filter_mem, filter_none, filter-filter, length-filter}
use Rattle.lists.proofs.PermLaws.{Put, put_first, put_later, Perm, perm_none, perm_more}
use Rattle.lists.proofs.SortLaws.{perm_sort_by}
use Rattle.multisets.specs.Multiplicity.{count, without, distinct}

pub count_nil : (x : ℕ) → count x [] ≡ 0
unfolding filter
count_nil x = refl

pub count_here : (x : ℕ) (xs : List ℕ) → count x (x ∷ xs) ≡ suc (count x xs)
unfolding filter
count_here x xs = rw (eq-eqb x x refl)

pub count_other : (x y : ℕ) (xs : List ℕ) → x ≢ y → count x (y ∷ xs) ≡ count x xs
unfolding filter
count_other x y xs n = rw (ne_eqb x y n)

pub count-append : (x : ℕ) (xs ys : List ℕ) → count x (xs ++ ys) ≡ count x xs + count x ys
count-append x xs ys = rw (filter-append, length-append)

pub count_none : (x : ℕ) (xs : List ℕ) → ((y : ℕ) → Memᴰ y xs → x ≢ y) → count x xs ≡ 0
count_none x xs f = ap length (filter_none (eqb x) xs (λ y m. ne_eqb x y (f y m)))

pub count_put : {y : ℕ} {xs ys : List ℕ} (x : ℕ) → Put y xs ys → count x ys ≡ count x (y ∷ xs)
count_put x put_first = refl
count_put {y} x (put_later {y = z} {xs = xs} {ys = ys} p) =
    let first : (v : ℕ) (vs : List ℕ) → count x (v ∷ vs) ≡ count x (v ∷ []) + count x vs = λ v. count-append x (v ∷ []) in
    omega (arith, count_put x p, first z ys, first z xs, first y xs, first y (z ∷ xs))

pub count_perm : {xs ys : List ℕ} (x : ℕ) → Perm xs ys → count x xs ≡ count x ys
count_perm x perm_none = refl
count_perm x (perm_more {x = y} {xs = xs} {ys = ys} p r) =
    omega (arith, count_perm x p, count_put x r, count-append x (y ∷ []) xs, count-append x (y ∷ []) ys)

pub count-sort_by : (key : ℕ → ℕ) (x : ℕ) (xs : List ℕ) → count x (sort_by key xs) ≡ count x xs
count-sort_by key x xs = sym (count_perm x (perm_sort_by key xs))

pub without_here : (x : ℕ) (xs : List ℕ) → without x (x ∷ xs) ≡ without x xs
unfolding filter
without_here x xs = rw (eq-eqb x x refl)

pub without_other : (x y : ℕ) (xs : List ℕ) → x ≢ y → without x (y ∷ xs) ≡ y ∷ without x xs
unfolding filter
without_other x y xs n = rw (ne_eqb x y n)

pub without_twice : (x : ℕ) (xs : List ℕ) → without x (without x xs) ≡ without x xs
without_twice x xs = filter-filter (λ y. not (eqb x y)) (λ y. not (eqb x y)) xs (λ y m e. e)

pub without_nil : (x : ℕ) → without x [] ≡ []
unfolding filter
without_nil x = refl

pub without_swap : (x y : ℕ) (xs : List ℕ) → without x (without y xs) ≡ without y (without x xs)
without_swap x y [] = rw (without_nil y, without_nil x, without_nil y)
without_swap x y (z ∷ xs) = go (without_swap x y xs) (ℕ_discrete x z) (ℕ_discrete y z)
  where
    go : without x (without y xs) ≡ without y (without x xs) → Dec (x ≡ z) → Dec (y ≡ z) → without x (without y (z ∷ xs)) ≡ without y (without x (z ∷ xs))
    go e (yes p) (yes q) = rw (p, q)
    go e (yes p) (no n) = rw (← p, without_here x xs, without_other y x xs (λ q. n (q ∙ p)), without_here x (without y xs)) e
    go e (no m) (yes q) = rw (← q, without_here y xs, without_other x y xs (λ p. m (p ∙ q)), without_here y (without x xs)) e
    go e (no m) (no n) =
        rw (without_other x z xs m, without_other y z xs n, without_other x z (without y xs) m, without_other y z (without x xs) n, e)

pub mem_without : (x y : ℕ) (xs : List ℕ) → Memᴰ y (without x xs) → x ≢ y
mem_without x y xs m = eqb-false x y (not-true (eqb x y) (filter_mem (λ z. not (eqb x z)) xs y m).1)

pub count-without-same : (x : ℕ) (xs : List ℕ) → count x (without x xs) ≡ 0
count-without-same x xs = count_none x (without x xs) (λ y. mem_without x y xs)

pub count-without_other : (x y : ℕ) (xs : List ℕ) → x ≢ y → count x (without y xs) ≡ count x xs
count-without_other x y xs n =
    ap length
    (filter-filter (eqb x) (λ z. not (eqb y z)) xs
    (λ z m e. ap not (ne_eqb y z (λ q. n (eqb-true x z e ∙ sym q)))))

pub length_without : (x : ℕ) (xs : List ℕ) → length xs ≡ count x xs + length (without x xs)
unfolding filter
length_without x [] = refl
length_without x (y ∷ xs) = go (eqb x y) (length_without x xs)
  where
    go : (b : Bool) → length xs ≡ count x xs + length (without x xs)
        → suc (length xs) ≡ length (cond b (y ∷ filter (eqb x) xs) (filter (eqb x) xs)) + length (cond (not b) (y ∷ without x xs) (without x xs))
    go true e = omega arith
    go false e = omega arith

pub distinct_nil : distinct [] ≡ []
unfolding distinct
distinct_nil = refl

distinct_cons : (x : ℕ) (xs : List ℕ) → distinct (x ∷ xs) ≡ x ∷ without x (distinct xs)
unfolding distinct
distinct_cons x xs = refl

pub distinct_without : (x : ℕ) (xs : List ℕ) → distinct (without x xs) ≡ without x (distinct xs)
distinct_without x [] = rw (without_nil x, distinct_nil, without_nil x)
distinct_without x (y ∷ xs) = go (distinct_without x xs) (ℕ_discrete x y)
  where
    go : distinct (without x xs) ≡ without x (distinct xs) → Dec (x ≡ y) → distinct (without x (y ∷ xs)) ≡ without x (distinct (y ∷ xs))
    go e (yes q) = rw (← q, without_here x xs, distinct_cons x xs, without_here x (without x (distinct xs)), without_twice x (distinct xs)) e
    go e (no n) =
        rw (without_other x y xs n, distinct_cons y xs, distinct_cons y (without x xs), without_other x y (without y (distinct xs)) n, e)
        (ap (λ (l : List ℕ). y ∷ l) (without_swap y x (distinct xs)))

pub count-distinct : (x : ℕ) (xs : List ℕ) → count x (distinct xs) ≡ min 1 (count x xs)
count-distinct x [] = rw (distinct_nil, count_nil x)
count-distinct x (y ∷ xs) = go (count-distinct x xs) (ℕ_discrete x y)
  where
    go : count x (distinct xs) ≡ min 1 (count x xs) → Dec (x ≡ y) → count x (distinct (y ∷ xs)) ≡ min 1 (count x (y ∷ xs))
    go e (yes q) =
        rw (← q, distinct_cons x xs, count_here x (without x (distinct xs)), count-without-same x (distinct xs), count_here x xs) (omega arith)
    go e (no n) = rw (distinct_cons y xs, count_other x y (without y (distinct xs)) n, count_other x y xs n, count-without_other x y (distinct xs) n) e

module _ (P : List ℕ → Type 0) (none : P []) (more : (x : ℕ) (xs : List ℕ) → P (without x xs) → P (x ∷ xs)) where
  peeling_within : (n : ℕ) (xs : List ℕ) → length xs ≤ n → P xs
  peeling_within zero [] h = none
  peeling_within zero (x ∷ xs) h = absurd (omega arith)
  peeling_within (suc n) [] h = none
  peeling_within (suc n) (x ∷ xs) h =
      more x xs (peeling_within n (without x xs) (omega (arith, length-filter (λ y. not (eqb x y)) xs)))

  pub peeling : (xs : List ℕ) → P xs
  peeling xs = peeling_within (length xs) xs (omega arith)
