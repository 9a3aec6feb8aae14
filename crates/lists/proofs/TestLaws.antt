-- Laws of the tests of specs/Tests.
--   T-iff                    a test that passes is true
--   T_and                    two tests in one pass exactly if both do
--   tests_agree              two tests of which each passes if the other does are one
--   not_passed, not_failed   a test whose negation passes fails, and one whose negation fails passes
--   both_le, le_both         a test of two orders passes exactly if both hold
--   each_all, all_each       the test of every number below n passes exactly if each one's does
--   every_all, all_every     the same of the elements of a list
--   filter-append              what is kept of two lists in a row
--   filter_map                 of a list that is made from another
--   mem-keep, keep-mem       an element is kept exactly if it is in the list and passes
--   length-keep              no more are kept than there are
--   filter_none, filter_all      none is kept where none passes, and all where all pass
--   filter_same                tests that agree on the elements filter the same
--   filter-filter                a test that passes no more than another keeps as much of what the other kept
-- Assumes nothing.
use Prim.Native.Nat.{ℕ, zero, suc, ◌<◌, ◌≤◌}
use mathlib.Core.Logic.{◌↔◌}
use mathlib.Core.Path.{◌≡◌, refl, sym, ap, ◌∙◌}
use mathlib.Core.Bool.{Bool, true, false, cond, not, ◌&&◌, and-eq-true_iff, false≢true, not-not}
use mathlib.Core.List.Memᴰ
use mathlib.Core.List.{List, [], ◌∷◌, ◌++◌, map, Memᴰ}
use native.Mathlib.Omega.{arith}
use native.Mathlib.Decide.{ℕ_discrete}
use native.Mathlib.Nat.{lt-suc_self}
use lib.Dec.{T, leb}
use lib.ListN.{length}
use borrow.Author.Tests.{leb-true, le-leb}
use Rattle.lists.specs.Tests.{filter, every, each}

pub T-iff : (t : Bool) → T t ↔ (t ≡ true)
T-iff true = (λ _. refl, λ _. tt)
T-iff false = (λ h. absurd h, λ e. absurd (false≢true e))

pub T_and : (t u : Bool) → T (t && u) ↔ (T t × T u)
T_and true u = (λ h. (tt, h), λ h. h.1)
T_and false u = (λ h. absurd h, λ h. absurd h.0)

pub tests_agree : (t u : Bool) → (t ≡ true → u ≡ true) → (u ≡ true → t ≡ true) → t ≡ u
tests_agree true u f g = sym (f refl)
tests_agree false true f g = g refl
tests_agree false false f g = refl

pub not_passed : {t u : Bool} → t ≡ u → not t ≡ true → u ≡ false
not_passed {t} e h = sym e ∙ sym (not-not t) ∙ ap not h

pub not_failed : {t u : Bool} → t ≡ u → not t ≡ false → u ≡ true
not_failed {t} e h = sym e ∙ sym (not-not t) ∙ ap not h

pub both_le : (k l m n : ℕ) → (leb k l && leb m n) ≡ true → (k ≤ l) × (m ≤ n)
both_le k l m n e = let both = (and-eq-true_iff (leb k l) (leb m n)).0 e in (leb-true k l both.0, leb-true m n both.1)

pub le_both : (k l m n : ℕ) → k ≤ l → m ≤ n → (leb k l && leb m n) ≡ true
le_both k l m n h i = rw (le-leb k l h) (le-leb m n i)

pub each_all : (n : ℕ) (t : ℕ → Bool) → each n t ≡ true → (i : ℕ) → i < n → t i ≡ true
unfolding each
each_all zero t e i h = absurd (omega arith)
each_all (suc n) t e i h = let both = (and-eq-true_iff (t n) (each n t)).0 e in go both.0 (each_all n t both.1 i) (ℕ_discrete i n)
  where
    go : t n ≡ true → (i < n → t i ≡ true) → Dec (i ≡ n) → t i ≡ true
    go last before (yes q) = ap t q ∙ last
    go last before (no q) = before (omega arith)

pub all_each : (n : ℕ) (t : ℕ → Bool) → ((i : ℕ) → i < n → t i ≡ true) → each n t ≡ true
unfolding each
all_each zero t f = refl
all_each (suc n) t f = rw (f n (lt-suc_self n)) (all_each n t (λ i h. f i (omega arith)))

module _ {A : Type 0} (t : A → Bool) where
  pub every_all : (xs : List A) → every t xs ≡ true → (x : A) → Memᴰ x xs → t x ≡ true
  unfolding every
  every_all [] e x x4 = elim x4 [ ]
  every_all (y ∷ ys) e x (Memᴰ.head q) = ap t q ∙ ((and-eq-true_iff (t y) (every t ys)).0 e).0
  every_all (y ∷ ys) e x (Memᴰ.tail m) = every_all ys ((and-eq-true_iff (t y) (every t ys)).0 e).1 x m

  pub all_every : (xs : List A) → ((x : A) → Memᴰ x xs → t x ≡ true) → every t xs ≡ true
  unfolding every
  all_every [] f = refl
  all_every (x ∷ xs) f = rw (f x (Memᴰ.head refl)) (all_every xs (λ y m. f y (Memᴰ.tail m)))

  pub filter-append : (xs ys : List A) → filter t (xs ++ ys) ≡ filter t xs ++ filter t ys
  unfolding filter
  filter-append [] ys = refl
  filter-append (x ∷ xs) ys = go (t x) (filter-append xs ys)
    where
      go : (b : Bool) → filter t (xs ++ ys) ≡ filter t xs ++ filter t ys
          → cond b (x ∷ filter t (xs ++ ys)) (filter t (xs ++ ys)) ≡ cond b (x ∷ filter t xs) (filter t xs) ++ filter t ys
      go true e = ap (λ (l : List A). x ∷ l) e
      go false e = e

  pub mem_filter : (xs : List A) (x : A) → Memᴰ x xs → t x ≡ true → Memᴰ x (filter t xs)
  unfolding filter
  mem_filter [] x x4 e = elim x4 [ ]
  mem_filter (y ∷ ys) x (Memᴰ.head q) e = rw (sym (ap t q) ∙ e) (Memᴰ.head q)
  mem_filter (y ∷ ys) x (Memᴰ.tail m) e = go (t y) (mem_filter ys x m e)
    where
      go : (b : Bool) → Memᴰ x (filter t ys) → Memᴰ x (cond b (y ∷ filter t ys) (filter t ys))
      go true i = Memᴰ.tail i
      go false i = i

  pub filter_mem : (xs : List A) (x : A) → Memᴰ x (filter t xs) → Memᴰ x xs × (t x ≡ true)
  unfolding filter
  filter_mem [] x m = absurd (Memᴰ.not-nil m)
  filter_mem (y ∷ ys) x m = go (t y) refl m (filter_mem ys x)
    where
      further : Memᴰ x ys × (t x ≡ true) → Memᴰ x (y ∷ ys) × (t x ≡ true)
      further r = (Memᴰ.tail r.0, r.1)

      go : (b : Bool) → t y ≡ b → Memᴰ x (cond b (y ∷ filter t ys) (filter t ys)) → (Memᴰ x (filter t ys) → Memᴰ x ys × (t x ≡ true))
          → Memᴰ x (y ∷ ys) × (t x ≡ true)
      go true e (Memᴰ.head q) f = (Memᴰ.head q, ap t q ∙ e)
      go true e (Memᴰ.tail i) f = further (f i)
      go false e i f = further (f i)

  pub length-filter : (xs : List A) → length (filter t xs) ≤ length xs
  unfolding filter
  length-filter [] = omega arith
  length-filter (x ∷ xs) = go (t x) (length-filter xs)
    where
      go : (b : Bool) → length (filter t xs) ≤ length xs → length (cond b (x ∷ filter t xs) (filter t xs)) ≤ suc (length xs)
      go true h = omega arith
      go false h = omega arith

  pub filter_none : (xs : List A) → ((x : A) → Memᴰ x xs → t x ≡ false) → filter t xs ≡ []
  unfolding filter
  filter_none [] f = refl
  filter_none (x ∷ xs) f = rw (f x (Memᴰ.head refl)) (filter_none xs (λ y m. f y (Memᴰ.tail m)))

  pub filter_all : (xs : List A) → ((x : A) → Memᴰ x xs → t x ≡ true) → filter t xs ≡ xs
  unfolding filter
  filter_all [] f = refl
  filter_all (x ∷ xs) f = rw (f x (Memᴰ.head refl)) (ap (λ (l : List A). x ∷ l) (filter_all xs (λ y m. f y (Memᴰ.tail m))))

pub filter_same : {A : Type 0} (t u : A → Bool) (xs : List A) → ((x : A) → Memᴰ x xs → t x ≡ u x) → filter t xs ≡ filter u xs
unfolding filter
filter_same t u [] f = refl
filter_same {A} t u (x ∷ xs) f = rw (f x (Memᴰ.head refl), filter_same t u xs (λ y m. f y (Memᴰ.tail m)))

pub filter_map : {A B : Type 0} (t : B → Bool) (f : A → B) (xs : List A) → filter t (map f xs) ≡ map f (filter (λ x. t (f x)) xs)
unfolding filter
filter_map t f [] = refl
filter_map {A} {B} t f (x ∷ xs) = go (t (f x)) (filter (λ y. t (f y)) xs) (filter_map t f xs)
  where
    go : (b : Bool) {ys : List B} (zs : List A) → ys ≡ map f zs → cond b (f x ∷ ys) ys ≡ map f (cond b (x ∷ zs) zs)
    go true zs e = ap (λ (l : List B). f x ∷ l) e
    go false zs e = e

pub filter-filter : {A : Type 0} (t u : A → Bool) (xs : List A) → ((x : A) → Memᴰ x xs → t x ≡ true → u x ≡ true) → filter t (filter u xs) ≡ filter t xs
unfolding filter
filter-filter t u [] f = refl
filter-filter {A} t u (x ∷ xs) f = go (u x) (f x (Memᴰ.head refl)) (filter-filter t u xs (λ y m. f y (Memᴰ.tail m)))
  where
    go : (b : Bool) → (t x ≡ true → b ≡ true) → filter t (filter u xs) ≡ filter t xs → filter t (cond b (x ∷ filter u xs) (filter u xs)) ≡ filter t (x ∷ xs)
    go true h e = ap (λ (l : List A). cond (t x) (x ∷ l) l) e
    go false h e = rw (tests_agree (t x) false h (λ p. absurd (false≢true p))) e
