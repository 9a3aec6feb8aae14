-- Lists in which no number stands twice.
--   Distinct ks                     no number stands in ks twice
--   Upto c ks                       each number of ks is one of 1 to c
--   distinct-left, distinct_right   a part of such a list is one
--   distinct_apart                  its two parts have no number in common
--   distinct_append                 two such lists with none in common make one
--   distinct-keep                   what is kept of such a list is one
--   pigeonhole                      of 1 to c no more than c are distinct
-- Assumes nothing.
use Prim.Native.Nat.{ℕ, zero, suc, ◌<◌, ◌≤◌}
use mathlib.Core.Logic.{◌⊎◌, inl, inr}
use mathlib.Core.Path.{◌≡◌, refl, sym, ap}
use mathlib.Core.Bool.{Bool, true, false, not, cond}
use mathlib.Core.List.Memᴰ
use mathlib.Core.List.{List, [], ◌∷◌, ◌++◌, Memᴰ}
use native.Mathlib.Omega.{arith}
use lib.Dec.{eqb}
use lib.ListN.{length}
use borrow.Author.Tests.{eqb-true, ne_eqb, eqb-false, not-true}
use Rattle.lists.specs.Tests.{filter}
use Rattle.lists.proofs.TestLaws.{filter_mem, filter_all}

pub data Distinct {A : Type 0} : List A → Type 0 where
  distinct_none : Distinct []
  distinct_more : {k : A} {ks : List A} → ¬ Memᴰ k ks → Distinct ks → Distinct (k ∷ ks)

pub distinct_first : {A : Type 0} {k : A} {ks : List A} → Distinct (k ∷ ks) → ¬ Memᴰ k ks
distinct_first (distinct_more n d) = n

pub distinct_rest : {A : Type 0} {k : A} {ks : List A} → Distinct (k ∷ ks) → Distinct ks
distinct_rest (distinct_more n d) = d

abbrev pub Upto : ℕ → List ℕ → Type 0
Upto c ks = (k : ℕ) → Memᴰ k ks → (0 < k) × (k ≤ c)

module _ {A : Type 0} where
  pub distinct-left : (a b : List A) → Distinct (a ++ b) → Distinct a
  distinct-left [] b d = distinct_none
  distinct-left (k ∷ a) b (distinct_more n d) = distinct_more (λ m. n (Memᴰ.append_left b m)) (distinct-left a b d)

  pub distinct_right : (a : List A) {b : List A} → Distinct (a ++ b) → Distinct b
  distinct_right [] d = d
  distinct_right (k ∷ a) (distinct_more n d) = distinct_right a d

  pub distinct_apart : (a : List A) {b : List A} → Distinct (a ++ b) → (k : A) → Memᴰ k a → Memᴰ k b → ⊥
  distinct_apart [] {b = b} _ k x4 i = elim x4 [ ]
  distinct_apart (x ∷ a) (distinct_more n d) k (Memᴰ.head e) i = n (Memᴰ.append_right a (Memᴰ.cast (sym e) i))
  distinct_apart (x ∷ a) (distinct_more n d) k (Memᴰ.tail m) i = distinct_apart a d k m i

  pub distinct_append : {a b : List A} → Distinct a → Distinct b → ((k : A) → Memᴰ k a → Memᴰ k b → ⊥) → Distinct (a ++ b)
  distinct_append distinct_none d f = d
  distinct_append {b = b} (distinct_more {k = k} {ks = a} n c) d f =
      distinct_more (λ m. go (Memᴰ.append_cases a m)) (distinct_append c d (λ j m i. f j (Memᴰ.tail m) i))
    where
      go : Memᴰ k a ⊎ Memᴰ k b → ⊥
      go (inl m) = n m
      go (inr i) = f k (Memᴰ.head refl) i

  pub distinct_filter : (t : A → Bool) {ks : List A} → Distinct ks → Distinct (filter t ks)
  unfolding filter
  distinct_filter t distinct_none = distinct_none
  distinct_filter t (distinct_more {k = k} {ks = ks} n d) = go (t k) (distinct_filter t d)
    where
      go : (b : Bool) → Distinct (filter t ks) → Distinct (cond b (k ∷ filter t ks) (filter t ks))
      go true r = distinct_more (λ m. n (filter_mem t ks k m).0) r
      go false r = r

-- the list without x
abbrev without : ℕ → List ℕ → List ℕ
without x ks = filter (λ k. not (eqb k x)) ks

without-length : (x : ℕ) {ks : List ℕ} → Distinct ks → length ks ≤ suc (length (without x ks))
unfolding filter
without-length x distinct_none = omega arith
without-length x (distinct_more {k = k} {ks = ks} n d) = go (eqb k x) refl (without-length x d)
  where
    go : (b : Bool) → eqb k x ≡ b → length ks ≤ suc (length (without x ks)) → suc (length ks) ≤ suc (length (cond (not b) (k ∷ without x ks) (without x ks)))
    go true e h =
        let all : without x ks ≡ ks = filter_all _ ks (λ j m. ap not (ne_eqb j x (λ q. n (Memᴰ.cast (eqb-true k x e) (Memᴰ.cast (sym q) m))))) in
        omega (arith, ap length all)
    go false e h = omega arith

without_upto : (c : ℕ) (ks : List ℕ) → Upto (suc c) ks → Upto c (without (suc c) ks)
without_upto c ks u k m =
    let r = filter_mem _ ks k m in
    let b = u k r.0 in
    let n = eqb-false k (suc c) (not-true (eqb k (suc c)) r.1) in
    (b.0, omega arith)

pub pigeonhole : (c : ℕ) {ks : List ℕ} → Distinct ks → Upto c ks → length ks ≤ c
pigeonhole zero distinct_none u = omega arith
pigeonhole zero (distinct_more {k = k} n d) u = absurd (let b = u k (Memᴰ.head refl) in omega arith)
pigeonhole (suc c) {ks} d u = omega (arith, without-length (suc c) d, pigeonhole c (distinct_filter _ d) (without_upto c ks u))
