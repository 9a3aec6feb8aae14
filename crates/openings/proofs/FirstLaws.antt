-- Laws of the first number that passes a test (specs/First), as a loop from k to the end m meets it.
--   first_here, first_next, first-end     the number that is looked at passes, or not, or all have been looked at; what comes of it for the loop
--   first-least                           it is none of the numbers before k
--   first_passes, first_before            it passes, unless it is the end, and none before it does
--   first_any                             the first is before the end exactly if one passes
-- Assumes nothing.
use Prim.Native.Nat.{ℕ, zero, suc, ◌+◌, ◌-◌, ◌<◌, ◌≤◌}
use mathlib.Core.Path.{◌≡◌, refl, sym, ◌∙◌}
use mathlib.Core.Bool.{Bool, true, false, cond, ◌||◌}
use native.Mathlib.Numerals.{add-one}
use native.Mathlib.Omega.{arith}
use native.Mathlib.Decide.{ℕ_discrete}
use lib.Dec.{ltb}
use borrow.Author.Tests.{lt-ltb, le-ltb}
use Rattle.lists.specs.Tests.{any}
use Rattle.lists.specs.Ranges.{count_from}
use Rattle.openings.specs.First.{first_passing}

module _ (t : ℕ → Bool) where
  first_suc : (k n : ℕ) → first_passing t k (suc n) ≡ cond (t k) k (first_passing t (suc k) n)
  unfolding first_passing
  first_suc k n = refl

  first_zero : (k : ℕ) → first_passing t k 0 ≡ k
  unfolding first_passing
  first_zero k = refl

  -- n is the first of all, and k is looked at
  module _ (k m n : ℕ) (all : first_passing t k (m - k) ≡ n) where
    one_more : k < m → m - k ≡ suc (m - (k + 1))
    one_more h = omega arith

    pub first_here : {b : Bool} → k < m → b ≡ t k → b ≡ true → k ≡ n
    first_here h e passes = sym (rw (one_more h, first_suc k (m - (k + 1)), ← e, passes)) ∙ all

    pub first_next : {b : Bool} → k < m → b ≡ t k → b ≡ false → first_passing t (k + 1) (m - (k + 1)) ≡ n
    first_next h e fails = rw (add-one k) (sym (rw (one_more h, first_suc k (m - (k + 1)), ← e, fails, add-one k)) ∙ all)

    pub first-end : m ≤ k → k ≡ n
    first-end h = let none : m - k ≡ 0 = omega arith in sym (first_zero k) ∙ rw none at all

  pub first-least : (k n : ℕ) → k ≤ first_passing t k n
  unfolding first_passing
  first-least k zero = omega arith
  first-least k (suc n) = go (t k) (first-least (suc k) n)
    where
      go : (b : Bool) → suc k ≤ first_passing t (suc k) n → k ≤ cond b k (first_passing t (suc k) n)
      go true h = omega arith
      go false h = omega arith

  pub first_passes : (k n : ℕ) → first_passing t k n < k + n → t (first_passing t k n) ≡ true
  unfolding first_passing
  first_passes k zero h = absurd (omega arith)
  first_passes k (suc n) h = go (t k) refl h (first_passes (suc k) n)
    where
      go : (b : Bool) → t k ≡ b → cond b k (first_passing t (suc k) n) < k + suc n
          → (first_passing t (suc k) n < suc k + n → t (first_passing t (suc k) n) ≡ true) → t (cond b k (first_passing t (suc k) n)) ≡ true
      go true e l f = e
      go false e l f = f (omega arith)

  pub first_before : (k n j : ℕ) → k ≤ j → j < first_passing t k n → t j ≡ false
  unfolding first_passing
  first_before k zero j h l = absurd (omega arith)
  first_before k (suc n) j h l = go (t k) refl l (first_before (suc k) n j) (ℕ_discrete j k)
    where
      go : (b : Bool) → t k ≡ b → j < cond b k (first_passing t (suc k) n) → (suc k ≤ j → j < first_passing t (suc k) n → t j ≡ false)
          → Dec (j ≡ k) → t j ≡ false
      go true e m f d = absurd (omega arith)
      go false e m f (yes q) = rw q e
      go false e m f (no q) = f (omega arith) m

  pub first_any : (k n : ℕ) → any t (count_from k n) ≡ ltb (first_passing t k n) (k + n)
  unfolding first_passing any count_from
  first_any k zero = sym (le-ltb k (k + 0) (omega arith))
  first_any k (suc n) = go (t k) (first_any (suc k) n)
    where
      go : (b : Bool) → any t (count_from (suc k) n) ≡ ltb (first_passing t (suc k) n) (suc k + n)
          → (b || any t (count_from (suc k) n)) ≡ ltb (cond b k (first_passing t (suc k) n)) (k + suc n)
      go true e = sym (lt-ltb k (k + suc n) (omega arith))
      go false e = let same : suc k + n ≡ k + suc n = omega arith in rw same at e
