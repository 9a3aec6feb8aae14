-- Tests of the elements of a list, and of the numbers below one.
--   filter t xs           those elements of xs that pass, in their order
--   every t xs          each passes
--   any t xs            one passes
--   each n t            each number below n passes
--   same_numbers xs ys   the two lists are equal
-- Assumes nothing: these are definitions.
use Rattle.std.specs.Prelude.{ℕ, zero, suc, Bool, true, false, cond, ◌&&◌, ◌||◌, List, [], ◌∷◌, eqb}

module _ {A : Type 0} (t : A → Bool) where
  unfoldable pub filter : List A → List A
  filter [] = []
  filter (x ∷ xs) = cond (t x) (x ∷ filter xs) (filter xs)

  unfoldable pub every : List A → Bool
  every [] = true
  every (x ∷ xs) = t x && every xs

  unfoldable pub any : List A → Bool
  any [] = false
  any (x ∷ xs) = t x || any xs

unfoldable pub each : ℕ → (ℕ → Bool) → Bool
each zero t = true
each (suc n) t = t n && each n t

unfoldable pub same_numbers : List ℕ → List ℕ → Bool
same_numbers [] [] = true
same_numbers [] (y ∷ ys) = false
same_numbers (x ∷ xs) [] = false
same_numbers (x ∷ xs) (y ∷ ys) = eqb x y && same_numbers xs ys
