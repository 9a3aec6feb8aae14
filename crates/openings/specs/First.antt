-- The first of some numbers that passes a test.
--   first_passing t k n    of the n numbers from k on; k + n where none passes
-- Assumes nothing: these are definitions.
use Rattle.std.specs.Prelude.{ℕ, zero, suc, Bool, cond}

unfoldable pub first_passing : (ℕ → Bool) → ℕ → ℕ → ℕ
first_passing t k zero = k
first_passing t k (suc n) = cond (t k) k (first_passing t (suc k) n)
