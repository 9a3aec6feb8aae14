-- `each`, one test at a time, as a loop that counts down makes it.
--   each_fails     a test that fails decides
--   each-passes    a test that passes leaves those below it
--   each-end       nothing is left to test
--   and_false      a second test that fails
-- Assumes nothing.
use Prim.Native.Nat.{ℕ, zero, suc, ◌-◌, ◌<◌, ◌≤◌}
use mathlib.Core.Path.{◌≡◌, refl, ◌∙◌}
use mathlib.Core.Bool.{Bool, true, false, ◌&&◌}
use native.Mathlib.Numerals.{sub-one}
use native.Mathlib.Omega.{arith}
use Rattle.lists.specs.Tests.{each}

each_step : (n : ℕ) (t : ℕ → Bool) → 0 < n → each n t ≡ (t (n - 1) && each (n - 1) t)
unfolding each
each_step zero t h = absurd (omega arith)
each_step (suc n) t h = rw (sub-one (suc n))

pub each_fails : (n : ℕ) (t : ℕ → Bool) → 0 < n → t (n - 1) ≡ false → each n t ≡ false
each_fails n t h e = each_step n t h ∙ rw e

pub each-passes : (n : ℕ) (t : ℕ → Bool) → 0 < n → t (n - 1) ≡ true → each n t ≡ each (n - 1) t
each-passes n t h e = each_step n t h ∙ rw e

pub each-end : (n : ℕ) (t : ℕ → Bool) → n ≤ 0 → each n t ≡ true
unfolding each
each-end zero t h = refl
each-end (suc n) t h = absurd (omega arith)

pub and_false : (a : Bool) → (a && false) ≡ false
and_false true = refl
and_false false = refl
