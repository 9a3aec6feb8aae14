-- The parts of a packed answer.
--   number_word, a_word, b_word       a word's parts read back, where they fit their bits
-- Assumes nothing.
use Prim.Native.Nat.{ℕ, ◌/◌, ◌%◌, ◌<◌}
use mathlib.Core.Path.{◌≡◌}
use native.Mathlib.Omega.{arith}
use Rattle.packing.specs.Pack.{number_values, a_values, b_values, word}

module _ (number a b : ℕ) (n : number < number_values) (k : a < a_values) (m : b < b_values) where
  pub number_word : word number a b % number_values ≡ number
  unfolding word
  number_word = omega arith

  pub a_word : word number a b / 256 % a_values ≡ a
  unfolding word
  a_word = omega arith

  pub b_word : word number a b / 4294967296 ≡ b
  unfolding word
  b_word = omega arith
