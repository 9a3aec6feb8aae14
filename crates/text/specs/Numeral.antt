-- A number in decimal, without leading zeros.
--   digits_by k n          the digits of n, at most k of them
--   numeral n             all its digits
--   place_digit n power   the digit of n for a power of ten, where n reaches it
--   numbered text n       a text with a number behind it
-- Assumes nothing: these are definitions.
use Rattle.std.specs.Prelude.{ℕ, zero, suc, ◌+◌, ◌/◌, ◌%◌, true, false, List, [], ◌∷◌, ◌++◌, ltb, cond}
use Rattle.text.specs.Decimal.{zero_digit}

-- the byte of a digit
abbrev pub digit : ℕ → ℕ
digit d = zero_digit + d

unfoldable pub digits_by : ℕ → ℕ → List ℕ
digits_by zero n = []
digits_by (suc k) n = elim (ltb n 10) [ true ↦ digit n ∷ [] | false ↦ digits_by k (n / 10) ++ digit (n % 10) ∷ [] ]

-- a number has no more digits than one more than itself
unfoldable pub numeral : ℕ → List ℕ
numeral n = digits_by (suc n) n

-- the digit of n for a power of ten, where n reaches it
abbrev pub place_digit : ℕ → ℕ → List ℕ
place_digit n power = cond (ltb n power) [] (digit (n / power % 10) ∷ [])

abbrev pub numbered : List ℕ → ℕ → List ℕ
numbered text n = text ++ numeral n

-- a number of 64 bits has no more digits
abbrev pub max_digits : ℕ
max_digits = 20
