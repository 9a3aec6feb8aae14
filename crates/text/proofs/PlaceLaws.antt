-- The digits of a number, one for each power of ten that it reaches.
--   numeral-places      a number below 100,000 is its four highest places and its last digit
--   length-places       so long is it
--   places_after        these put behind a line are the number put behind it
-- Assumes nothing.
use Prim.Native.Nat.{ℕ, ◌+◌, ◌*◌, ◌/◌, ◌%◌, ◌<◌, ◌≤◌}
use mathlib.Core.Path.{◌≡◌, refl, sym, ap, ◌∙◌}
use mathlib.Core.List.{List, [], ◌∷◌, ◌++◌, append_assoc}
use native.Mathlib.Decide.{dec_lt}
use native.Mathlib.Omega.{arith}
use borrow.Author.Tests.{lt-ltb, le-ltb}
use lib.ListN.{length, length-append}
use Rattle.std.specs.Prelude.{cond, ltb}
use Rattle.text.specs.Numeral.{digit, numeral, place_digit}
use Rattle.text.proofs.NumeralLaws.{numeral-digit, numeral_more}

-- what stands before the places below a power: nothing, where the number doesn't reach it
abbrev above : ℕ → ℕ → List ℕ
above n power = cond (ltb n power) [] (numeral (n / power))

-- one place more: `tenth` is the next power down
module _ (n power tenth : ℕ) (ten : tenth * 10 ≡ power) (some : 0 < tenth) (next : n / tenth / 10 ≡ n / power) (few : n < power → n / tenth < 10)
    (many : power ≤ n → 10 ≤ n / tenth) where
  above_more : above n tenth ≡ above n power ++ place_digit n tenth
  above_more = by_size (dec_lt n tenth) (dec_lt n power)
    where
      by_size : Dec (n < tenth) → Dec (n < power) → above n tenth ≡ above n power ++ place_digit n tenth
      by_size (yes s) (yes t) = rw (lt-ltb n tenth s, lt-ltb n power t)
      by_size (yes s) (no t) = absurd (omega arith)
      by_size (no s) (yes t) =
          rw (le-ltb n tenth (omega arith), lt-ltb n power t, numeral-digit (n / tenth) (few t)) (ap (λ (d : ℕ). digit d ∷ []) (omega (arith, few t)))
      by_size (no s) (no t) = rw (le-ltb n tenth (omega arith), le-ltb n power (omega arith), numeral_more (n / tenth) (many (omega arith)), next)

last_more : (n : ℕ) → numeral n ≡ above n 10 ++ digit (n % 10) ∷ []
last_more n = by_size (dec_lt n 10)
  where
    by_size : Dec (n < 10) → numeral n ≡ above n 10 ++ digit (n % 10) ∷ []
    by_size (yes s) = rw (lt-ltb n 10 s, numeral-digit n s) (ap (λ (d : ℕ). digit d ∷ []) (omega arith))
    by_size (no s) = rw (le-ltb n 10 (omega arith), numeral_more n (omega arith))

module _ (n : ℕ) (small : n < 100000) where
  numeral-places : numeral n ≡ (((place_digit n 10000 ++ place_digit n 1000) ++ place_digit n 100) ++ place_digit n 10) ++ digit (n % 10) ∷ []
  numeral-places =
      let none : above n 100000 ≡ [] = rw (lt-ltb n 100000 small) in
      let p = above_more n 100000 10000 refl (omega arith) (omega arith) (λ h. omega arith) (λ h. omega arith) in
      let q = above_more n 10000 1000 refl (omega arith) (omega arith) (λ h. omega arith) (λ h. omega arith) in
      let r = above_more n 1000 100 refl (omega arith) (omega arith) (λ h. omega arith) (λ h. omega arith) in
      let s = above_more n 100 10 refl (omega arith) (omega arith) (λ h. omega arith) (λ h. omega arith) in
      last_more n ∙ rw (s, r, q, p, none)

  pub length-places : length (numeral n)
      ≡ length (place_digit n 10000) + length (place_digit n 1000) + length (place_digit n 100) + length (place_digit n 10) + 1
  length-places =
      let a = place_digit n 10000 in
      let b = place_digit n 1000 in
      let d = place_digit n 100 in
      let e = place_digit n 10 in
      let last : length (numeral n) ≡ length (((a ++ b) ++ d) ++ e) + 1 =
      ap length numeral-places ∙ length-append (((a ++ b) ++ d) ++ e) (digit (n % 10) ∷ []) in
      omega (arith, last, length-append ((a ++ b) ++ d) e, length-append (a ++ b) d, length-append a b)

  -- the places and the last digit put behind a line, one after the other
  pub places_after : (l : List ℕ)
      → ((((l ++ place_digit n 10000) ++ place_digit n 1000) ++ place_digit n 100) ++ place_digit n 10) ++ digit (n % 10) ∷ [] ≡ l ++ numeral n
  places_after l =
      let a = place_digit n 10000 in
      let b = place_digit n 1000 in
      let d = place_digit n 100 in
      let e = place_digit n 10 in
      let last = digit (n % 10) ∷ [] in
      rw (append_assoc l a b, append_assoc l (a ++ b) d, append_assoc l ((a ++ b) ++ d) e, append_assoc l (((a ++ b) ++ d) ++ e) last)
      (ap (λ (ds : List ℕ). l ++ ds) (sym numeral-places))
