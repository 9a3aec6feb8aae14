-- The digits of a number.
--   numeral-digit, numeral_more   a number below ten is one digit; any other is the digits of its tenth part and its last digit
--   numeral_induct                induction by that
--   length-numeral-..             how many there are then
--   numeral-few                   a number below 10 ^ k has at most k digits
--   value-numeral                 the value of a number's digits is the number
--   number-numeral                they are one digit or more, and nothing else
--   decimal-numeral               so a number that is printed is read again as itself
-- Assumes nothing.
use Prim.Native.Nat.{ℕ, zero, suc, ◌+◌, ◌-◌, ◌*◌, ◌/◌, ◌%◌, ◌^◌, ◌<◌, ◌≤◌}
use mathlib.Core.Path.{◌≡◌, refl, sym, ap, ◌∙◌}
use mathlib.Core.Bool.{Bool, true, false, ◌&&◌, false≢true}
use mathlib.Core.List.{List, [], ◌∷◌, ◌++◌}
use Rattle.std.proofs.Common.{Some}
use native.Mathlib.Decide.{dec_lt}
use native.Mathlib.Nat.{pow-suc, div-lt_iff_lt-mul}
use native.Mathlib.Omega.{arith}
use borrow.Author.Tests.{lt-ltb, le-ltb}
use lib.Dec.{lit<}
use lib.ListN.{length, length-append}
use Rattle.lists.specs.Tests.{every}
use Rattle.lists.proofs.TestLaws.{le_both}
use Rattle.text.specs.Decimal.{is_digit, is_number, value_after, decimal, zero_digit, nine_digit}
use Rattle.text.specs.Numeral.{digit, digits_by, numeral}

digits_digit : (k n : ℕ) → n < 10 → digits_by (suc k) n ≡ digit n ∷ []
unfolding digits_by
digits_digit k n h = rw (lt-ltb n 10 h, digits_by)

digits_more : (k n : ℕ) → 10 ≤ n → digits_by (suc k) n ≡ digits_by k (n / 10) ++ digit (n % 10) ∷ []
unfolding digits_by
digits_more k n h = rw (le-ltb n 10 h, digits_by)

-- more than enough places change nothing
digits_enough : (k j n : ℕ) → n < k → n < j → digits_by k n ≡ digits_by j n
digits_enough zero j n h i = absurd (omega arith)
digits_enough (suc k) zero n h i = absurd (omega arith)
digits_enough (suc k) (suc j) n h i = by_size (dec_lt n 10) (digits_enough k j (n / 10))
  where
    by_size : Dec (n < 10) → (n / 10 < k → n / 10 < j → digits_by k (n / 10) ≡ digits_by j (n / 10))
        → digits_by (suc k) n ≡ digits_by (suc j) n
    by_size (yes s) ih = digits_digit k n s ∙ sym (digits_digit j n s)
    by_size (no s) ih = rw (digits_more k n (omega arith), digits_more j n (omega arith), ih (omega arith) (omega arith))

pub numeral-digit : (n : ℕ) → n < 10 → numeral n ≡ digit n ∷ []
unfolding numeral
numeral-digit n h = digits_digit n n h

pub numeral_more : (n : ℕ) → 10 ≤ n → numeral n ≡ numeral (n / 10) ++ digit (n % 10) ∷ []
unfolding numeral
numeral_more n h = digits_more n n h ∙ rw (digits_enough n (suc (n / 10)) (n / 10) (omega arith) (omega arith))

pub length-numeral-digit : (n : ℕ) → n < 10 → length (numeral n) ≡ 1
length-numeral-digit n h = ap length (numeral-digit n h)

pub length-numeral_more : (n : ℕ) → 10 ≤ n → length (numeral n) ≡ length (numeral (n / 10)) + 1
length-numeral_more n h = ap length (numeral_more n h) ∙ length-append (numeral (n / 10)) (digit (n % 10) ∷ [])

-- what holds of one digit, and of a number where it holds of its tenth part, holds of every number
module _ (P : ℕ → List ℕ → Type 0) (one : (n : ℕ) → n < 10 → P n (digit n ∷ []))
    (more : (n : ℕ) → 10 ≤ n → P (n / 10) (numeral (n / 10)) → P n (numeral (n / 10) ++ digit (n % 10) ∷ [])) where
  induct_below : (k n : ℕ) → n < k → P n (numeral n)
  induct_below zero n h = absurd (omega arith)
  induct_below (suc k) n h = by_size (dec_lt n 10) (induct_below k (n / 10))
    where
      by_size : Dec (n < 10) → (n / 10 < k → P (n / 10) (numeral (n / 10))) → P n (numeral n)
      by_size (yes s) ih = rw (numeral-digit n s) (one n s)
      by_size (no s) ih = rw (numeral_more n (omega arith)) (more n (omega arith) (ih (omega arith)))

  pub numeral_induct : (n : ℕ) → P n (numeral n)
  numeral_induct n = induct_below (suc n) n (omega arith)

pub numeral-few : (k n : ℕ) → n < 10 ^ suc k → length (numeral n) ≤ suc k
numeral-few zero n h = rw (numeral-digit n h) (omega arith)
numeral-few (suc k) n h =
    by_size (dec_lt n 10) (numeral-few k (n / 10) ((div-lt_iff_lt-mul (lit< tt)).1 (rw (pow-suc 10 (suc k)) at h)))
  where
    by_size : Dec (n < 10) → length (numeral (n / 10)) ≤ suc k → length (numeral n) ≤ suc (suc k)
    by_size (yes s) ih = rw (length-numeral-digit n s) (omega arith)
    by_size (no s) ih = rw (length-numeral_more n (omega arith)) (omega arith)

value-append : (v : ℕ) (xs ys : List ℕ) → value_after v (xs ++ ys) ≡ value_after (value_after v xs) ys
unfolding value_after
value-append v [] ys = refl
value-append v (x ∷ xs) ys = value-append (v * 10 + (x - zero_digit)) xs ys

pub value-numeral : (n : ℕ) → value_after 0 (numeral n) ≡ n
unfolding value_after
value-numeral n = numeral_induct (λ m ds. value_after 0 ds ≡ m) (λ m h. omega arith) last n
  where
    last : (m : ℕ) → 10 ≤ m → value_after 0 (numeral (m / 10)) ≡ m / 10
        → value_after 0 (numeral (m / 10) ++ digit (m % 10) ∷ []) ≡ m
    last m h e = value-append 0 (numeral (m / 10)) (digit (m % 10) ∷ []) ∙ rw e (omega arith)

digit-digit : (d : ℕ) → d < 10 → is_digit (digit d) ≡ true
digit-digit d h = le_both zero_digit (digit d) (digit d) nine_digit (omega arith) (omega arith)

both_true : (t u : Bool) → (t && u) ≡ true → (t ≡ true) × (u ≡ true)
both_true true u e = (refl, e)
both_true false u e = absurd (false≢true e)

every_snoc : (bs : List ℕ) (b : ℕ) → every is_digit bs ≡ true → is_digit b ≡ true → every is_digit (bs ++ b ∷ []) ≡ true
unfolding every
every_snoc [] b e d = rw d
every_snoc (x ∷ bs) b e d =
    let h = both_true (is_digit x) (every is_digit bs) e in
    rw h.0 (every_snoc bs b h.1 d)

number_snoc : (bs : List ℕ) (b : ℕ) → is_number bs ≡ true → is_digit b ≡ true → is_number (bs ++ b ∷ []) ≡ true
unfolding is_number
number_snoc [] b e d = absurd (false≢true e)
number_snoc (x ∷ bs) b e d = every_snoc (x ∷ bs) b e d

pub number-numeral : (n : ℕ) → is_number (numeral n) ≡ true
unfolding is_number every
number-numeral n =
    numeral_induct
    (λ m ds. is_number ds ≡ true)
    (λ m h. rw (digit-digit m h))
    (λ m h e. number_snoc (numeral (m / 10)) (digit (m % 10)) e (digit-digit (m % 10) (omega arith)))
    n

pub decimal-numeral : (values n : ℕ) → n < values → decimal values (numeral n) ≡ Some n
unfolding decimal
decimal-numeral values n h = rw (number-numeral n, value-numeral n, lt-ltb n values h)
