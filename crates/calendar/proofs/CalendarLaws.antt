-- Laws of the calendar (specs/Calendar).
--   next_day_year           a day on, the year has grown by at most one
--   after_snoc         the day after so many days is the day after one more
--   after_year         in so many days, the year grows by at most as many
--   IsDate d, is_date_iff    what `is_date` tests, in plain words
--   next_date               the day after a date is a date, but for the end of the last year
--   two_digits_low, two_digits_high    two digits are a number's numeral, after a 0 where that is one digit
-- Assumes nothing.
use Prim.Native.Nat.{ℕ, zero, suc, ◌+◌, ◌/◌, ◌%◌, ◌<◌, ◌≤◌}
use mathlib.Core.Path.{◌≡◌, refl}
use mathlib.Core.Logic.{◌↔◌}
use mathlib.Core.Bool.{Bool, true, false, cond, ◌&&◌, ◌||◌, and-eq-true_iff}
use mathlib.Core.List.{◌∷◌}
use native.Mathlib.Nat.{suc-add}
use native.Mathlib.Omega.{arith}
use borrow.Author.Tests.{leb-true, le-leb, ltb-true}
use lib.Dec.{leb, ltb, eqb}
use Rattle.text.specs.Decimal.{zero_digit}
use Rattle.text.specs.Numeral.{numeral}
use Rattle.text.proofs.NumeralLaws.{numeral-digit, numeral_more}
use Rattle.calendar.specs.declared.Date.{Date}
use Rattle.calendar.specs.Calendar.{last_year, leap_year, month_days, is_date, next_day, date_after}
use Rattle.calendar.specs.Moment.{two_digits}

pub next_day_year : (d : Date) → (next_day d).year ≤ d.year + 1
unfolding next_day
next_day_year d = go (ltb d.day (month_days d.year d.month)) (ltb d.month 12)
  where
    go : (a b : Bool)
        → (cond {A = Date} a (record { year = d.year; month = d.month; day = d.day + 1 })
        (cond b (record { year = d.year; month = d.month + 1; day = 1 }) (record { year = d.year + 1; month = 1; day = 1 }))).year ≤ d.year + 1
    go true b = omega arith
    go false true = omega arith
    go false false = omega arith

pub after_snoc : (d : Date) (n : ℕ) → date_after d (n + 1) ≡ next_day (date_after d n)
unfolding date_after
after_snoc d zero = refl
after_snoc d (suc n) = rw (suc-add n 1) (after_snoc (next_day d) n)

pub after_year : (d : Date) (n : ℕ) → (date_after d n).year ≤ d.year + n
unfolding date_after
after_year d zero = omega arith
after_year d (suc n) = omega (arith, after_year (next_day d) n, next_day_year d)

pub record IsDate (d : Date) : Type 0 where
  pub year-low : 1 ≤ d.year
  pub year-high : d.year ≤ last_year
  pub month_low : 1 ≤ d.month
  pub month_high : d.month ≤ 12
  pub day_low : 1 ≤ d.day
  pub day_high : d.day ≤ month_days d.year d.month

pub is_date_iff : (d : Date) → (is_date d.year d.month d.day ≡ true) ↔ IsDate d
unfolding is_date
is_date_iff d =
    let a = leb 1 d.year in
    let b = leb d.year last_year in
    let m = leb 1 d.month in
    let n = leb d.month 12 in
    let x = leb 1 d.day in
    let y = leb d.day (month_days d.year d.month) in (
      (λ e.
          let five = (and-eq-true_iff (a && b && m && n && x) y).0 e in
          let four = (and-eq-true_iff (a && b && m && n) x).0 five.0 in
          let three = (and-eq-true_iff (a && b && m) n).0 four.0 in
          let two = (and-eq-true_iff (a && b) m).0 three.0 in
          let one = (and-eq-true_iff a b).0 two.0 in
          record {
            year-low = leb-true 1 d.year one.0;
            year-high = leb-true d.year last_year one.1;
            month_low = leb-true 1 d.month two.1;
            month_high = leb-true d.month 12 three.1;
            day_low = leb-true 1 d.day four.1;
            day_high = leb-true d.day (month_days d.year d.month) five.1;
          }),
      (λ h.
          rw (
            le-leb 1 d.year h.year-low,
            le-leb d.year last_year h.year-high,
            le-leb 1 d.month h.month_low,
            le-leb d.month 12 h.month_high,
            le-leb 1 d.day h.day_low,
          )
          (le-leb d.day (month_days d.year d.month) h.day_high)),
    )

month_days-some : (y m : ℕ) → 1 ≤ month_days y m
unfolding month_days
month_days-some y m = go (eqb m 2) (leap_year y) (eqb m 4 || eqb m 6 || eqb m 9 || eqb m 11)
  where
    go : (a b c : Bool) → 1 ≤ cond a (cond b 29 28) (cond c 30 31)
    go true true c = omega arith
    go true false c = omega arith
    go false b true = omega arith
    go false b false = omega arith

pub next_date : (d : Date) → IsDate d → d.year < last_year → IsDate (next_day d)
unfolding next_day
next_date d h early = go (ltb d.day (month_days d.year d.month)) refl (ltb d.month 12) refl
  where
    go : (a : Bool) → ltb d.day (month_days d.year d.month) ≡ a → (b : Bool) → ltb d.month 12 ≡ b
        → IsDate (cond a (record { year = d.year; month = d.month; day = d.day + 1 })
        (cond b (record { year = d.year; month = d.month + 1; day = 1 }) (record { year = d.year + 1; month = 1; day = 1 })))
    go true x b y =
        record {
          year-low = h.year-low;
          year-high = h.year-high;
          month_low = h.month_low;
          month_high = h.month_high;
          day_low = omega arith;
          day_high = omega (arith, ltb-true d.day (month_days d.year d.month) x);
        }
    go false x true y =
        record {
          year-low = h.year-low;
          year-high = h.year-high;
          month_low = omega arith;
          month_high = omega (arith, ltb-true d.month 12 y);
          day_low = omega arith;
          day_high = month_days-some d.year (d.month + 1);
        }
    go false x false y =
        record {
          year-low = omega arith;
          year-high = omega arith;
          month_low = omega arith;
          month_high = omega arith;
          day_low = omega arith;
          day_high = month_days-some (d.year + 1) 1;
        }

pub two_digits_low : (n : ℕ) → n < 10 → two_digits n ≡ zero_digit ∷ numeral n
two_digits_low n h =
    let none : n / 10 % 10 ≡ 0 = omega arith in
    let last : n % 10 ≡ n = omega arith in
    rw (none, last, numeral-digit n h)

pub two_digits_high : (n : ℕ) → 10 ≤ n → n < 100 → two_digits n ≡ numeral n
two_digits_high n h i =
    let tens : n / 10 % 10 ≡ n / 10 = omega arith in
    rw (tens, numeral_more n h, numeral-digit (n / 10) (omega arith))
