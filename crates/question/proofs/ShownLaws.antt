-- What a panel shows of a quarter is read as that quarter (specs/Quarter; calendar's specs/Moment).
--   number_two, number_four   two digits, and four, are read as their number
--   day_shown                 a day's own text is read as the day
--   after_date, after_later   the days after a date are dates, and each is later than those before
--   days_since-after           so many days after the base day is so many days since it
--   quarter-shown             the text of a quarter is read as the quarter, rounded down or up, from a base day of the years 1 to 9316
-- Assumes nothing.
use Prim.Native.Nat.{ℕ, zero, suc, ◌+◌, ◌-◌, ◌*◌, ◌/◌, ◌%◌, ◌<◌, ◌≤◌}
use Rattle.std.proofs.Common.{Some}
use mathlib.Core.Path.{◌≡◌, refl, sym, ap, ◌∙◌}
use mathlib.Core.Bool.{Bool, true, false, cond}
use mathlib.Core.List.{◌++◌}
use native.Mathlib.Nat.{zero-add}
use native.Mathlib.Decide.{dec_lt}
use native.Mathlib.Omega.{arith}
use borrow.Author.Tests.{le-leb, lt-ltb, eq-eqb}
use lib.Dec.{ltb}
use Rattle.lists.specs.Tests.{every}
use Rattle.model.specs.Values.{word_values}
use Rattle.text.specs.Decimal.{zero_digit, nine_digit, is_number, value_after, decimal}
use Rattle.calendar.specs.declared.Date.{Date}
use Rattle.calendar.specs.Calendar.{last_year, month_days, next_day, date_after, day_of, hour_of, minute_of}
use Rattle.calendar.specs.Moment.{two_digits, date_text, moment_text}
use Rattle.calendar.proofs.CalendarLaws.{IsDate, is_date_iff, next_date, next_day_year, after_year}
use Rattle.question.specs.declared.Rounding.{Rounding}
use Rattle.question.specs.declared.Rounding.TheVariants as rounding
use Rattle.question.specs.Number.{typed_number}
use Rattle.question.specs.Day.{day_form, date_of, day_in}
use Rattle.question.specs.Quarter.{moment_form, same_date, days_from, days_since, days_limit, last_quarter, minutes_added, quarter_at, time_of, quarter_of}
use Rattle.question.proofs.DayLaws.{month_days_most}
use Rattle.question.proofs.MomentLaws.{same_date-equal}

low : (d : ℕ) → zero_digit ≤ zero_digit + d
low d = omega arith

high : (d : ℕ) → d < 10 → zero_digit + d ≤ nine_digit
high d h = omega arith

pub number_two : (n : ℕ) → n < 100 → typed_number (two_digits n) ≡ Some n
unfolding typed_number decimal is_number every value_after
number_two n h =
    let a = n / 10 % 10 in
    let b = n % 10 in
    let v : (0 * 10 + (zero_digit + a - zero_digit)) * 10 + (zero_digit + b - zero_digit) ≡ n = omega arith in
    rw (
      le-leb zero_digit (zero_digit + a) (low a),
      le-leb (zero_digit + a) nine_digit (high a (omega arith)),
      le-leb zero_digit (zero_digit + b) (low b),
      le-leb (zero_digit + b) nine_digit (high b (omega arith)),
      v,
      lt-ltb n word_values (omega arith),
    )

four_value : (a b x y hundreds rest n : ℕ) → hundreds ≡ a * 10 + b → rest ≡ x * 10 + y → n ≡ hundreds * 100 + rest
    → (((0 * 10 + (zero_digit + a - zero_digit)) * 10 + (zero_digit + b - zero_digit)) * 10 + (zero_digit + x - zero_digit)) * 10 + (zero_digit + y - zero_digit) ≡ n
four_value a b x y hundreds rest n p q r = omega arith

pub number_four : (n : ℕ) → n < 10000 → typed_number (two_digits (n / 100) ++ two_digits (n % 100)) ≡ Some n
unfolding typed_number decimal is_number every value_after
number_four n h =
    let a = n / 100 / 10 % 10 in
    let b = n / 100 % 10 in
    let x = n % 100 / 10 % 10 in
    let y = n % 100 % 10 in
    let v = four_value a b x y (n / 100) (n % 100) n (omega arith) (omega arith) (omega arith) in
    rw (
      le-leb zero_digit (zero_digit + a) (low a),
      le-leb (zero_digit + a) nine_digit (high a (omega arith)),
      le-leb zero_digit (zero_digit + b) (low b),
      le-leb (zero_digit + b) nine_digit (high b (omega arith)),
      le-leb zero_digit (zero_digit + x) (low x),
      le-leb (zero_digit + x) nine_digit (high x (omega arith)),
      le-leb zero_digit (zero_digit + y) (low y),
      le-leb (zero_digit + y) nine_digit (high y (omega arith)),
      v,
      lt-ltb n word_values (omega arith),
    )

day_most : (d : Date) → IsDate d → d.day ≤ 31
day_most d h = omega (arith, h.day_high, month_days_most d.year d.month)

pub day_shown : (d : Date) → IsDate d → day_in (date_text d) ≡ Some d
unfolding day_in day_form date_of
day_shown d h =
    rw (
      number_four d.year (omega (arith, h.year-high)),
      number_two d.month (omega (arith, h.month_high)),
      number_two d.day (omega (arith, day_most d h)),
      (is_date_iff d).1 h,
    )

pub after_date : (n : ℕ) (d : Date) → IsDate d → d.year + n ≤ last_year → IsDate (date_after d n)
unfolding date_after
after_date zero d h fits = h
after_date (suc n) d h fits = after_date n (next_day d) (next_date d h (omega arith)) (omega (arith, next_day_year d))

-- a number that is higher for a later day
abbrev later : Date → ℕ
later d = (d.year * 12 + d.month) * 32 + d.day

next_later : (d : Date) → IsDate d → later d < later (next_day d)
unfolding next_day
next_later d h = go (ltb d.day (month_days d.year d.month)) (ltb d.month 12)
  where
    go : (a b : Bool)
        → later d < later (cond {A = Date} a (record { year = d.year; month = d.month; day = d.day + 1 })
        (cond b (record { year = d.year; month = d.month + 1; day = 1 }) (record { year = d.year + 1; month = 1; day = 1 })))
    go true b = omega arith
    go false true = omega (arith, day_most d h)
    go false false = omega (arith, day_most d h, h.month_high)

pub after_later : (n : ℕ) (d : Date) → IsDate d → d.year + n ≤ last_year → later d + n ≤ later (date_after d n)
unfolding date_after
after_later zero d h fits = omega arith
after_later (suc n) d h fits =
    omega (arith, next_later d h, after_later n (next_day d) (next_date d h (omega arith)) (omega (arith, next_day_year d)))

after_add : (n k : ℕ) (d : Date) → date_after d (n + k) ≡ date_after (date_after d n) k
unfolding date_after
after_add zero k d = rw (zero-add k)
after_add (suc n) k d = let e : suc n + k ≡ suc (n + k) = omega arith in rw e (after_add n k (next_day d))

same_self : (d : Date) → same_date d d ≡ true
unfolding same_date
same_self d = rw (eq-eqb d.year d.year refl, eq-eqb d.month d.month refl, eq-eqb d.day d.day refl)

true_false : true ≡ false → ⊥
true_false e = let z : ◌≡◌ {A = ℕ} 0 1 = cc in omega arith

module _ (base : Date) (h : IsDate base) (n : ℕ) (fits : base.year + n ≤ last_year) where
  distinct : (i : ℕ) → i < n → date_after base i ≡ date_after base n → ⊥
  distinct i less e =
      let k : n ≡ i + (n - i) = omega arith in
      let there = ap (date_after base) k ∙ after_add i (n - i) base in
      let year = after_year base i in
      let grown = after_later (n - i) (date_after base i) (after_date i base h (omega arith)) (omega (arith, year)) in
      omega (arith, ap later (e ∙ there), grown)

  same_place : (i : ℕ) → i ≤ n → date_after base i ≡ date_after base n → Dec (i < n) → i ≡ n
  same_place i room e (yes less) = absurd (distinct i less e)
  same_place i room e (no least) = omega arith

  other_place : (i : ℕ) → i ≤ n → same_date (date_after base i) (date_after base n) ≡ false → Dec (i < n) → i < n
  other_place i room s (yes less) = less
  other_place i room s (no least) =
      let e : i ≡ n = omega arith in
      absurd (true_false (sym (same_self (date_after base n)) ∙ (rw e at s)))

  days_after : (left i : ℕ) → i ≤ n → n < i + left → days_from left i base (date_after base n) ≡ n
  unfolding days_from
  days_after zero i room reach = absurd (omega arith)
  days_after (suc left) i room reach =
      by_test (same_date (date_after base i) (date_after base n)) refl (λ less. days_after left (i + 1) (omega arith) (omega arith))
    where
      by_test : (t : Bool) → same_date (date_after base i) (date_after base n) ≡ t → (i < n → days_from left (i + 1) base (date_after base n) ≡ n)
          → cond t i (days_from left (i + 1) base (date_after base n)) ≡ n
      by_test true s rest = same_place i room (same_date-equal (date_after base i) (date_after base n) s) (dec_lt i n)
      by_test false s rest = rest (other_place i room s (dec_lt i n))

pub days_since-after : (base : Date) (n : ℕ) → IsDate base → base.year + n ≤ last_year → n < days_limit → days_since base (date_after base n) ≡ n
days_since-after base n h fits reach = days_after base h n fits days_limit 0 (omega arith) (omega arith)

-- a quarter begins at a whole quarter-hour, so that rounding leaves it
begins-whole : (r : Rounding) (q : ℕ) → 96 * day_of q + 4 * hour_of q + (minute_of q + minutes_added r) / 15 ≡ q
begins-whole rounding.Down q = omega arith
begins-whole rounding.Up q = omega arith

pub quarter-shown : (r : Rounding) (base : Date) (q : ℕ) → IsDate base → base.year + days_limit ≤ last_year → q ≤ last_quarter
    → quarter_of r base (moment_text base q) ≡ Some q
unfolding quarter_of moment_form time_of quarter_at
quarter-shown r base q h fits last =
    let n = day_of q in
    rw (
      (is_date_iff base).1 h,
      day_shown (date_after base n) (after_date n base h (omega arith)),
      number_two (hour_of q) (omega arith),
      number_two (minute_of q) (omega arith),
      le-leb (hour_of q) 23 (omega arith),
      le-leb (minute_of q) 59 (omega arith),
      days_since-after base n h (omega arith) (omega arith),
      begins-whole r q,
      le-leb q last_quarter last,
    )
