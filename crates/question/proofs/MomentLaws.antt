-- What a quarter that was read says of the text (specs/Quarter): the day, the hour and the quarter-hour of the calendar are those in the text.
--   MomentRead r base q bs   the text holds a day so many days after the base day, an hour and a minute, and q is their quarter, rounded
--   IsMoment base q bs       the text holds the quarter's day and hour, and a minute of its quarter-hour
--   same_date-equal           days that are the same are equal
--   days_since-found          so many days after the base day comes the day, if that is within reach
--   quarter-read-from        where a text has a quarter, rounded down or up, it was read from a day and time in the text
--   quarter_moment           where a text has a quarter, rounded down, it holds that quarter's moment
-- Assumes nothing.
use Prim.Native.Nat.{ℕ, zero, suc, ◌+◌, ◌*◌, ◌/◌, ◌<◌, ◌≤◌}
use Rattle.std.proofs.Common.{Option, None, Some}
use mathlib.Core.Path.{◌≡◌, refl, sym}
use mathlib.Core.Bool.{Bool, true, false, cond, ◌&&◌, and-eq-true_iff}
use mathlib.Core.List.{List}
use native.Mathlib.Omega.{arith}
use borrow.Author.Tests.{leb-true, eqb-true}
use lib.Dec.{leb, eqb}
use Rattle.calendar.specs.declared.Date.{Date}
use Rattle.calendar.specs.Calendar.{is_date, date_after, day_of, hour_of, minute_of}
use Rattle.question.specs.declared.Rounding.{Rounding}
use Rattle.question.specs.declared.Rounding.TheVariants as rounding
use Rattle.question.specs.Number.{typed_number}
use Rattle.question.specs.Day.{part, day_in}
use Rattle.question.specs.Quarter.{moment_form, same_date, days_from, days_since, days_limit, last_quarter, minutes_added, quarter_at, time_of}
use Rattle.question.specs.Quarter.{quarter_by, quarter_of}

pub record MomentRead (r : Rounding) (base : Date) (q : ℕ) (bs : List ℕ) : Type 0 where
  pub days : ℕ
  pub hour : ℕ
  pub minute : ℕ
  pub has-form : moment_form bs ≡ true
  pub is_day : day_in (part 0 10 bs) ≡ Some (date_after base days)
  pub is_hour : typed_number (part 11 2 bs) ≡ Some hour
  pub is_minute : typed_number (part 14 2 bs) ≡ Some minute
  pub in_day : hour ≤ 23
  pub in_hour : minute ≤ 59
  pub rounded : q ≡ 96 * days + 4 * hour + (minute + minutes_added r) / 15

pub record IsMoment (base : Date) (q : ℕ) (bs : List ℕ) : Type 0 where
  pub minute : ℕ
  pub has-form : moment_form bs ≡ true
  pub is_day : day_in (part 0 10 bs) ≡ Some (date_after base (day_of q))
  pub is_hour : typed_number (part 11 2 bs) ≡ Some (hour_of q)
  pub is_minute : typed_number (part 14 2 bs) ≡ Some minute
  pub in_hour : minute ≤ 59
  pub rounded_down : minute_of q ≡ minute / 15 * 15

abbrev on : ℕ → ℕ → ℕ → Date
on y m d = record { year = y; month = m; day = d }

on_equal : {y z m n d e : ℕ} → y ≡ z → m ≡ n → d ≡ e → on y m d ≡ on z n e
on_equal p q r = cc

pub same_date-equal : (a b : Date) → same_date a b ≡ true → a ≡ b
unfolding same_date
same_date-equal a b e =
    let y = eqb a.year b.year in
    let m = eqb a.month b.month in
    let d = eqb a.day b.day in
    let two = (and-eq-true_iff (y && m) d).0 e in
    let one = (and-eq-true_iff y m).0 two.0 in
    on_equal (eqb-true a.year b.year one.0) (eqb-true a.month b.month one.1) (eqb-true a.day b.day two.1)

found : (left n k : ℕ) (base to : Date) → days_from left n base to ≡ k → k < n + left → date_after base k ≡ to
unfolding days_from
found zero n k base to e h = absurd (omega arith)
found (suc left) n k base to e h = by_test (same_date (date_after base n) to) refl e (λ p. found left (n + 1) k base to p (omega arith))
  where
    by_test : (t : Bool) → same_date (date_after base n) to ≡ t → cond t n (days_from left (n + 1) base to) ≡ k
        → (days_from left (n + 1) base to ≡ k → date_after base k ≡ to) → date_after base k ≡ to
    by_test true s p rest = rw p at (same_date-equal (date_after base n) to s)
    by_test false s p rest = rest p

pub days_since-found : (base to : Date) (n : ℕ) → days_since base to ≡ n → n < days_limit → date_after base n ≡ to
days_since-found base to n e h = found days_limit 0 n base to e (omega arith)

no_quarter : {q : ℕ} → None ≡ Some q → ⊥
no_quarter e = let z : ◌≡◌ {A = ℕ} 0 1 = cc in omega arith

abbrev rounded : Rounding → ℕ → ℕ → ℕ → ℕ
rounded r n h m = 96 * n + 4 * h + (m + minutes_added r) / 15

quarter_at-value : (r : Rounding) (n h m q : ℕ) → quarter_at r n h m ≡ Some q → (q ≡ rounded r n h m) × (q ≤ last_quarter)
unfolding quarter_at
quarter_at-value r n h m q e = by_test (leb (rounded r n h m) last_quarter) refl e
  where
    by_test : (t : Bool) → leb (rounded r n h m) last_quarter ≡ t → cond t (Some (rounded r n h m)) None ≡ Some q
        → (q ≡ rounded r n h m) × (q ≤ last_quarter)
    by_test true s p = let v : rounded r n h m ≡ q = cc in (sym v, omega (arith, leb-true (rounded r n h m) last_quarter s))
    by_test false s p = absurd (no_quarter p)

-- what a time's quarter says
record Timed (r : Rounding) (base to : Date) (h m q : ℕ) : Type 0 where
  on_day : date_after base (days_since base to) ≡ to
  in_day : h ≤ 23
  in_hour : m ≤ 59
  is_rounded : q ≡ rounded r (days_since base to) h m

timed : (r : Rounding) (base to : Date) (h m q : ℕ) → time_of r base to h m ≡ Some q → Timed r base to h m q
unfolding time_of
timed r base to h m q e = by_test (leb h 23 && leb m 59) refl e
  where
    by_test : (t : Bool) → (leb h 23 && leb m 59) ≡ t → cond t (quarter_at r (days_since base to) h m) None ≡ Some q → Timed r base to h m q
    by_test false s p = absurd (no_quarter p)
    by_test true s p =
        let both = (and-eq-true_iff (leb h 23) (leb m 59)).0 s in
        let v = quarter_at-value r (days_since base to) h m q p in
        record {
          on_day = days_since-found base to (days_since base to) refl (omega (arith, v.0, v.1));
          in_day = leb-true h 23 both.0;
          in_hour = leb-true m 59 both.1;
          is_rounded = v.0;
        }

pub quarter-read-from : (r : Rounding) (base : Date) (bs : List ℕ) (q : ℕ) → quarter_of r base bs ≡ Some q → MomentRead r base q bs
unfolding quarter_of
quarter-read-from r base bs q e =
    go (is_date base.year base.month base.day && moment_form bs) refl (day_in (part 0 10 bs)) refl (typed_number (part 11 2 bs)) refl
    (typed_number (part 14 2 bs)) refl e
  where
    go : (t : Bool) → (is_date base.year base.month base.day && moment_form bs) ≡ t → (o : Option Date) → day_in (part 0 10 bs) ≡ o
        → (h : Option ℕ) → typed_number (part 11 2 bs) ≡ h → (m : Option ℕ) → typed_number (part 14 2 bs) ≡ m
        → cond t (quarter_by r base o h m) None ≡ Some q → MomentRead r base q bs
    go false s o x h y m z p = absurd (no_quarter p)
    go true s None x h y m z p = absurd (no_quarter p)
    go true s (Some d) x None y m z p = absurd (no_quarter p)
    go true s (Some d) x (Some h) y None z p = absurd (no_quarter p)
    go true s (Some d) x (Some h) y (Some m) z p =
        let t = timed r base d h m q p in
        record {
          days = days_since base d;
          hour = h;
          minute = m;
          has-form = ((and-eq-true_iff (is_date base.year base.month base.day) (moment_form bs)).0 s).1;
          is_day = rw t.on_day x;
          is_hour = y;
          is_minute = z;
          in_day = t.in_day;
          in_hour = t.in_hour;
          rounded = t.is_rounded;
        }

-- the parts of a quarter's number
module _ (n h m q : ℕ) (e : q ≡ 96 * n + 4 * h + m / 15) (hour : h ≤ 23) (minute : m ≤ 59) where
  is_days : day_of q ≡ n
  is_days = omega arith

  is_hours : hour_of q ≡ h
  is_hours = omega arith

  is_minutes : minute_of q ≡ m / 15 * 15
  is_minutes = omega arith

pub quarter_moment : (base : Date) (bs : List ℕ) (q : ℕ) → quarter_of rounding.Down base bs ≡ Some q → IsMoment base q bs
quarter_moment base bs q e =
    let t = quarter-read-from rounding.Down base bs q e in
    let n = t.days in
    let h = t.hour in
    let m = t.minute in
    let v : q ≡ 96 * n + 4 * h + m / 15 = omega (arith, t.rounded) in
    record {
      minute = m;
      has-form = t.has-form;
      is_day = rw (is_days n h m q v t.in_day t.in_hour) t.is_day;
      is_hour = rw (is_hours n h m q v t.in_day t.in_hour) t.is_hour;
      is_minute = t.is_minute;
      in_hour = t.in_hour;
      rounded_down = is_minutes n h m q v t.in_day t.in_hour;
    }
