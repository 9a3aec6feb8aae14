-- The quarter of a day and time that are read from a text, step by step (specs/Quarter).
--   days_found, days_on, days_none    the days since the base day, as a loop counts them up
--   moment_form_length                a text that has the form of a day and time is sixteen bytes long
-- Assumes nothing.
use Prim.Native.Nat.{ℕ, suc, ◌+◌, ◌-◌, ◌<◌, ◌≤◌}
use mathlib.Core.Path.{◌≡◌}
use mathlib.Core.Bool.{true, false, ◌&&◌, and-eq-true_iff, and_assoc}
use mathlib.Core.List.{List}
use native.Mathlib.Omega.{arith}
use borrow.Author.Tests.{eqb-true}
use lib.Dec.{eqb}
use lib.ListN.{length, get_or}
use Rattle.text.specs.Ascii.{blank}
use Rattle.calendar.specs.declared.Date.{Date}
use Rattle.calendar.specs.Calendar.{last_year, is_date, date_after}
use Rattle.calendar.proofs.CalendarLaws.{is_date_iff}
use Rattle.calendar.specs.Moment.{colon, moment_bytes}
use Rattle.question.specs.Quarter.{moment_form, same_date, days_from}

module _ (base to : Date) (limit n : ℕ) (more : n < limit) where
  pub days_found : {date : Date} → date ≡ date_after base n → same_date date to ≡ true → n ≡ days_from (limit - n) n base to
  unfolding days_from
  days_found e s = let left : limit - n ≡ suc (limit - (n + 1)) = omega arith in rw (left, ← e, s)

  pub days_on : {date : Date} → date ≡ date_after base n → same_date date to ≡ false
      → days_from (limit - (n + 1)) (n + 1) base to ≡ days_from (limit - n) n base to
  unfolding days_from
  days_on e s = let left : limit - n ≡ suc (limit - (n + 1)) = omega arith in rw (left, ← e, s)

pub days_none : (base to : Date) (limit n : ℕ) → limit ≤ n → n ≡ days_from (limit - n) n base to
unfolding days_from
days_none base to limit n h = let left : limit - n ≡ 0 = omega arith in rw left

pub moment_form_length : (bs : List ℕ) → moment_form bs ≡ true → length bs ≡ moment_bytes
unfolding moment_form
moment_form_length bs f =
    let a = eqb (length bs) moment_bytes in
    let b = eqb (get_or bs 10 0) blank in
    eqb-true (length bs) moment_bytes ((and-eq-true_iff a b).0 ((and-eq-true_iff (a && b) (eqb (get_or bs 13 0) colon)).0 f).0).0

pub date_year : (d : Date) → is_date d.year d.month d.day ≡ true → d.year ≤ last_year
date_year d e = ((is_date_iff d).0 e).year-high

-- the test of two dates, as the code makes it
pub same_date_tests : (a b : Date) → same_date a b ≡ (eqb a.year b.year && (eqb a.month b.month && eqb a.day b.day))
unfolding same_date
same_date_tests a b = and_assoc (eqb a.year b.year) (eqb a.month b.month) (eqb a.day b.day)
