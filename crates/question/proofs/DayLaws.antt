-- A day read from a text, piece by piece (specs/Day).
--   month_high, day_high      no month is above 12, and no day of one above 31 (month_days_most)
--   day_form_length           a text that has the form of a day is ten bytes long
-- Assumes nothing.
use Prim.Native.Nat.{ℕ, ◌<◌, ◌≤◌}
use Rattle.std.proofs.Common.{None}
use mathlib.Core.Path.{◌≡◌}
use mathlib.Core.Bool.{Bool, true, false, cond, ◌&&◌, ◌||◌, and-false, and-eq-true_iff}
use mathlib.Core.List.{List}
use native.Mathlib.Omega.{arith}
use borrow.Author.Tests.{lt-leb, eqb-true}
use lib.Dec.{leb, eqb}
use lib.ListN.{length, get_or}
use Rattle.calendar.specs.Calendar.{last_year, leap_year, month_days, is_date}
use Rattle.calendar.specs.Moment.{dash, date_bytes}
use Rattle.question.specs.Day.{day_form, date_of}

pub month_high : (y m d : ℕ) → 12 < m → None ≡ date_of y m d
unfolding date_of is_date
month_high y m d h = rw (lt-leb m 12 h, and-false (leb 1 y && leb y last_year && leb 1 m))

pub month_days_most : (y m : ℕ) → month_days y m ≤ 31
unfolding month_days
month_days_most y m = go (eqb m 2) (leap_year y) (eqb m 4 || eqb m 6 || eqb m 9 || eqb m 11)
  where
    go : (a b c : Bool) → cond a (cond b 29 28) (cond c 30 31) ≤ 31
    go true true c = omega arith
    go true false c = omega arith
    go false b true = omega arith
    go false b false = omega arith

pub day_high : (y m d : ℕ) → 31 < d → None ≡ date_of y m d
unfolding date_of is_date
day_high y m d h =
    rw (lt-leb d (month_days y m) (omega (arith, month_days_most y m)), and-false (leb 1 y && leb y last_year && leb 1 m && leb m 12 && leb 1 d))

pub day_form_length : (bs : List ℕ) → day_form bs ≡ true → length bs ≡ date_bytes
unfolding day_form
day_form_length bs f =
    let a = eqb (length bs) date_bytes in
    let b = eqb (get_or bs 4 0) dash in
    eqb-true (length bs) date_bytes ((and-eq-true_iff a b).0 ((and-eq-true_iff (a && b) (eqb (get_or bs 7 0) dash)).0 f).0).0
