-- A day and time as they are typed, `YYYY-MM-DD HH:MM`, and their quarter, counted from a base day.
--   moment_form bs              sixteen bytes, with a blank after the day and a colon after the hour
--   same_date a b               the two are one day
--   days_from left n base day   the first of `left` numbers, from n on, that is how many days the day comes after the base day; else the number after them
--   days_since base day         the days from the base day to the day; `days_limit`, more than the quarters reach, where it comes later or before
--   TimeInReach n h m          a time from 00:00 to 23:59, at most `days_limit` days after the base day
--   minutes_added r             what is added to the minutes before they are counted in quarter-hours: nothing to round down, 14 to round up
--   quarter_at r n h m          the quarter of a time n days after the base day; None where it is above `last_quarter`
--   time_of r base day h m      the quarter of a day and a time from 00:00 to 23:59
--   quarter_of r base bs        the quarter of the day and time that are the whole text: rounded down, the one that they lie in; rounded up, the
--                              first that begins at them or later; None for any other text, a day before the base day, a quarter above 65535,
--                              and where the base day is no day
-- Assumes nothing: these are definitions.
use Rattle.std.specs.Prelude.{ℕ, zero, suc, ◌+◌, ◌*◌, ◌/◌, ◌≤◌, Bool, cond, ◌&&◌, List, eqb, leb, length, get_or, Option, None, Some}
use Rattle.text.specs.Ascii.{blank}
use Rattle.calendar.specs.declared.Date.{Date}
use Rattle.calendar.specs.Calendar.{is_date, date_after}
use Rattle.calendar.specs.Moment.{colon, moment_bytes}
use Rattle.question.specs.declared.Rounding.{Rounding}
use Rattle.question.specs.declared.Rounding.TheVariants as rounding
use Rattle.question.specs.Number.{typed_number}
use Rattle.question.specs.Day.{part, day_in}

unfoldable pub moment_form : List ℕ → Bool
moment_form bs = eqb (length bs) moment_bytes && eqb (get_or bs 10 0) blank && eqb (get_or bs 13 0) colon

unfoldable pub same_date : Date → Date → Bool
same_date a b = eqb a.year b.year && eqb a.month b.month && eqb a.day b.day

unfoldable pub days_from : ℕ → ℕ → Date → Date → ℕ
days_from zero n base day = n
days_from (suc left) n base day = cond (same_date (date_after base n) day) n (days_from left (n + 1) base day)

abbrev pub days_limit : ℕ
days_limit = 683

abbrev pub days_since : Date → Date → ℕ
days_since base day = days_from days_limit 0 base day

pub record TimeInReach (n hour minute : ℕ) : Type 0 where
  pub near : n ≤ days_limit
  pub hour_of_day : hour ≤ 23
  pub minute_of_hour : minute ≤ 59

abbrev pub last_quarter : ℕ
last_quarter = 65535

abbrev pub minutes_added : Rounding → ℕ
minutes_added rounding.Down = 0
minutes_added rounding.Up = 14

unfoldable pub quarter_at : Rounding → ℕ → ℕ → ℕ → Option ℕ
quarter_at r n hour minute =
    let q = 96 * n + 4 * hour + (minute + minutes_added r) / 15 in
    cond (leb q last_quarter) (Some q) None

unfoldable pub time_of : Rounding → Date → Date → ℕ → ℕ → Option ℕ
time_of r base day hour minute = cond (leb hour 23 && leb minute 59) (quarter_at r (days_since base day) hour minute) None

-- the quarter of the day, the hour and the minute, where all are there
abbrev pub quarter_by : Rounding → Date → Option Date → Option ℕ → Option ℕ → Option ℕ
quarter_by r base None h m = None
quarter_by r base (Some d) None m = None
quarter_by r base (Some d) (Some h) None = None
quarter_by r base (Some d) (Some h) (Some m) = time_of r base d h m

unfoldable pub quarter_of : Rounding → Date → List ℕ → Option ℕ
quarter_of r base bs =
    cond (is_date base.year base.month base.day && moment_form bs)
    (quarter_by r base (day_in (part 0 10 bs)) (typed_number (part 11 2 bs)) (typed_number (part 14 2 bs))) None
