-- Days of the Gregorian calendar, and the day and time of a quarter (document 01, "The plain book": a quarter is a quarter-hour counted from the
-- operator's base day).
--   leap_year y            every fourth year, but of the hundredth ones every fourth
--   month_days y m         the days of a month
--   is_date y m d          a day of the years 1 to last_year: a base day that may be typed in
--   is_base d              a day that quarters can be counted from: the last of them ends in a year up to last_year
--   next_day d             the day after
--   date_after d n         the day n days after
--   day_of q, minutes_of q  the days since the base day, and the minutes since midnight
--   hour_of q, minute_of q  those minutes as a time
-- Assumes nothing: these are definitions.
use Rattle.std.specs.Prelude.{ℕ, zero, suc, ◌+◌, ◌*◌, ◌/◌, ◌%◌, Bool, cond, not, ◌&&◌, ◌||◌, leb, ltb, eqb}
use Rattle.model.specs.Values.{word_values}
use Rattle.calendar.specs.declared.Date.{Date}

abbrev pub last_year : ℕ
last_year = 9999

unfoldable pub leap_year : ℕ → Bool
leap_year y = eqb (y % 4) 0 && (not (eqb (y % 100) 0) || eqb (y % 400) 0)

unfoldable pub month_days : ℕ → ℕ → ℕ
month_days y m =
    cond (eqb m 2) (cond (leap_year y) 29 28)
    (cond (eqb m 4 || eqb m 6 || eqb m 9 || eqb m 11) 30 31)

unfoldable pub is_date : ℕ → ℕ → ℕ → Bool
is_date y m d = leb 1 y && leb y last_year && leb 1 m && leb m 12 && leb 1 d && leb d (month_days y m)

unfoldable pub next_day : Date → Date
next_day d =
    cond (ltb d.day (month_days d.year d.month)) (record { year = d.year; month = d.month; day = d.day + 1 })
    (cond (ltb d.month 12) (record { year = d.year; month = d.month + 1; day = 1 }) (record { year = d.year + 1; month = 1; day = 1 }))

unfoldable pub date_after : Date → ℕ → Date
date_after d zero = d
date_after d (suc n) = date_after (next_day d) n

abbrev pub day_of : ℕ → ℕ
day_of q = q / 96

abbrev pub minutes_of : ℕ → ℕ
minutes_of q = q % 96 * 15

abbrev pub hour_of : ℕ → ℕ
hour_of q = minutes_of q / 60

abbrev pub minute_of : ℕ → ℕ
minute_of q = minutes_of q % 60

unfoldable pub is_base : Date → Bool
is_base d = leb d.year last_year && leb (date_after d (day_of word_values)).year last_year
