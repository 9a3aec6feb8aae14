-- Days and times computed.
--   leap_cases        the end of February, in years that divide by 4, by 100 and by 400; the end of a year
--   date_cases        what is a date, and what isn't
--   span_cases        the last day that a quarter reaches, from two base days
--   moment_cases      the text of a quarter: the first and the last of a day, the next day's first, the last of all and its end
-- Assumes nothing.
use Prim.Native.Nat.{ℕ}
use Prim.Native.String.{String}
use mathlib.Core.Path.{◌≡◌, refl}
use mathlib.Core.Bool.{true, false}
use Rattle.text.specs.Ascii.{ascii}
use Rattle.calendar.specs.declared.Date.{Date}
use Rattle.calendar.specs.Calendar.{leap_year, month_days, is_date, next_day, date_after, day_of}
use Rattle.calendar.specs.Moment.{moment_text}

abbrev on : ℕ → ℕ → ℕ → Date
on y m d = record { year = y; month = m; day = d }

pub leap_cases : (next_day (on 2028 2 28) ≡ on 2028 2 29)
    × (next_day (on 2028 2 29) ≡ on 2028 3 1)
    × (next_day (on 2026 2 28) ≡ on 2026 3 1)
    × (next_day (on 2026 12 31) ≡ on 2027 1 1)
    × (next_day (on 2100 2 28) ≡ on 2100 3 1)
    × (next_day (on 2000 2 28) ≡ on 2000 2 29)
    × (next_day (on 2026 4 30) ≡ on 2026 5 1)
unfolding next_day month_days leap_year
leap_cases = (refl, refl, refl, refl, refl, refl, refl)

pub date_cases : (is_date 2028 2 29 ≡ true)
    × (is_date 2026 2 29 ≡ false)
    × (is_date 2026 4 31 ≡ false)
    × (is_date 2026 0 1 ≡ false)
    × (is_date 2026 13 1 ≡ false)
    × (is_date 2026 1 0 ≡ false)
    × (is_date 0 1 1 ≡ false)
    × (is_date 10000 1 1 ≡ false)
    × (is_date 9999 12 31 ≡ true)
unfolding is_date month_days leap_year
date_cases = (refl, refl, refl, refl, refl, refl, refl, refl, refl)

pub span_cases : (day_of 65535 ≡ 682) × (date_after (on 2026 1 1) 682 ≡ on 2027 11 14) × (date_after (on 2027 3 1) 682 ≡ on 2029 1 11)
unfolding date_after next_day month_days leap_year
span_cases = (refl, refl, refl)

abbrev Reads : Date → ℕ → String → Type 0
Reads base q t = moment_text base q ≡ ascii t

pub moment_cases : Reads (on 2026 1 1) 0 "2026-01-01 00:00"
    × Reads (on 2026 1 1) 95 "2026-01-01 23:45"
    × Reads (on 2026 1 1) 96 "2026-01-02 00:00"
    × Reads (on 2026 12 31) 137 "2027-01-01 10:15"
    × Reads (on 2026 1 1) 65535 "2027-11-14 15:45"
    × Reads (on 2026 1 1) 65536 "2027-11-14 16:00"
    × Reads (on 987 6 5) 1 "0987-06-05 00:15"
unfolding date_after next_day month_days leap_year
moment_cases = (refl, refl, refl, refl, refl, refl, refl)
