-- A day as it is typed: `YYYY-MM-DD`, ten bytes, a day of the years 1 to 9999.
--   part from count bs   so many bytes of a text, from a place on
--   day_form bs           ten bytes, with a dash after the year and after the month
--   date_of y m d         the day of three numbers; None where there is no such day
--   day_in bs             the day that is the whole text; None for any other text
-- Assumes nothing: these are definitions.
use Rattle.std.specs.Prelude.{ℕ, Bool, cond, ◌&&◌, List, eqb, length, get_or, take, drop, Option, None, Some}
use Rattle.calendar.specs.declared.Date.{Date}
use Rattle.calendar.specs.Calendar.{is_date}
use Rattle.calendar.specs.Moment.{dash, date_bytes}
use Rattle.question.specs.Number.{typed_number}

abbrev pub part : ℕ → ℕ → List ℕ → List ℕ
part from count bs = take count (drop from bs)

unfoldable pub day_form : List ℕ → Bool
day_form bs = eqb (length bs) date_bytes && eqb (get_or bs 4 0) dash && eqb (get_or bs 7 0) dash

unfoldable pub date_of : ℕ → ℕ → ℕ → Option Date
date_of y m d = cond (is_date y m d) (Some (record { year = y; month = m; day = d })) None

-- the day of the three numbers, where all are there
abbrev pub day_by : Option ℕ → Option ℕ → Option ℕ → Option Date
day_by None m d = None
day_by (Some y) None d = None
day_by (Some y) (Some m) None = None
day_by (Some y) (Some m) (Some d) = date_of y m d

unfoldable pub day_in : List ℕ → Option Date
day_in bs = cond (day_form bs) (day_by (typed_number (part 0 4 bs)) (typed_number (part 5 2 bs)) (typed_number (part 8 2 bs))) None
