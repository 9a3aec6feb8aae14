-- Numbers, days and lines, computed.
--   number_cases       leading zeros, the highest value, one more, a sign, blanks, nothing
--   day_cases          a day, one that no month has, a month and a day out of their places, a year 0
--   quarter_cases_lem      the base day's first quarter, minutes within one, the next day, a year on, the day before, no minute, no base day
--   rounded_up_cases   a quarter's first minute, the next, its last, the end of a day
--   last-quarter_cases the highest quarter, reached by either rounding, and a minute too late
--   question_cases     each form, with numbers and with a day and time
--   covers_cases       numbers, two days and times, a TO within a quarter, FROM above TO, no base day
--   bad_questions      two blanks, a blank at either end, a number too high, one too many or too few, capitals, a word alone
--   bad_times_lem          a quarter's number beside a day and time, one day and time where two are wanted, two where one is, a time that is none
-- Assumes nothing.
use Prim.Native.Nat.{ℕ}
use Prim.Native.String.{String}
use Rattle.std.proofs.Common.{Option, None, Some, Result, Ok, Err}
use mathlib.Core.Path.{◌≡◌, refl}
use mathlib.Core.Bool.{Bool, true, false}
use mathlib.Core.List.{List, [], ◌∷◌}
use Rattle.lists.specs.Tests.{every, same_numbers}
use Rattle.text.specs.Ascii.{ascii}
use Rattle.text.specs.Decimal.{is_number, value_after, decimal}
use Rattle.text.specs.Fields.{fields}
use Rattle.text.specs.Numbers.{numbers}
use Rattle.calendar.specs.declared.Date.{Date}
use Rattle.calendar.specs.Calendar.{leap_year, month_days, is_date, next_day, date_after}
use Rattle.question.specs.declared.Rounding.{Rounding}
use Rattle.question.specs.declared.Rounding.TheVariants as rounding
use Rattle.question.specs.declared.Question.{Question}
use Rattle.question.specs.declared.Question.TheVariants as question
use Rattle.question.specs.declared.NoQuestion.{NoQuestion}
use Rattle.question.specs.declared.NoQuestion.TheVariants.{NoBase, NotUnderstood}
use Rattle.question.specs.Number.{typed_number}
use Rattle.question.specs.Day.{day_form, date_of, day_in}
use Rattle.question.specs.Quarter.{moment_form, same_date, days_from, quarter_at, time_of, quarter_of}
use Rattle.question.specs.Word.{begins}
use Rattle.question.specs.Question.{has_marks, timed, plain_question, timed_question, span_question, dated_question, question_of}

abbrev on : ℕ → ℕ → ℕ → Date
on y m d = record { year = y; month = m; day = d }

pub number_cases : (typed_number (ascii "007") ≡ Some 7)
    × (typed_number (ascii "65535") ≡ Some 65535)
    × (typed_number (ascii "65536") ≡ None)
    × (typed_number (ascii "-7") ≡ None)
    × (typed_number (ascii "7 ") ≡ None)
    × (typed_number (ascii "7 8") ≡ None)
    × (typed_number (ascii "") ≡ None)
unfolding typed_number decimal is_number value_after every
number_cases = (refl, refl, refl, refl, refl, refl, refl)

pub day_cases : (day_in (ascii "2028-02-29") ≡ Some (on 2028 2 29))
    × (day_in (ascii "2026-02-29") ≡ None)
    × (day_in (ascii "2026-13-01") ≡ None)
    × (day_in (ascii "2026-1-010") ≡ None)
    × (day_in (ascii "2026-01-011") ≡ None)
    × (day_in (ascii "2026/01/01") ≡ None)
    × (day_in (ascii "0000-01-01") ≡ None)
    × (day_in (ascii "0001-01-01") ≡ Some (on 1 1 1))
unfolding day_in day_form date_of is_date month_days leap_year typed_number decimal is_number value_after every
day_cases = (refl, refl, refl, refl, refl, refl, refl, refl)

abbrev Quarters : Rounding → Date → String → Option ℕ → Type 0
Quarters r base t q = quarter_of r base (ascii t) ≡ q

pub quarter_cases_lem : Quarters rounding.Down (on 2026 1 1) "2026-01-01 00:00" (Some 0)
    × Quarters rounding.Down (on 2026 1 1) "2026-01-01 10:14" (Some 40)
    × Quarters rounding.Down (on 2026 1 1) "2026-01-01 23:59" (Some 95)
    × Quarters rounding.Down (on 2026 1 1) "2026-01-02 00:15" (Some 97)
    × Quarters rounding.Down (on 2026 2 28) "2026-03-01 00:00" (Some 96)
    × Quarters rounding.Down (on 2026 1 1) "2026-01-01 24:00" None
    × Quarters rounding.Down (on 2026 1 1) "2026-01-01 10:60" None
    × Quarters rounding.Down (on 2026 1 1) "2026-01-01  0:00" None
    × Quarters rounding.Down (on 2026 1 1) "2026-01-01T10:00" None
    × Quarters rounding.Down (on 2026 2 30) "2026-03-01 00:00" None
unfolding quarter_of moment_form time_of quarter_at days_from same_date date_after next_day day_in day_form date_of is_date month_days leap_year
    typed_number decimal is_number value_after every
quarter_cases_lem = (refl, refl, refl, refl, refl, refl, refl, refl, refl, refl)

pub rounded_up_cases : Quarters rounding.Up (on 2026 1 1) "2026-01-01 00:00" (Some 0)
    × Quarters rounding.Up (on 2026 1 1) "2026-01-01 22:00" (Some 88)
    × Quarters rounding.Up (on 2026 1 1) "2026-01-01 22:01" (Some 89)
    × Quarters rounding.Up (on 2026 1 1) "2026-01-01 22:14" (Some 89)
    × Quarters rounding.Up (on 2026 1 1) "2026-01-01 22:15" (Some 89)
    × Quarters rounding.Up (on 2026 1 1) "2026-01-01 23:46" (Some 96)
    × Quarters rounding.Up (on 2026 1 1) "2026-01-01 22:60" None
unfolding quarter_of moment_form time_of quarter_at days_from same_date date_after next_day day_in day_form date_of is_date month_days leap_year
    typed_number decimal is_number value_after every
rounded_up_cases = (refl, refl, refl, refl, refl, refl, refl)

-- the last quarter-hour that is counted, 682 days after the base day: it begins at 15:45
pub last-quarter_cases : (quarter_at rounding.Down 682 15 59 ≡ Some 65535)
    × (quarter_at rounding.Up 682 15 45 ≡ Some 65535)
    × (quarter_at rounding.Up 682 15 46 ≡ None)
    × (quarter_at rounding.Down 682 16 0 ≡ None)
unfolding quarter_at
last-quarter_cases = (refl, refl, refl, refl)

abbrev new_year : Option Date
new_year = Some (on 2026 1 1)

abbrev Asks : Option Date → String → Question → Type 0
Asks b t q = question_of b (ascii t) ≡ Ok q

abbrev AsksNothing : Option Date → String → NoQuestion → Type 0
AsksNothing b t n = question_of b (ascii t) ≡ Err n

pub question_cases : Asks new_year "who 12 40" (question.Who 12 40)
    × Asks None "who 12 40" (question.Who 12 40)
    × Asks new_year "may 150 12 40" (question.May 150 12 40)
    × Asks new_year "who 12 2026-01-01 10:00" (question.Who 12 40)
    × Asks new_year "may 150 12 2026-01-02 00:20" (question.May 150 12 97)
    × AsksNothing None "who 12 2026-01-01 10:00" NoBase
    × AsksNothing None "may 150 12 2026-01-01 10:00" NoBase
    × Asks new_year "" question.More
    × Asks new_year "help" question.Help
    × Asks new_year "quit" question.Quit
unfolding question_of timed has_marks plain_question timed_question dated_question begins same_numbers numbers fields quarter_of moment_form time_of quarter_at
    days_from same_date date_after next_day day_in day_form date_of is_date month_days leap_year typed_number decimal is_number value_after every
question_cases = (refl, refl, refl, refl, refl, refl, refl, refl, refl, refl)

pub covers_cases : Asks new_year "covers 7 12 24 56" (question.Covers 7 12 24 56)
    × Asks None "covers 7 12 24 56" (question.Covers 7 12 24 56)
    × Asks new_year "covers 7 12 56 24" (question.Covers 7 12 56 24)
    × Asks new_year "covers 7 12 24 24" (question.Covers 7 12 24 24)
    × Asks new_year "covers 7 12 2026-01-01 06:00 2026-01-01 14:00" (question.Covers 7 12 24 56)
    × Asks new_year "covers 7 12 2026-01-01 06:14 2026-01-01 22:07" (question.Covers 7 12 24 89)
    × Asks new_year "covers 7 12 2026-01-01 22:00 2026-01-02 06:00" (question.Covers 7 12 88 120)
    × Asks new_year "covers 7 12 2026-01-02 06:00 2026-01-01 22:00" (question.Covers 7 12 120 88)
    × AsksNothing None "covers 7 12 2026-01-01 06:00 2026-01-01 14:00" NoBase
    × AsksNothing None "covers 7 12 24 2026-01-01 14:00" NoBase
unfolding question_of timed has_marks plain_question span_question dated_question begins same_numbers numbers fields quarter_of moment_form time_of quarter_at
    days_from same_date date_after next_day day_in day_form date_of is_date month_days leap_year typed_number decimal is_number value_after every
covers_cases = (refl, refl, refl, refl, refl, refl, refl, refl, refl, refl)

abbrev is_bad : Result Question NoQuestion → Bool
is_bad (Ok q) = false
is_bad (Err NoBase) = false
is_bad (Err NotUnderstood) = true

abbrev bad_lines : List String
bad_lines =
    "who  12 40" ∷ "who 12  40" ∷ " who 12 40" ∷ "who 12 40 " ∷ "who 12 65536" ∷ "who 65536 40" ∷ "who 12" ∷ "who 12 40 1" ∷ "who" ∷ "who "
    ∷ "Who 12 40" ∷ "may 150 12" ∷ "may 150 12 40 1" ∷ "may" ∷ "help me" ∷ "HELP" ∷ "quit " ∷ " "
    ∷ "who 12 2026-01-01" ∷ "who 12 2026-01-01 10:0" ∷ "who 12 2026-02-29 10:00" ∷ "who 12  2026-01-01 10:00" ∷ "who 2026-01-01 10:00"
    ∷ "who 12 40 2026-01-01 10:00" ∷ "may 12 2026-01-01 10:00" ∷ "2026-01-01 10:00" ∷ "who 12 2026-01-01 24:00"
    ∷ "covers" ∷ "covers " ∷ "covers 7 12 24" ∷ "covers 7 12 24 56 1" ∷ "covers 7 12  24 56" ∷ "covers 7 12 24 65536" ∷ "Covers 7 12 24 56" ∷ []

-- with days and times
abbrev bad_times : List String
bad_times =
    "covers 7 12 24 2026-01-01 14:00" ∷ "covers 7 12 2026-01-01 06:00 56" ∷ "covers 7 12 2026-01-01 06:00" ∷ "covers 7 2026-01-01 06:00 2026-01-01 14:00"
    ∷ "covers 7 12 1 2026-01-01 06:00 2026-01-01 14:00" ∷ "covers 7 12  2026-01-01 06:00 2026-01-01 14:00"
    ∷ "covers 7 12 2026-01-01 06:00  2026-01-01 14:00" ∷ "covers 7 12 2026-01-01 24:00 2026-01-02 14:00" ∷ "covers 7 12 2026-01-01 06:00 2026-01-01 14:60"
    ∷ "covers 2026-01-01 06:00 2026-01-01 14:00" ∷ "who 12 2026-01-01 06:00 2026-01-01 14:00" ∷ "may 7 12 2026-01-01 06:00 2026-01-01 14:00" ∷ []

pub bad_questions : every (λ t. is_bad (question_of new_year (ascii t))) bad_lines ≡ true
unfolding question_of timed has_marks plain_question timed_question span_question dated_question begins same_numbers numbers fields quarter_of moment_form
    time_of quarter_at days_from same_date date_after next_day day_in day_form date_of is_date month_days leap_year typed_number decimal is_number value_after every
bad_questions = refl

pub bad_times_lem : every (λ t. is_bad (question_of new_year (ascii t))) bad_times ≡ true
unfolding question_of timed has_marks plain_question timed_question span_question dated_question begins same_numbers numbers fields quarter_of moment_form
    time_of quarter_at days_from same_date date_after next_day day_in day_form date_of is_date month_days leap_year typed_number decimal is_number value_after every
bad_times_lem = refl
