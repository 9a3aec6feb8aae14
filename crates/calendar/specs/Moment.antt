-- The day and time of a quarter as text, `YYYY-MM-DD HH:MM`.
--   two_digits n           the last two digits of a number
--   date_text d, time_text q, moment_text base q
--   date_bytes, time_bytes, moment_bytes     their lengths
-- Assumes nothing: these are definitions.
use Rattle.std.specs.Prelude.{ℕ, ◌/◌, ◌%◌, List, [], ◌∷◌, ◌++◌}
use Prim.Native.Char.{code}
use Rattle.text.specs.Ascii.{blank}
use Rattle.text.specs.Numeral.{digit}
use Rattle.calendar.specs.declared.Date.{Date}
use Rattle.calendar.specs.Calendar.{date_after, day_of, hour_of, minute_of}

abbrev pub two_digits : ℕ → List ℕ
two_digits n = digit (n / 10 % 10) ∷ digit (n % 10) ∷ []

abbrev pub dash : ℕ
dash = code "-"

abbrev pub colon : ℕ
colon = code ":"

abbrev pub date_text : Date → List ℕ
date_text d = two_digits (d.year / 100) ++ two_digits (d.year % 100) ++ dash ∷ two_digits d.month ++ dash ∷ two_digits d.day

abbrev pub time_text : ℕ → List ℕ
time_text q = two_digits (hour_of q) ++ colon ∷ two_digits (minute_of q)

abbrev pub moment_text : Date → ℕ → List ℕ
moment_text base q = date_text (date_after base (day_of q)) ++ blank ∷ time_text q

abbrev pub date_bytes : ℕ
date_bytes = 10

abbrev pub time_bytes : ℕ
time_bytes = 5

abbrev pub moment_bytes : ℕ
moment_bytes = 16
