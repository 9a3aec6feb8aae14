-- The day and time beside a quarter's number, where the operator's base day is known.
--   shown_base base      the base day that is counted from: one of a year above last_year, which has no four digits, counts as unknown
--   moment_note base q   the day and time at which a quarter starts, to stand behind its number; nothing where no base day is shown
--   note_bytes           the length of one that is there
-- Assumes nothing: these are definitions.
use Rattle.std.specs.Prelude.{ℕ, cond, List, [], ◌++◌, leb, Option, None, Some}
use Rattle.text.specs.Ascii.{ascii}
use Rattle.calendar.specs.declared.Date.{Date}
use Rattle.calendar.specs.Calendar.{last_year}
use Rattle.calendar.specs.Moment.{moment_text}

unfoldable pub shown_base : Option Date → Option Date
shown_base None = None
shown_base (Some d) = cond (leb d.year last_year) (Some d) None

-- once it is known which base day is shown
abbrev pub note_after : Option Date → ℕ → List ℕ
note_after None q = []
note_after (Some d) q = ascii " (" ++ moment_text d q ++ ascii ")"

abbrev pub moment_note : Option Date → ℕ → List ℕ
moment_note base q = note_after (shown_base base) q

abbrev pub note_bytes : ℕ
note_bytes = 19
