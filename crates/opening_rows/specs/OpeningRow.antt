-- An entry of a record of openings, as a line for people (docs/MANUAL.md, "Openings").
--   entry_text base number o    the entry's number, as people count: from 1; its door, and its quarter with the day and time
--   opening_row base number o   that, and the staff number: the whole line
-- The day and time is that of calendar/specs/Note. Assumes nothing: these are definitions.
use Rattle.std.specs.Prelude.{ℕ, List, ◌++◌, Option}
use Rattle.text.specs.Ascii.{ascii, line}
use Rattle.text.specs.Numeral.{numbered}
use Rattle.calendar.specs.declared.Date.{Date}
use Rattle.calendar.specs.Note.{moment_note}
use Rattle.openings.specs.declared.Opening.{Opening}

abbrev pub entry_text : Option Date → ℕ → Opening → List ℕ
entry_text base number o =
    numbered (ascii "  entry ") number
    ++ numbered (ascii ": door ") o.door
    ++ numbered (ascii ", quarter ") o.quarter
    ++ moment_note base o.quarter

abbrev pub opening_row : Option Date → ℕ → Opening → List ℕ
opening_row base number o = line (entry_text base number o ++ numbered (ascii ", staff ") o.staff)
