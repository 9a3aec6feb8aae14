-- What the panel answers to `may STAFF DOOR QUARTER`, by what decide answered (document 01, "The plain book": decide).
--   question_text staff door quarter base      the question, with the day and time of its quarter
--   deciding_text word g base                  the word, the number of the grant that decides, its row under the heads, its times, an empty line
--   verdict_text decided base                  OPENS or BARRED with that grant, or NO GRANT
--   may_text staff door quarter base decided   the question and the decision: all that is answered
-- Rows and times are those of panel/specs/Rows, the day and time that of calendar/specs/Note. The sentence that follows a refusal is prose and
-- no part of this text.
-- Assumes nothing: these are definitions.
use Rattle.std.specs.Prelude.{ℕ, List, ◌++◌, Option, Result, Ok, Err}
use Rattle.model.specs.declared.Grant.{Grant}
use Rattle.model.specs.declared.Decision.{Decision}
use Rattle.model.specs.declared.Decision.TheVariants as decision
use Rattle.model.specs.declared.Fault.{Fault}
use Rattle.text.specs.Ascii.{ascii, line}
use Rattle.text.specs.Numeral.{numbered}
use Rattle.calendar.specs.declared.Date.{Date}
use Rattle.calendar.specs.Note.{moment_note}
use Rattle.panel.specs.Rows.{grant_heads, grant_row, times_row}

abbrev pub question_text : ℕ → ℕ → ℕ → Option Date → List ℕ
question_text staff door quarter base =
    numbered (ascii "staff ") staff ++ numbered (ascii ", door ") door ++ numbered (ascii ", quarter ") quarter ++ moment_note base quarter

abbrev pub deciding_text : List ℕ → Grant → Option Date → List ℕ
deciding_text word g base = line (numbered word g.number) ++ grant_heads ++ grant_row g ++ line (times_row g base)

abbrev pub verdict_text : Result Decision Fault → Option Date → List ℕ
verdict_text (Ok (decision.Opens g)) base = deciding_text (ascii ": OPENS, by grant ") g base
verdict_text (Ok (decision.Barred g)) base = deciding_text (ascii ": BARRED, by grant ") g base
verdict_text (Ok decision.None) base = ascii ": NO GRANT, do not open\n\n"
verdict_text (Err f) base = ascii "\n"

abbrev pub may_text : ℕ → ℕ → ℕ → Option Date → Result Decision Fault → List ℕ
may_text staff door quarter base decided = question_text staff door quarter base ++ verdict_text decided base
