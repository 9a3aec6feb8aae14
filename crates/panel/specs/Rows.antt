-- A grant as a line of a table, and the days and times that the panel shows.
--   grant_heads                    the heads of the columns of grant_row
--   grant_row g                    number, rank, staff, doors and quarters, then `opens` or `bars`
--   touching_row g stands base     number, rank, staff, the quarter to and its day and time, `opens` or `bars`, then how far it stands
--   times_row g base               from when until when the grant holds: it ends at the start of its quarter to
-- Assumes nothing: these are definitions.
use Rattle.std.specs.Prelude.{ℕ, List, [], ◌∷◌, ◌++◌, Option, None, Some}
use Rattle.model.specs.declared.Kind.{Kind}
use Rattle.model.specs.declared.Kind.TheVariants.{Bars, Opens}
use Rattle.model.specs.declared.Grant.{Grant}
use Rattle.model.specs.Box.{box_values}
use Rattle.text.specs.Ascii.{ascii}
use Rattle.text.specs.Ascii.{line}
use Rattle.precedence.specs.declared.Precedence.{Precedence}
use Rattle.precedence.specs.declared.Precedence.TheVariants as precedence
use Rattle.calendar.specs.Moment.{moment_text}
use Rattle.calendar.specs.Note.{shown_base}
use Rattle.calendar.specs.declared.Date.{Date}
use Rattle.text.specs.Columns.{columns}

abbrev pub kind_text : Kind → List ℕ
kind_text Bars = ascii "bars"
kind_text Opens = ascii "opens"

abbrev pub precedence_text : Precedence → List ℕ
precedence_text precedence.Whole = []
precedence_text precedence.Partial = ascii ", in part"
precedence_text precedence.None = ascii ", OVERRIDDEN"

-- a quarter's day and time in a column of its own, once it is known which base day is shown
abbrev pub moment_column : Option Date → ℕ → List ℕ
moment_column None q = ascii "-               "
moment_column (Some d) q = moment_text d q

abbrev pub times_from : Option Date → Grant → List ℕ
times_from None g = []
times_from (Some d) g = line (ascii "from " ++ moment_text d g.bounds.quarter_from ++ ascii " until " ++ moment_text d g.bounds.quarter_to)

abbrev pub grant_heads : List ℕ
grant_heads = line (ascii "  number    rank   staff      to   doors      to quarter   until  does")

abbrev pub grant_row : Grant → List ℕ
grant_row g = line (columns (g.number ∷ g.rank ∷ box_values g.bounds) ++ ascii "  " ++ kind_text g.kind)

abbrev pub touching_row : Grant → Precedence → Option Date → List ℕ
touching_row g stands base =
    let b = g.bounds in
    line
    (columns (g.number ∷ g.rank ∷ b.staff_from ∷ b.staff_to ∷ b.quarter_to ∷ [])
    ++ ascii "  "
    ++ moment_column (shown_base base) b.quarter_to
    ++ ascii "  "
    ++ kind_text g.kind
    ++ precedence_text stands)

abbrev pub times_row : Grant → Option Date → List ℕ
times_row g base = times_from (shown_base base) g
