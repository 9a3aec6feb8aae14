-- A line of the slip program (document 01, "Marked cases"), of any length. No call needs as many bytes as `longest`, so that a line above
-- it is of another form; the bound lets the program hold a line while it reads on.
-- Assumes nothing: these are definitions.
use Rattle.std.specs.Prelude.{ℕ, cond, List, ltb, length, Option, None}
use Rattle.slip_session.specs.declared.Slip.{Slip}
use Rattle.slip_session.specs.Slip.{parse_line}

abbrev pub longest : ℕ
longest = 4096

abbrev pub slip_of : List ℕ → Option Slip
slip_of line = cond (ltb longest (length line)) None (parse_line line)
