-- `reading::read_numbers` meets its contract. The invariant: the numbers read and those still to be read are those of the line.
-- Assumes nothing.
use mathlib.Core.Path.{◌≡◌}
use lib.ListN.{length}
use Rattle.text.specs.Numbers.{numbers}
use Rattle.text.specs.Scan.{fields_from}
use Rattle.text.proofs.NumberSteps.{numbers_going}
use Rattle.text.proofs.reading.read_numbers.Given as goal

abbrev pub invariant-loop-i : goal.invariant-loop-i
invariant-loop-i g l =
    (length l.values ≡ g.row.N) × (length l.fn.widths ≡ g.row.N)
    × (numbers_going l.fn.widths l.line l.values l.i l.at ≡ numbers l.fn.widths (fields_from l.line l.from))
