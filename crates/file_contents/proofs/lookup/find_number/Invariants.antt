-- `lookup::find_number` meets its contract. The invariant: the grants left have the same first one with the number. Assumes nothing.
use mathlib.Core.Path.{◌≡◌}
use lib.ListN.{drop}
use Rattle.grants_file.specs.File.{grants_in}
use Rattle.file_contents.specs.Contents.{numbered_of}
use Rattle.file_contents.proofs.lookup.find_number.Given as goal

abbrev pub invariant-loop-i : goal.invariant-loop-i
invariant-loop-i l = numbered_of (drop l.i (grants_in l.file)) l.number ≡ numbered_of (grants_in l.file) l.number
