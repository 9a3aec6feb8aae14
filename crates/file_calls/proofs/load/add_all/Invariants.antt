-- `load::add_all` meets its contract. The invariant: the grants from the i-th on, added now, give what all give. Assumes nothing.
use mathlib.Core.Path.{◌≡◌}
use lib.ListN.{drop}
use Rattle.grants_file.specs.File.{grants_in}
use Rattle.steps.specs.Insertions.{added_all}
use Rattle.file_calls.proofs.load.add_all.Given as goal

abbrev pub invariant-loop-i : goal.invariant-loop-i
invariant-loop-i l = added_all l.pool (drop l.i (grants_in l.file)) ≡ added_all l.initial.pool (grants_in l.file)
