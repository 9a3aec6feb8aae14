-- `matching::first_difference` meets its contract. The invariant: what is left on both sides differs first where all does. Assumes nothing.
use Prim.Native.Nat.{◌-◌}
use mathlib.Core.Path.{◌≡◌}
use lib.ListN.{length, drop}
use Rattle.grants_file.specs.File.{grants_in}
use Rattle.calls.specs.FileCalls.{first_difference}
use Rattle.steps.specs.Hits.{grants_at}
use Rattle.file_calls.proofs.matching.first_difference.Given as goal

abbrev pub invariant-loop-theirs : goal.invariant-loop-theirs
invariant-loop-theirs l =
    let ours = grants_at l.pool l.cells in
    first_difference (drop l.i ours) (drop l.i (grants_in l.file)) ≡ first_difference ours (grants_in l.file)

abbrev pub decreases-loop-theirs : goal.decreases-loop-theirs
decreases-loop-theirs l = length l.cells - l.i
