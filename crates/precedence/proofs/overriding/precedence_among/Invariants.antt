-- `overriding::precedence_among` meets its contract. The invariant: every staff number of the grant below the place of the walk is overridden.
-- The measure is how many are left. Assumes nothing.
use Prim.Native.Nat.{◌+◌, ◌-◌, ◌≤◌}
use Rattle.steps.specs.Hits.{grants_at}
use Rattle.precedence.proofs.PrecedenceWalkLaws.{Passed}
use Rattle.precedence.proofs.overriding.precedence_among.Given as goal

abbrev pub invariant-loop-staff : goal.invariant-loop-staff
invariant-loop-staff l = (l.g.bounds.staff_from ≤ l.staff) × Passed (grants_at l.pool l.hits) l.g l.staff

abbrev pub decreases-loop-staff : goal.decreases-loop-staff
decreases-loop-staff l = l.to + 1 - l.staff
