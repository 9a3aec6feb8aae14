-- `overriding::reach` meets its contract. The invariant: from what was reached so far, the hits not yet passed reach as far as all do.
-- Assumes nothing.
use Rattle.std.proofs.Common.{◌≡◌}
use Rattle.steps.specs.Hits.{grants_at}
use Rattle.steps.proofs.HitsLaws.{grants_from}
use Rattle.precedence.specs.PrecedenceWalk.{reach}
use Rattle.precedence.proofs.overriding.reach.Given as goal

abbrev pub invariant-loop-hit : goal.invariant-loop-hit
invariant-loop-hit l = reach l.g l.staff l.best (grants_from l.pool l.hits l.hit-index) ≡ reach l.g l.staff l.staff (grants_at l.pool l.hits)
