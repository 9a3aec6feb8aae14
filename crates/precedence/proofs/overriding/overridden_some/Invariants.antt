-- `overriding::overridden_some` meets its contract. The invariant: one of the hits not yet passed overrides exactly if one of all does.
-- Assumes nothing.
use Rattle.std.proofs.Common.{◌≡◌}
use Rattle.lists.specs.Tests.{any}
use Rattle.steps.specs.Hits.{grants_at}
use Rattle.steps.proofs.HitsLaws.{grants_from}
use Rattle.precedence.specs.PrecedenceWalk.{overrides_some}
use Rattle.precedence.proofs.overriding.overridden_some.Given as goal

abbrev pub invariant-loop-hit : goal.invariant-loop-hit
invariant-loop-hit l = any (overrides_some l.g) (grants_from l.pool l.hits l.hit-index) ≡ any (overrides_some l.g) (grants_at l.pool l.hits)
