-- `decide::decide_among` meets its contract. The invariant: the grant that decides so far and those not yet passed decide as all do.
-- Assumes nothing.
use Rattle.std.proofs.Common.{◌≡◌, ◌+◌}
use Rattle.model.specs.Decide.{deciding_of}
use Rattle.steps.proofs.HitsLaws.{grants_from}
use Rattle.queries.proofs.decide.decide_among.Given as goal

abbrev pub invariant-loop-hit : goal.invariant-loop-hit
invariant-loop-hit l = deciding_of l.deciding (grants_from l.pool l.hits (l.hit-index + 1)) ≡ deciding_of l.initial.deciding (grants_from l.pool l.hits 1)
