use Rattle.std.proofs.Common.{arith}
use Rattle.steps.proofs.HitsLaws.{cell_hit}
use Rattle.precedence.proofs.HitScanLaws.{reach_passed, reach-end}
use Rattle.precedence.proofs.overriding.reach.Goals as goal

pub grant_at-requires : goal.grant_at-requires
grant_at-requires c = cell_hit c.requires c.loop-hit-test.true c.from.ensures

pub loop-hit-preserved : goal.loop-hit-preserved
loop-hit-preserved c =
    reach_passed c.args.pool.now c.args.hits.now c.loop-hit-test.true c.from.ensures c.grant_at.ensures c.args.g
    c.args.staff c.loop-hit.best c.loop-hit.invariant c.further-best.ensures

pub returns : goal.returns
returns c =
    reach-end c.args.pool.now c.args.hits.now c.args.g c.args.staff _ _ (omega (arith, c.loop-hit-test.false)) c.loop-hit.invariant
