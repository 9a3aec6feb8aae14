use Rattle.std.proofs.Common.{arith, sym, ◌∙◌}
use Rattle.steps.proofs.HitsLaws.{cell_hit}
use Rattle.precedence.specs.PrecedenceWalk.{overrides_some}
use Rattle.precedence.proofs.HitScanLaws.{any_found, any_passed, any_none}
use Rattle.precedence.proofs.overriding.overridden_some.Goals as goal

pub grant_at-requires : goal.grant_at-requires
grant_at-requires c = cell_hit c.requires c.loop-hit-test.true c.from.ensures

pub returns-then-overrides_some : goal.returns-then-overrides_some
returns-then-overrides_some c =
    any_found c.args.pool.now c.args.hits.now c.loop-hit-test.true c.from.ensures c.grant_at.ensures
    (overrides_some c.args.g) c.loop-hit.invariant (sym c.overrides_some.ensures ∙ c.if-overrides_some.true)

pub loop-hit-preserved : goal.loop-hit-preserved
loop-hit-preserved c =
    any_passed c.args.pool.now c.args.hits.now c.loop-hit-test.true c.from.ensures c.grant_at.ensures
    (overrides_some c.args.g) c.loop-hit.invariant (sym c.overrides_some.ensures ∙ c.if-overrides_some.false)

pub returns : goal.returns
returns c = any_none c.args.pool.now c.args.hits.now (overrides_some c.args.g) _ (omega (arith, c.loop-hit-test.false)) c.loop-hit.invariant
