use Rattle.std.proofs.Common.{arith, sym, ◌∙◌}
use Rattle.steps.proofs.HitsLaws.{cell_hit}
use Rattle.queries.proofs.DecideLaws.{rest_at, decides-none, decides_over, decides_under, decides-end}
use Rattle.queries.proofs.decide.decide_among.Goals as goal
use Rattle.queries.proofs.decide.decide_among.Goals.{then-outranks, else-outranks}

pub returns-in_default : goal.returns-in_default
returns-in_default c = decides-none _ _ (omega (arith, c.in_default.len_below))

pub grant_at-other-requires : goal.grant_at-other-requires
grant_at-other-requires c =
    cell_hit c.requires (omega (arith, c.loop-hit-test.true)) (rest_at c.args.hits.now _ c.from-in-loop-hit.ensures)

pub loop-hit-preserved : goal.loop-hit-preserved
loop-hit-preserved c =
    let loop = c.loop-hit in
    let w = c.args.pool.now in
    let hits = c.args.hits.now in
    let o = c.outranks.ensures in
    let cell = rest_at c.args.hits.now _ c.from-in-loop-hit.ensures in
    let over = decides_over w hits (omega (arith, c.loop-hit-test.true)) cell c.grant_at-other.ensures loop.deciding loop.invariant in
    let under = decides_under w hits (omega (arith, c.loop-hit-test.true)) cell c.grant_at-other.ensures loop.deciding loop.invariant in
    elim c.if-outranks.branch [
      | then-outranks b ↦ rw b.deciding-is (over (sym o ∙ b.if-outranks.true))
      | else-outranks b ↦ rw b.deciding-is (under (sym o ∙ b.if-outranks.false))
    ]

pub returns : goal.returns
returns c =
    let loop = c.loop-hit in
    c.decision_of.ensures
    ∙ decides-end c.args.pool.now c.args.hits.now _ (omega (arith, c.loop-hit-test.false)) (omega (arith, c.in-len1-up.len_at_least))
    c.from.ensures c.grant_at-deciding.ensures loop.deciding loop.invariant
