use mathlib.Core.Path.{sym, ◌∙◌}
use native.Mathlib.Omega.{arith}
use Rattle.steps.specs.Hits.{grants_at}
use Rattle.precedence.proofs.PrecedenceWalkLaws.{passed_none, passed_reach, walk_whole, walk_partly, walk_nowhere}
use Rattle.precedence.proofs.overriding.precedence_among.Goals as goal

pub returns-then-not-overridden_some : goal.returns-then-not-overridden_some
returns-then-not-overridden_some c =
    walk_whole (grants_at c.args.pool.now c.args.hits.now) c.args.g
    (sym c.overridden_some.ensures ∙ c.if-not-overridden_some.true)

pub loop-staff-init : goal.loop-staff-init
loop-staff-init c =
    let a = c.args in
    let widened = c.from-staff in
    (omega (arith, widened.ensures), passed_none (grants_at a.pool.now a.hits.now) a.g widened.result widened.ensures)

pub returns-then-next-staff : goal.returns-then-next-staff
returns-then-next-staff c =
    walk_partly (grants_at c.args.pool.now c.args.hits.now) c.args.g
    (sym c.overridden_some.ensures ∙ c.if-not-overridden_some.false) c.loop-staff.staff c.reach-next.result
    c.loop-staff.invariant.0 (omega (arith, c.loop-staff-test.true, c.from-to.ensures)) c.reach-next.ensures c.if-next-staff.true

pub loop-staff-preserved : goal.loop-staff-preserved
loop-staff-preserved c =
    let loop = c.loop-staff in
    let a = c.args in (
      omega (arith, loop.invariant.0, c.if-next-staff.false),
      passed_reach (grants_at a.pool.now a.hits.now) a.g loop.staff loop.invariant.0 c.reach-next.ensures loop.invariant.1,
    )

pub returns : goal.returns
returns c =
    walk_nowhere (grants_at c.args.pool.now c.args.hits.now) c.args.g
    (sym c.overridden_some.ensures ∙ c.if-not-overridden_some.false) c.loop-staff.staff c.loop-staff.invariant.1
    (omega (arith, c.loop-staff-test.false, c.from-to.ensures))
