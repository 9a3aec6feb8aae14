use Rattle.std.proofs.Common.{◌≡◌, ◌-◌, ◌<◌, ◌≤◌, arith, rules, ◌∙◌}
use Rattle.grant_path.proofs.AncestorSteps.{ancestor_far, ancestor_here, ancestor_parent, walk_cell, walk_parent}
use Rattle.grant_path.proofs.ancestors.ancestor_from.Goals as goal

pub returns-in_err-above : goal.returns-in_err-above
returns-in_err-above c =
    let far : c.args.level < c.args.steps = search rules in
    rw c.from_residual.ensures (ancestor_far c.args.pool.now c.args.cell c.args.level c.args.steps far)

pub field-requires : goal.field-requires
field-requires c = walk_cell c.loop.invariant.0

pub loop-preserved : goal.loop-preserved
loop-preserved c =
    let named = c.from-at.ensures ∙ c.field.ensures in
    let few : c.args.steps ≤ c.args.level = search rules in (
      walk_parent c.loop.invariant.0 (omega arith) named,
      ancestor_parent _ _ named c.args.level c.args.steps c.loop.counter few c.loop-test.true ∙ c.loop.invariant.1,
    )

pub overflow_cast-result : goal.overflow_cast-result
overflow_cast-result c = let cell = walk_cell c.loop.invariant.0 in search rules

pub grant_at-requires : goal.grant_at-requires
grant_at-requires c = walk_cell c.loop.invariant.0

pub returns : goal.returns
returns c =
    let up : c.in_ok-above.above ≡ c.args.level - c.args.steps = search rules in
    let above : c.in_ok-above.above ≡ c.args.level - c.loop.counter = omega (arith, c.loop-test.false, c.loop.auto.counter-end) in
    rw (c.grant_at.ensures, above) (ancestor_here c.args.pool.now c.loop.at _ _ (omega (arith, c.loop-test.false)) ∙ c.loop.invariant.1)
