-- `grant::grant` meets its contract: it refuses, or stores what was planned. Assumes nothing.
use Rattle.std.proofs.Common.{subst, ap, ◌∙◌}
use Rattle.std.proofs.lemmas.Result.{err_from_is_err_and}
use Rattle.model.specs.Call.{request}
use Rattle.adt.specs.Insert.{inserted}
use Rattle.steps.proofs.InsertionLaws.{plan_inserts}
use Rattle.index.specs.Plans.{GrantPlanned}
use Rattle.index.proofs.PlanLaws.{grant-refused, grant_done}
use Rattle.index.proofs.grant.grant.Goals as goal

pub insert-requires : goal.insert-requires
insert-requires c =
    let a = c.args in
    let r = request a.number a.rank a.kind a.bounds in
    plan_inserts _ r _ _ (subst (GrantPlanned a.pool.now r) c.in_ok-at.was c.plan_insertion.ensures)

pub returns-in_err-at : goal.returns-in_err-at
returns-in_err-at c =
    let a = c.args in
    let r = request a.number a.rank a.kind a.bounds in
    let p = err_from_is_err_and c.from_residual.result c.from_residual.ensures.1 in
    rw (p.1, p.2) (grant-refused a.pool.now r _ (subst (GrantPlanned a.pool.now r) c.in_err-at.was c.plan_insertion.ensures))

pub returns : goal.returns
returns c =
    let a = c.args in
    let r = request a.number a.rank a.kind a.bounds in
    grant_done a.pool.now r _ (subst (GrantPlanned a.pool.now r) c.in_ok-at.was c.plan_insertion.ensures)
    (c.insert.ensures ∙ ap (inserted _ _ _) c.requested-g.ensures)
