-- `revoke::revoke` meets its contract: it refuses, or stores what was planned. Assumes nothing.
use Rattle.std.proofs.Common.{subst}
use Rattle.std.proofs.lemmas.Result.{err_from_is_err_and}
use Rattle.index.specs.Plans.{RemovalPlanned}
use Rattle.index.proofs.PlanLaws.{plan_removes, revoke-refused, revoke_done}
use Rattle.index.proofs.revoke.revoke.Goals as goal

pub remove-requires : goal.remove-requires
remove-requires c =
    let a = c.args in
    plan_removes a.pool.now _ _ (subst (RemovalPlanned a.pool.now a.number) c.in_ok-at.was c.plan_removal.ensures)

pub returns-in_err-at : goal.returns-in_err-at
returns-in_err-at c =
    let a = c.args in
    let p = err_from_is_err_and c.from_residual.result c.from_residual.ensures.1 in
    rw (p.1, p.2) (revoke-refused a.pool.now _ _ (subst (RemovalPlanned a.pool.now a.number) c.in_err-at.was c.plan_removal.ensures))

pub returns : goal.returns
returns c =
    let a = c.args in
    revoke_done a.pool.now _ _ (subst (RemovalPlanned a.pool.now a.number) c.in_ok-at.was c.plan_removal.ensures) c.remove.ensures
