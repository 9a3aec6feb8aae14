-- `revoke::plan_removal` meets its contract, in the order of revoke's line. Assumes nothing.
use Rattle.std.proofs.Common.{subst}
use Rattle.std.proofs.lemmas.Result.{err_from_is_err_and}
use Rattle.index.specs.NumberSearch.{LiveFound}
use Rattle.index.proofs.LiveLineLaws.{live-deep}
use Rattle.index.proofs.PlanLaws.{hit_step, revoke-not-live, revoke_removal_broken, revoke_planned}
use Rattle.index.proofs.revoke.plan_removal.Goals as goal

pub returns-in_err-hit : goal.returns-in_err-hit
returns-in_err-hit c =
    let a = c.args in
    let p = err_from_is_err_and c.from_residual.result c.from_residual.ensures.1 in
    rw (p.1, p.2) (revoke-not-live a.pool.now _ _ (subst (LiveFound a.pool.now a.number) c.in_err-hit.was c.find_live.ensures))

pub overflow_sub-hit : goal.overflow_sub-hit
overflow_sub-hit c =
    let a = c.args in
    live-deep a.pool.now _ _ (subst (LiveFound a.pool.now a.number) c.in_ok-hit.was c.find_live.ensures)

pub find_terminal-requires : goal.find_terminal-requires
find_terminal-requires c =
    let a = c.args in
    hit_step a.pool.now _ _ (subst (LiveFound a.pool.now a.number) c.in_ok-hit.was c.find_live.ensures)

pub returns-in_err-end : goal.returns-in_err-end
returns-in_err-end c =
    let a = c.args in
    let p = err_from_is_err_and c.from_residual-in_err-end.result c.from_residual-in_err-end.ensures.1 in
    let live = subst (LiveFound a.pool.now a.number) c.in_ok-hit.was c.find_live.ensures in
    rw (p.1, p.2) (revoke_removal_broken a.pool.now _ _ live c.find_terminal.ensures c.in_err-end.was)

pub returns : goal.returns
returns c =
    let a = c.args in
    let live = subst (LiveFound a.pool.now a.number) c.in_ok-hit.was c.find_live.ensures in
    revoke_planned a.pool.now _ _ live c.find_terminal.ensures c.in_ok-end.was
