-- `grant::plan_insertion` meets its contract, in the order of grant's line. Assumes nothing.
use Rattle.std.proofs.Common.{subst}
use Rattle.std.proofs.lemmas.Result.{err_from_is_err_and}
use Rattle.model.specs.declared.Fault.TheVariants.{BadPool}
use Rattle.model.specs.declared.Grant.{Grant}
use Rattle.model.specs.Call.{request, request_of}
use Rattle.calls.proofs.RefusalSteps.{pool_refused, pool_taken}
use Rattle.steps.specs.Insertions.{SlotPlanned}
use Rattle.steps.proofs.InsertionLaws.{planned_request}
use Rattle.steps.proofs.OptionSteps.{some_from_ok, none_from_err, refusal_is}
use Rattle.index.proofs.LiveLineLaws.{number_found, hit_read}
use Rattle.index.proofs.PlanLaws.{grant_pool, grant_wrong, grant-broken, grant-live, grant_absent}
use Rattle.index.proofs.grant.plan_insertion.Goals as goal

pub returns-in_err-cells : goal.returns-in_err-cells
returns-in_err-cells c =
    let a = c.args in
    let p = err_from_is_err_and c.from_residual.result c.from_residual.ensures.1 in
    rw (p.1, p.2, refusal_is c.capacity.result BadPool c.ok_or.ensures.value c.in_err-cells.was)
    (grant_pool a.pool.now (request a.number a.rank a.kind a.bounds)
    (pool_refused _ c.capacity.ensures (none_from_err c.ok_or.ensures.ok_part c.in_err-cells.was)))

pub returns-in_err-check_request : goal.returns-in_err-check_request
returns-in_err-check_request c =
    let a = c.args in
    let p = err_from_is_err_and c.from_residual-in_err-check_request.result c.from_residual-in_err-check_request.ensures.1 in
    let t = pool_taken a.pool.now c.capacity.ensures (some_from_ok c.ok_or.ensures.ok_part c.in_ok-cells.was) in
    rw p.1 (grant_wrong a.pool.now (request a.number a.rank a.kind a.bounds) t.right c.check_request.ensures c.in_err-check_request.was p.2)

pub find_number-requires : goal.find_number-requires
find_number-requires c = (pool_taken c.args.pool.now c.capacity.ensures (some_from_ok c.ok_or.ensures.ok_part c.in_ok-cells.was)).sized

pub returns-in_err-find_number : goal.returns-in_err-find_number
returns-in_err-find_number c =
    let a = c.args in
    let p = err_from_is_err_and c.from_residual-in_err-find_number.result c.from_residual-in_err-find_number.ensures.1 in
    let t = pool_taken a.pool.now c.capacity.ensures (some_from_ok c.ok_or.ensures.ok_part c.in_ok-cells.was) in
    rw (p.1, p.2)
    (grant-broken a.pool.now (request a.number a.rank a.kind a.bounds) t.right c.check_request.ensures c.in_ok-check_request.was
    (number_found _ _ c.in_err-find_number.was c.find_number.ensures))

pub returns-in-Some : goal.returns-in-Some
returns-in-Some c =
    let a = c.args in
    let t = pool_taken a.pool.now c.capacity.ensures (some_from_ok c.ok_or.ensures.ok_part c.in_ok-cells.was) in
    grant-live a.pool.now (request a.number a.rank a.kind a.bounds) t.right c.check_request.ensures c.in_ok-check_request.was _
    (number_found _ _ (hit_read c.in_ok-find_number.was c.in-Some.is) c.find_number.ensures)

pub plan_slot-requires : goal.plan_slot-requires
plan_slot-requires c = (pool_taken c.args.pool.now c.capacity.ensures (some_from_ok c.ok_or.ensures.ok_part c.in_ok-cells.was)).sized

pub returns : goal.returns
returns c =
    let a = c.args in
    let t = pool_taken a.pool.now c.capacity.ensures (some_from_ok c.ok_or.ensures.ok_part c.in_ok-cells.was) in
    grant_absent a.pool.now (request a.number a.rank a.kind a.bounds) t.right c.check_request.ensures c.in_ok-check_request.was
    (number_found _ _ (hit_read c.in_ok-find_number.was c.in_default.is) c.find_number.ensures) _
    (planned_request a.pool.now (request a.number a.rank a.kind a.bounds) _
    (subst (λ (g : Grant). SlotPlanned a.pool.now (request_of g) c.plan_slot.result) c.requested.ensures c.plan_slot.ensures))
