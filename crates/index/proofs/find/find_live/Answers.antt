-- `find::find_live` meets its contract, in the order of its line. Assumes nothing.
use Rattle.std.proofs.lemmas.Result.{err_from_is_err_and}
use Rattle.model.specs.declared.Fault.TheVariants.{BadPool, NotLive}
use Rattle.calls.proofs.RefusalSteps.{pool_refused, pool_taken}
use Rattle.steps.proofs.OptionSteps.{some_from_ok, none_from_err, refusal_is}
use Rattle.index.proofs.LiveLineLaws.{number_found, hit_read, live_pool, live_zero, live-broken, live_absent, live_at}
use Rattle.index.proofs.find.find_live.Goals as goal

pub returns-in_err-cells : goal.returns-in_err-cells
returns-in_err-cells c =
    let p = err_from_is_err_and c.from_residual.result c.from_residual.ensures.1 in
    rw (p.1, p.2, refusal_is c.capacity.result BadPool c.ok_or.ensures.value c.in_err-cells.was)
    (live_pool c.args.pool.now _ (pool_refused _ c.capacity.ensures (none_from_err c.ok_or.ensures.ok_part c.in_err-cells.was)))

pub returns-then-number-eq0 : goal.returns-then-number-eq0
returns-then-number-eq0 c =
    let t = pool_taken c.args.pool.now c.capacity.ensures (some_from_ok c.ok_or.ensures.ok_part c.in_ok-cells.was) in
    live_zero c.args.pool.now _ t.right c.if-number-eq0.true

pub find_number-requires : goal.find_number-requires
find_number-requires c = (pool_taken c.args.pool.now c.capacity.ensures (some_from_ok c.ok_or.ensures.ok_part c.in_ok-cells.was)).sized

pub returns-in_err-found : goal.returns-in_err-found
returns-in_err-found c =
    let p = err_from_is_err_and c.from_residual-in_err-found.result c.from_residual-in_err-found.ensures.1 in
    let t = pool_taken c.args.pool.now c.capacity.ensures (some_from_ok c.ok_or.ensures.ok_part c.in_ok-cells.was) in
    rw (p.1, p.2) (live-broken c.args.pool.now _ t.right c.if-number-eq0.false (number_found _ _ c.in_err-found.was c.find_number.ensures))

pub returns-in_err-hit : goal.returns-in_err-hit
returns-in_err-hit c =
    let p = err_from_is_err_and c.from_residual-in_err-hit.result c.from_residual-in_err-hit.ensures.1 in
    let t = pool_taken c.args.pool.now c.capacity.ensures (some_from_ok c.ok_or.ensures.ok_part c.in_ok-cells.was) in
    let none = none_from_err c.ok_or-2.ensures.ok_part c.in_err-hit.was in
    rw (p.1, p.2, refusal_is c.in_ok-found.found NotLive c.ok_or-2.ensures.value c.in_err-hit.was)
    (live_absent c.args.pool.now _ t.right c.if-number-eq0.false (number_found _ _ (hit_read c.in_ok-found.was none) c.find_number.ensures))

pub returns : goal.returns
returns c =
    let t = pool_taken c.args.pool.now c.capacity.ensures (some_from_ok c.ok_or.ensures.ok_part c.in_ok-cells.was) in
    let some = some_from_ok c.ok_or-2.ensures.ok_part c.in_ok-hit.was in
    live_at c.args.pool.now _ t.right c.if-number-eq0.false t.sized _ (number_found _ _ (hit_read c.in_ok-found.was some) c.find_number.ensures)
