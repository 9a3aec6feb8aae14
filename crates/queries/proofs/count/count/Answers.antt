-- `count::count` meets its contract, test by test. Assumes nothing.
use Rattle.std.proofs.Common.{refl, sym, subst}
use Rattle.std.proofs.lemmas.Result.{err_from_is_err_and}
use Rattle.model.specs.declared.Fault.TheVariants.{BadPool}
use Rattle.geometry.specs.SearchRange.{OneSided}
use Rattle.geometry.proofs.SearchRangeLaws.{all_one_sided}
use Rattle.calls.proofs.RefusalSteps.{pool_taken}
use Rattle.steps.proofs.OptionSteps.{some_from_ok, none_from_err, refusal_is}
use Rattle.queries.proofs.CountSteps.{count_bad, count-broken, count-few, count_done}
use Rattle.queries.proofs.count.count.Goals as goal

pub returns-in_err-cells : goal.returns-in_err-cells
returns-in_err-cells c =
    let p = err_from_is_err_and c.from_residual.result c.from_residual.ensures.1 in
    rw (p.1, p.2, refusal_is c.capacity.result BadPool c.ok_or.ensures.value c.in_err-cells.was)
    (count_bad c.args.pool.now c.capacity.ensures (none_from_err c.ok_or.ensures.ok_part c.in_err-cells.was))

pub find_hits-requires : goal.find_hits-requires
find_hits-requires c =
    let t = pool_taken _ c.capacity.ensures (some_from_ok c.ok_or.ensures.ok_part c.in_ok-cells.was) in
    record { sized = t.sized; one_sided = subst OneSided (sym c.root_region-everything.ensures) all_one_sided; room = refl }

pub returns-in_err-live : goal.returns-in_err-live
returns-in_err-live c =
    let p = err_from_is_err_and c.from_residual-in_err-live.result c.from_residual-in_err-live.ensures.1 in
    rw (p.1, p.2)
    (count-broken c.args.pool.now c.capacity.ensures (some_from_ok c.ok_or.ensures.ok_part c.in_ok-cells.was)
    c.root_region-everything.ensures _ c.find_hits.ensures c.in_err-live.was)

pub overflow_sub-result : goal.overflow_sub-result
overflow_sub-result c =
    count-few c.args.pool.now c.capacity.ensures (some_from_ok c.ok_or.ensures.ok_part c.in_ok-cells.was)
    c.root_region-everything.ensures _ c.find_hits.ensures c.in_ok-live.was

pub returns : goal.returns
returns c =
    count_done c.args.pool.now c.capacity.ensures (some_from_ok c.ok_or.ensures.ok_part c.in_ok-cells.was)
    c.root_region-everything.ensures _ c.find_hits.ensures c.in_ok-live.was
