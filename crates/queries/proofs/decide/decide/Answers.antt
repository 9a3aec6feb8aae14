-- `decide::decide` meets its contract, test by test. Assumes nothing.
use Rattle.std.proofs.Common.{arith, refl, sym, ◌∙◌}
use Rattle.std.proofs.lemmas.Result.{err_from_is_err_and}
use Rattle.model.specs.declared.Fault.TheVariants.{BadPool}
use Rattle.model.proofs.QuarterLaws.{coverable-below}
use Rattle.calls.proofs.RefusalSteps.{pool_taken}
use Rattle.steps.proofs.HitsLaws.{found-cells, found-room, found_long}
use Rattle.steps.proofs.OptionSteps.{some_from_ok, none_from_err, refusal_is}
use Rattle.queries.proofs.DecideSteps.{decide_bad, decide_late, decide-broken, decide_done}
use Rattle.queries.proofs.decide.decide.Goals as goal

pub returns-in_err-cells : goal.returns-in_err-cells
returns-in_err-cells c =
    let a = c.args in
    let p = err_from_is_err_and c.from_residual.result c.from_residual.ensures.1 in
    rw (p.1, p.2, refusal_is c.capacity.result BadPool c.ok_or.ensures.value c.in_err-cells.was)
    (decide_bad a.pool.now a.staff a.door a.quarter c.capacity.ensures (none_from_err c.ok_or.ensures.ok_part c.in_err-cells.was))

pub returns-then-not-is_coverable : goal.returns-then-not-is_coverable
returns-then-not-is_coverable c =
    let a = c.args in
    decide_late a.pool.now a.staff a.door a.quarter c.capacity.ensures (some_from_ok c.ok_or.ensures.ok_part c.in_ok-cells.was)
    (sym c.is_coverable.ensures ∙ c.if-not-is_coverable.true)

pub point_box-point-requires : goal.point_box-point-requires
point_box-point-requires c = coverable-below _ (sym c.is_coverable.ensures ∙ c.if-not-is_coverable.false)

pub find_taken-requires : goal.find_taken-requires
find_taken-requires c =
    let t = pool_taken _ c.capacity.ensures (some_from_ok c.ok_or.ensures.ok_part c.in_ok-cells.was) in
    record { sized = t.sized; some = rw c.point_box-point.ensures (omega arith); room = refl }

pub returns-in_err-found : goal.returns-in_err-found
returns-in_err-found c =
    let a = c.args in
    let p = err_from_is_err_and c.from_residual-in_err-found.result c.from_residual-in_err-found.ensures.1 in
    rw (p.1, p.2)
    (decide-broken a.pool.now a.staff a.door a.quarter c.capacity.ensures (some_from_ok c.ok_or.ensures.ok_part c.in_ok-cells.was)
    (sym c.is_coverable.ensures ∙ c.if-not-is_coverable.false)
    c.point_box-point.ensures _ c.find_taken.ensures c.in_err-found.was)

pub slice_bounds-hits-end : goal.slice_bounds-hits-end
slice_bounds-hits-end c = found-room _ _ _ _ c.find_taken.ensures c.in_ok-found.was

pub slice_bounds-hits-end-2 : goal.slice_bounds-hits-end-2
slice_bounds-hits-end-2 c = found_long _ _ _ _ c.find_taken.ensures c.in_ok-found.was

pub decide_among-requires : goal.decide_among-requires
decide_among-requires c = found-cells _ _ _ _ c.find_taken.ensures c.in_ok-found.was

pub returns : goal.returns
returns c =
    let a = c.args in
    decide_done a.pool.now a.staff a.door a.quarter c.capacity.ensures (some_from_ok c.ok_or.ensures.ok_part c.in_ok-cells.was)
    (sym c.is_coverable.ensures ∙ c.if-not-is_coverable.false)
    c.point_box-point.ensures _ c.find_taken.ensures c.in_ok-found.was c.decide_among.ensures
