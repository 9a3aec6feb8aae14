-- `list::list` meets its contract, test by test. Assumes nothing.
use Rattle.std.proofs.Common.{refl, sym, ◌∙◌}
use Rattle.std.proofs.Math.Seq.{length-take-le}
use Rattle.std.proofs.lemmas.Result.{err_from_is_err_and}
use Rattle.model.specs.declared.Fault.TheVariants.{BadPool}
use Rattle.model.proofs.QuarterLaws.{forward_quarters}
use Rattle.calls.proofs.RefusalSteps.{pool_taken}
use Rattle.steps.proofs.HitsLaws.{found-cells, found-room, found_long}
use Rattle.steps.proofs.OptionSteps.{some_from_ok, none_from_err, refusal_is}
use Rattle.queries.proofs.ListSteps.{list_bad, list-reversed, list-broken, list_short, list_done}
use Rattle.queries.proofs.list.list.Goals as goal

pub returns-in_err-cells : goal.returns-in_err-cells
returns-in_err-cells c =
    let a = c.args in
    let p = err_from_is_err_and c.from_residual.result c.from_residual.ensures.1 in
    rw (p.1, p.2, refusal_is c.capacity.result BadPool c.ok_or.ensures.value c.in_err-cells.was)
    (list_bad a.pool.now a.bounds a.choice a.list.now c.capacity.ensures (none_from_err c.ok_or.ensures.ok_part c.in_err-cells.was))

pub returns-then-is_reversed : goal.returns-then-is_reversed
returns-then-is_reversed c =
    let a = c.args in
    list-reversed a.pool.now a.bounds a.choice a.list.now c.capacity.ensures (some_from_ok c.ok_or.ensures.ok_part c.in_ok-cells.was)
    c.is_reversed.ensures c.if-is_reversed.true

pub find_taken-requires : goal.find_taken-requires
find_taken-requires c =
    let t = pool_taken _ c.capacity.ensures (some_from_ok c.ok_or.ensures.ok_part c.in_ok-cells.was) in
    record { sized = t.sized; some = forward_quarters _ (sym c.is_reversed.ensures ∙ c.if-is_reversed.false); room = refl }

pub returns-in_err-found : goal.returns-in_err-found
returns-in_err-found c =
    let a = c.args in
    let p = err_from_is_err_and c.from_residual-in_err-found.result c.from_residual-in_err-found.ensures.1 in
    rw (p.1, p.2)
    (list-broken a.pool.now a.bounds a.choice a.list.now c.capacity.ensures (some_from_ok c.ok_or.ensures.ok_part c.in_ok-cells.was)
    c.is_reversed.ensures c.if-is_reversed.false _ c.find_taken.ensures c.in_err-found.was)

pub returns-then-list-found : goal.returns-then-list-found
returns-then-list-found c =
    let a = c.args in
    list_short a.pool.now a.bounds a.choice a.list.now c.capacity.ensures (some_from_ok c.ok_or.ensures.ok_part c.in_ok-cells.was)
    c.is_reversed.ensures c.if-is_reversed.false _ c.find_taken.ensures c.in_ok-found.was c.if-list-found.true

pub slice_bounds-hits-end : goal.slice_bounds-hits-end
slice_bounds-hits-end c = found-room _ _ _ _ c.find_taken.ensures c.in_ok-found.was

pub slice_bounds-hits-end-2 : goal.slice_bounds-hits-end-2
slice_bounds-hits-end-2 c = found_long _ _ _ _ c.find_taken.ensures c.in_ok-found.was

pub write_numbers-requires : goal.write_numbers-requires
write_numbers-requires c = (
  found-cells _ _ _ _ c.find_taken.ensures c.in_ok-found.was,
  length-take-le _ _ c.if-list-found.false ∙ found_long _ _ _ _ c.find_taken.ensures c.in_ok-found.was,
)

pub returns : goal.returns
returns c =
    let a = c.args in
    list_done a.pool.now a.bounds a.choice a.list.now c.capacity.ensures (some_from_ok c.ok_or.ensures.ok_part c.in_ok-cells.was)
    c.is_reversed.ensures c.if-is_reversed.false _ c.find_taken.ensures c.in_ok-found.was
    c.if-list-found.false c.write_numbers.ensures
