-- `start::start` meets its contract. Assumes nothing.
use Rattle.std.proofs.lemmas.Result.{err_from_is_err_and}
use Rattle.model.specs.declared.Fault.TheVariants.{BadPool}
use Rattle.calls.proofs.RefusalSteps.{length-refused, length_taken}
use Rattle.steps.proofs.OptionSteps.{some_from_ok, none_from_err, refusal_is}
use Rattle.index.proofs.PlanLaws.{start-refused, start_done}
use Rattle.index.proofs.start.start.Goals as goal

pub returns-in_err-cells : goal.returns-in_err-cells
returns-in_err-cells c =
    let p = err_from_is_err_and c.from_residual.result c.from_residual.ensures.1 in
    rw (p.1, p.2, refusal_is c.length_capacity.result BadPool c.ok_or.ensures.value c.in_err-cells.was)
    (start-refused _ (length-refused _ c.length_capacity.ensures (none_from_err c.ok_or.ensures.ok_part c.in_err-cells.was)))

pub make_fresh-requires : goal.make_fresh-requires
make_fresh-requires c = (length_taken c.args.pool.now c.length_capacity.ensures (some_from_ok c.ok_or.ensures.ok_part c.in_ok-cells.was)).sized

pub returns : goal.returns
returns c =
    let t = length_taken c.args.pool.now c.length_capacity.ensures (some_from_ok c.ok_or.ensures.ok_part c.in_ok-cells.was) in
    start_done _ t.right t.sized c.make_fresh.ensures
