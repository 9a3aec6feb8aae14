-- `matching::match_file` meets its contract, test by test. Assumes nothing.
use mathlib.Core.Path.{refl, sym, subst, ◌∙◌}
use native.Mathlib.Omega.{arith}
use lib.Seq.{length-take-le}
use Rattle.std.proofs.lemmas.Result.{err_from_is_err_and}
use Rattle.model.specs.declared.Fault.TheVariants.{BadPool}
use Rattle.grants_file.proofs.GrantSteps.{accepted-whole}
use Rattle.steps.proofs.HitsLaws.{found-cells, found-room, found_long}
use Rattle.steps.proofs.OptionSteps.{some_from_ok, none_from_err, refusal_is}
use Rattle.calls.proofs.RefusalSteps.{pool_taken}
use Rattle.file_calls.proofs.MatchSteps.{file_taken, match_bad, match_file, match_broken, match_done}
use Rattle.geometry.specs.SearchRange.{OneSided}
use Rattle.geometry.proofs.SearchRangeLaws.{doors_one_sided}
use Rattle.file_calls.proofs.matching.match_file.Goals as goal

pub returns-in_err-cells : goal.returns-in_err-cells
returns-in_err-cells c =
    let p = err_from_is_err_and c.from_residual.result c.from_residual.ensures.1 in
    rw (p.1, p.2, refusal_is c.capacity.result BadPool c.ok_or.ensures.value c.in_err-cells.was)
    (match_bad c.args.pool.now c.args.file.now c.capacity.ensures (none_from_err c.ok_or.ensures.ok_part c.in_err-cells.was))

pub returns-in_err-judge : goal.returns-in_err-judge
returns-in_err-judge c =
    let p = err_from_is_err_and c.from_residual-in_err-judge.result c.from_residual-in_err-judge.ensures.1 in
    rw (p.1, p.2)
    (match_file c.args.pool.now c.args.file.now c.capacity.ensures (some_from_ok c.ok_or.ensures.ok_part c.in_ok-cells.was) c.judge.ensures
    c.in_err-judge.was)

pub doors_in-doors-requires : goal.doors_in-doors-requires
doors_in-doors-requires c = (accepted-whole _ (file_taken _ c.judge.ensures c.in_ok-judge.was)).some

pub find_hits-requires : goal.find_hits-requires
find_hits-requires c =
    let t = pool_taken _ c.capacity.ensures (some_from_ok c.ok_or.ensures.ok_part c.in_ok-cells.was) in
    let range = c.range_of_doors-range.ensures in
    record { sized = t.sized; one_sided = subst OneSided (sym range) (doors_one_sided _); room = refl }

pub returns-in_err-found : goal.returns-in_err-found
returns-in_err-found c =
    let p = err_from_is_err_and c.from_residual-in_err-found.result c.from_residual-in_err-found.ensures.1 in
    rw (p.1, p.2)
    (match_broken c.args.pool.now c.args.file.now c.capacity.ensures (some_from_ok c.ok_or.ensures.ok_part c.in_ok-cells.was)
    (file_taken _ c.judge.ensures c.in_ok-judge.was) c.doors_in-doors.ensures c.range_of_doors-range.ensures _ c.find_hits.ensures c.in_err-found.was)

pub slice_bounds-sorted-end : goal.slice_bounds-sorted-end
slice_bounds-sorted-end c =
    let at = found-cells _ _ _ _ c.find_hits.ensures c.in_ok-found.was in
    let long = found_long _ _ _ _ c.find_hits.ensures c.in_ok-found.was in
    omega (arith, at.few, long)

pub slice_bounds-sorted-end-2 : goal.slice_bounds-sorted-end-2
slice_bounds-sorted-end-2 c =
    let at = found-cells _ _ _ _ c.find_hits.ensures c.in_ok-found.was in
    let long = found_long _ _ _ _ c.find_hits.ensures c.in_ok-found.was in
    sym (length-take-le _ _ (omega (arith, at.few, long)))

pub slice_bounds-hits-end : goal.slice_bounds-hits-end
slice_bounds-hits-end c = found-room _ _ _ _ c.find_hits.ensures c.in_ok-found.was

pub slice_bounds-sort_cells-end : goal.slice_bounds-sort_cells-end
slice_bounds-sort_cells-end c = found_long _ _ _ _ c.find_hits.ensures c.in_ok-found.was

pub sort_cells-requires : goal.sort_cells-requires
sort_cells-requires c =
    let at = found-cells _ _ _ _ c.find_hits.ensures c.in_ok-found.was in
    let long = found_long _ _ _ _ c.find_hits.ensures c.in_ok-found.was in
    (at, length-take-le _ _ (omega (arith, at.few, long)) ∙ long)

pub first_difference-requires : goal.first_difference-requires
first_difference-requires c = (c.sort_cells.ensures.1, file_taken _ c.judge.ensures c.in_ok-judge.was)

pub returns : goal.returns
returns c =
    match_done c.args.pool.now c.args.file.now c.capacity.ensures (some_from_ok c.ok_or.ensures.ok_part c.in_ok-cells.was)
    (file_taken _ c.judge.ensures c.in_ok-judge.was) c.doors_in-doors.ensures c.range_of_doors-range.ensures _ c.find_hits.ensures
    c.in_ok-found.was c.sort_cells.ensures.0 c.first_difference.ensures
