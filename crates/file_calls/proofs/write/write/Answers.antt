-- `write::write` meets its contract, test by test. Assumes nothing.
use Prim.Native.Nat.{ℕ, ◌*◌}
use mathlib.Core.Path.{refl, sym, ap, subst, ◌∙◌}
use native.Mathlib.Omega.{arith}
use lib.ListN.{length}
use lib.Seq.{length-take-le}
use Rattle.lists.proofs.SortLaws.{length-sort_by}
use Rattle.std.proofs.lemmas.Result.{err_from_is_err_and}
use Rattle.model.specs.declared.Fault.TheVariants.{BadPool}
use Rattle.calls.proofs.RefusalSteps.{pool_taken}
use Rattle.steps.proofs.HitsLaws.{found-cells, found-room, found_long}
use Rattle.steps.proofs.OptionSteps.{some_from_ok, none_from_err, refusal_is}
use Rattle.file_calls.proofs.WriteSteps.{write_bad, write-reversed, write-broken, write_short, write_done}
use Rattle.geometry.specs.SearchRange.{OneSided}
use Rattle.geometry.proofs.SearchRangeLaws.{doors_one_sided}
use Rattle.file_calls.proofs.write.write.Goals as goal

pub returns-in_err-cells : goal.returns-in_err-cells
returns-in_err-cells c =
    let p = err_from_is_err_and c.from_residual.result c.from_residual.ensures.1 in
    rw (p.1, p.2, refusal_is c.capacity.result BadPool c.ok_or.ensures.value c.in_err-cells.was)
    (write_bad c.args.pool.now _ c.args.bytes.now c.capacity.ensures (none_from_err c.ok_or.ensures.ok_part c.in_err-cells.was))

pub returns-then-door_to-door_from : goal.returns-then-door_to-door_from
returns-then-door_to-door_from c =
    write-reversed c.args.pool.now _ c.args.bytes.now c.capacity.ensures (some_from_ok c.ok_or.ensures.ok_part c.in_ok-cells.was)
    c.if-door_to-door_from.true

pub find_hits-requires : goal.find_hits-requires
find_hits-requires c =
    let t = pool_taken _ c.capacity.ensures (some_from_ok c.ok_or.ensures.ok_part c.in_ok-cells.was) in
    let range = c.range_of_doors-range.ensures in
    record { sized = t.sized; one_sided = subst OneSided (sym range) (doors_one_sided _); room = refl }

pub returns-in_default : goal.returns-in_default
returns-in_default c =
    write-broken c.args.pool.now _ c.args.bytes.now c.capacity.ensures (some_from_ok c.ok_or.ensures.ok_part c.in_ok-cells.was)
    c.if-door_to-door_from.false c.range_of_doors-range.ensures _ c.find_hits.ensures c.in_default.is

pub blocks_for-needed-requires : goal.blocks_for-needed-requires
blocks_for-needed-requires c =
    let at = found-cells _ _ _ _ c.find_hits.ensures c.in-Ok.is in
    let long = found_long _ _ _ _ c.find_hits.ensures c.in-Ok.is in
    omega (arith, at.few, long)

pub overflow_mul-needed : goal.overflow_mul-needed
overflow_mul-needed c =
    let at = found-cells _ _ _ _ c.find_hits.ensures c.in-Ok.is in
    let long = found_long _ _ _ _ c.find_hits.ensures c.in-Ok.is in
    omega (arith, c.blocks_for-needed.ensures, at.few, long)

pub returns-then-bytes-needed : goal.returns-then-bytes-needed
returns-then-bytes-needed c =
    write_short c.args.pool.now _ c.args.bytes.now c.capacity.ensures (some_from_ok c.ok_or.ensures.ok_part c.in_ok-cells.was)
    c.if-door_to-door_from.false c.range_of_doors-range.ensures _ c.find_hits.ensures c.in-Ok.is
    (ap (λ (k : ℕ). 512 * k) c.blocks_for-needed.ensures) c.if-bytes-needed.true

pub slice_bounds-sorted-end : goal.slice_bounds-sorted-end
slice_bounds-sorted-end c =
    let at = found-cells _ _ _ _ c.find_hits.ensures c.in-Ok.is in
    let long = found_long _ _ _ _ c.find_hits.ensures c.in-Ok.is in
    omega (arith, at.few, long)

pub slice_bounds-sorted-end-2 : goal.slice_bounds-sorted-end-2
slice_bounds-sorted-end-2 c =
    let at = found-cells _ _ _ _ c.find_hits.ensures c.in-Ok.is in
    let long = found_long _ _ _ _ c.find_hits.ensures c.in-Ok.is in
    sym (length-take-le _ _ (omega (arith, at.few, long)))

pub slice_bounds-hits-end : goal.slice_bounds-hits-end
slice_bounds-hits-end c = found-room _ _ _ _ c.find_hits.ensures c.in-Ok.is

pub slice_bounds-sort_cells-end : goal.slice_bounds-sort_cells-end
slice_bounds-sort_cells-end c = found_long _ _ _ _ c.find_hits.ensures c.in-Ok.is

pub sort_cells-requires : goal.sort_cells-requires
sort_cells-requires c =
    let at = found-cells _ _ _ _ c.find_hits.ensures c.in-Ok.is in
    let long = found_long _ _ _ _ c.find_hits.ensures c.in-Ok.is in
    (at, length-take-le _ _ (omega (arith, at.few, long)) ∙ long)

pub write_file-requires : goal.write_file-requires
write_file-requires c =
    let long = found_long _ _ _ _ c.find_hits.ensures c.in-Ok.is in
    let size = ap length c.sort_cells.ensures.0 ∙ length-sort_by _ _ in
    (c.sort_cells.ensures.1, omega (arith, size, long, c.blocks_for-needed.ensures, c.if-bytes-needed.false))

pub returns : goal.returns
returns c =
    write_done c.args.pool.now _ c.args.bytes.now c.capacity.ensures (some_from_ok c.ok_or.ensures.ok_part c.in_ok-cells.was)
    c.if-door_to-door_from.false c.range_of_doors-range.ensures _ c.find_hits.ensures c.in-Ok.is
    (ap (λ (k : ℕ). 512 * k) c.blocks_for-needed.ensures) c.if-bytes-needed.false c.sort_cells.ensures.0 c.write_file.ensures
