-- `load::load` meets its contract, test by test. Assumes nothing.
use Prim.Native.Nat.{ℕ}
use mathlib.Core.Path.{ap, ◌∙◌}
use native.Mathlib.Omega.{arith}
use mathlib.Core.List.{List}
use Rattle.std.proofs.lemmas.Result.{err_from_is_err_and}
use Rattle.model.specs.declared.Fault.TheVariants.{BadPool}
use Rattle.grants_file.specs.File.{grants_in}
use Rattle.grants_file.proofs.GrantSteps.{accepted-whole}
use Rattle.steps.specs.Insertions.{added_all}
use Rattle.steps.proofs.OptionSteps.{some_from_ok, none_from_err, refusal_is}
use Rattle.calls.proofs.RefusalSteps.{length_taken}
use Rattle.file_calls.proofs.LoadSteps.{load-accepted, load_bad, load_file, load_full, load_done}
use Rattle.file_calls.proofs.load.load.Goals as goal

pub returns-in_err-cells : goal.returns-in_err-cells
returns-in_err-cells c =
    let p = err_from_is_err_and c.from_residual.result c.from_residual.ensures.1 in
    rw (p.1, p.2, refusal_is c.length_capacity.result BadPool c.ok_or.ensures.value c.in_err-cells.was)
    (load_bad c.args.pool.now c.args.file.now c.length_capacity.ensures (none_from_err c.ok_or.ensures.ok_part c.in_err-cells.was))

pub returns-in-Err : goal.returns-in-Err
returns-in-Err c =
    load_file c.args.pool.now _ c.length_capacity.ensures (some_from_ok c.ok_or.ensures.ok_part c.in_ok-cells.was) c.judge.ensures c.in-Err.is

pub total_in-total-requires : goal.total_in-total-requires
total_in-total-requires c =
    let cells = some_from_ok c.ok_or.ensures.ok_part c.in_ok-cells.was in
    (accepted-whole _ (load-accepted c.args.pool.now _ c.length_capacity.ensures cells c.judge.ensures c.in_default.is)).some

pub returns-then-cells-total : goal.returns-then-cells-total
returns-then-cells-total c =
    load_full c.args.pool.now _ c.length_capacity.ensures (some_from_ok c.ok_or.ensures.ok_part c.in_ok-cells.was) c.judge.ensures c.in_default.is
    c.total_in-total.ensures.0 c.if-cells-total.true

pub make_fresh-requires : goal.make_fresh-requires
make_fresh-requires c = (length_taken c.args.pool.now c.length_capacity.ensures (some_from_ok c.ok_or.ensures.ok_part c.in_ok-cells.was)).sized

pub add_all-requires : goal.add_all-requires
add_all-requires c =
    let cells = some_from_ok c.ok_or.ensures.ok_part c.in_ok-cells.was in
    let t = length_taken c.args.pool.now c.length_capacity.ensures cells in
    record {
      sized = record { some = t.sized.some; few = t.sized.few; long = c.make_fresh.auto.pool ∙ t.sized.long };
      accepted = load-accepted c.args.pool.now _ c.length_capacity.ensures cells c.judge.ensures c.in_default.is;
      counted = c.total_in-total.ensures.0;
    }

pub returns : goal.returns
returns c =
    load_done c.args.pool.now _ c.length_capacity.ensures (some_from_ok c.ok_or.ensures.ok_part c.in_ok-cells.was) c.judge.ensures c.in_default.is
    c.total_in-total.ensures.0 c.if-cells-total.false
    (λ i. omega (arith, c.type_inv.file i))
    (c.add_all.ensures ∙ ap (λ (w : List ℕ). added_all w (grants_in c.args.file.now)) c.make_fresh.ensures)
