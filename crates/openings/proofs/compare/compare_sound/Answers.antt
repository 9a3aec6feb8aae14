-- `compare::compare_sound` meets its contract. Assumes nothing.
use mathlib.Core.Path.{ap}
use native.Mathlib.Omega.{arith}
use Rattle.model.specs.Answer.{accepted}
use Rattle.openings.proofs.CompareLaws.{comparison-few, comparison-left}
use Rattle.openings.proofs.compare.compare_sound.Goals as goal

pub overflow_sub-result : goal.overflow_sub-result
overflow_sub-result c =
    let a = c.args in
    let few = comparison-few a.door.now a.panel.now in
    omega arith

pub overflow_sub-result-2 : goal.overflow_sub-result-2
overflow_sub-result-2 c =
    let a = c.args in
    let few = comparison-few a.door.now a.panel.now in
    omega arith

pub returns : goal.returns
returns c =
    let a = c.args in
    rw (c.agreeing-agreeing.ensures, c.entries_in.ensures, c.entries_in-2.ensures)
    (ap accepted (comparison-left a.door.now a.panel.now))
