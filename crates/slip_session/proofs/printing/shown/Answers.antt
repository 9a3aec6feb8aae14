-- `printing::shown` meets its contract. Assumes nothing.
use native.Mathlib.Omega.{arith}
use Rattle.model.specs.Limits.{max_grants}
use Rattle.slip_session.proofs.TextLaws.{take-least}
use Rattle.slip_session.proofs.printing.shown.Goals as goal

pub returns : goal.returns
returns c =
    let e = c.min.ensures in
    let f = c.min-2.ensures in
    let a = c.args in
    (rw (f, e) (take-least a.written max_grants a.numbers.now), omega (arith, f), omega (arith, e, f))
