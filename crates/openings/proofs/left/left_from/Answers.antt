use native.Mathlib.Omega.{arith}
use Rattle.openings.proofs.FirstLaws.{first_here, first_next, first-end}
use Rattle.openings.proofs.LeftLaws.{left_from-none, left_from-at}
use Rattle.openings.proofs.left.left_from.Goals as goal

pub returns-then-is_left : goal.returns-then-is_left
returns-then-is_left c =
    let a = c.args in
    let here = first_here _ _ _ _ c.loop-place.invariant (omega arith) c.is_left.ensures c.if-is_left.true in
    rw (c.opening_of.ensures, c.entry_at.ensures, here) (left_from-at a.bytes.now a.other.now a.from (rw (← here) (omega arith)))

pub loop-place-preserved : goal.loop-place-preserved
loop-place-preserved c = first_next _ _ _ _ c.loop-place.invariant (omega arith) c.is_left.ensures c.if-is_left.false

pub returns : goal.returns
returns c =
    let a = c.args in
    let end = first-end _ _ _ _ c.loop-place.invariant (omega arith) in
    left_from-none a.bytes.now a.other.now a.from (omega (arith, end))
