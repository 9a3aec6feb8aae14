-- `region::half_meets` meets its contract, side by side. Assumes nothing.
use mathlib.Core.Path.{sym}
use Rattle.geometry.proofs.HalfLaws.{meets-left, meets_right}
use Rattle.geometry.proofs.region.half_meets.Goals as goal

pub returns-in-Left : goal.returns-in-Left
returns-in-Left c =
    let p = c.requires in
    rw (c.in-Left.is, c.lower_end.ensures) (sym (meets-left p))

pub returns-in-Right : goal.returns-in-Right
returns-in-Right c =
    let p = c.requires in
    rw (c.in-Right.is, c.upper_start.ensures) (sym (meets_right p))
