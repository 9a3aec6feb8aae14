-- `range::range_of_doors` meets its contract by computation. Assumes nothing.
use Rattle.geometry.specs.SearchRange.{range_of_doors}
use mathlib.Core.Path.{refl}
use Rattle.geometry.proofs.range.range_of_doors.Goals as goal

pub returns : goal.returns
unfolding range_of_doors
returns c = refl
