-- `range::range_of_number` meets its contract by computation. Assumes nothing.
use Rattle.geometry.specs.SearchRange.{range_of_number}
use mathlib.Core.Path.{refl}
use Rattle.geometry.proofs.range.range_of_number.Goals as goal

pub returns : goal.returns
unfolding range_of_number
returns c = refl
