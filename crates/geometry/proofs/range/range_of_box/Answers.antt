-- `range::range_of_box` meets its contract by computation: neither end runs over, as the box covers a quarter. Assumes nothing.
use Rattle.geometry.specs.SearchRange.{range_of_box}
use mathlib.Core.Path.{refl}
use native.Mathlib.Omega.{arith}
use Rattle.geometry.proofs.range.range_of_box.Goals as goal

pub overflow_sub-quarter_from : goal.overflow_sub-quarter_from
overflow_sub-quarter_from c = omega arith

pub returns : goal.returns
unfolding range_of_box
returns c = refl
