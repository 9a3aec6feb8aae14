-- `layout::length_capacity` meets its contract, test by test. Assumes nothing.
use Rattle.pool.proofs.CapacitySteps.{length_short, length_many, length_odd, length_right}
use Rattle.pool.proofs.layout.length_capacity.Goals as goal

pub returns-then-n : goal.returns-then-n
returns-then-n c = length_short _ c.if-n.true

pub returns-then-cells-gt-MAX_CAPACITY : goal.returns-then-cells-gt-MAX_CAPACITY
returns-then-cells-gt-MAX_CAPACITY c = length_many _ c.if-cells-gt-MAX_CAPACITY.true

pub returns-then-n-cells : goal.returns-then-n-cells
returns-then-n-cells c = length_odd _ c.if-n.false c.if-cells-gt-MAX_CAPACITY.false c.if-n-cells.true

pub returns : goal.returns
returns c = length_right _ c.if-n.false c.if-cells-gt-MAX_CAPACITY.false c.if-n-cells.false
