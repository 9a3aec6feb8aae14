-- `layout::capacity` meets its contract, test by test. Assumes nothing.
use Rattle.pool.proofs.CapacitySteps.{length_header, pool_none, pool_other, pool_right}
use native.Mathlib.Omega.{arith}
use Rattle.pool.proofs.layout.capacity.Goals as goal

pub returns-in_err-cells : goal.returns-in_err-cells
returns-in_err-cells c = rw c.from_residual.ensures (pool_none _ c.in_err-cells.ensures)

pub bounds-pool-0 : goal.bounds-pool-0
bounds-pool-0 c = omega (arith, length_header _ c.in_ok-cells.ensures)

pub returns-then-from-cells : goal.returns-then-from-cells
returns-then-from-cells c = pool_other _ c.in_ok-cells.ensures c.from.ensures c.if-from-cells.true

pub returns : goal.returns
returns c = pool_right _ c.in_ok-cells.ensures c.from.ensures c.if-from-cells.false
