-- `remove::reparent` meets its contract: a blank link, one above C, and one to a cell. Assumes nothing.
use Rattle.adt.proofs.DescentSteps.{reparent_none, reparent_above, reparent_stored}
use Rattle.pool.proofs.CapacityLaws.{capacity_of-pool_length}
use native.Mathlib.Omega.{arith}
use Rattle.adt.proofs.remove.reparent.Goals as goal
use Rattle.adt.proofs.remove.reparent.Goals.{else-j-gt0-via-then-j-gt0+else-j-cells, else-j-gt0-via-else-j-gt0}

pub returns-then-j-cells : goal.returns-then-j-cells
returns-then-j-cells c =
    let cap = capacity_of-pool_length _ _ c.requires.long in
    reparent_stored _ cap c.from-j.ensures _ (λ e. omega arith) c.if-j-cells.true c.set_field.ensures

pub returns-else-j-gt0 : goal.returns-else-j-gt0
returns-else-j-gt0 c =
    let cap = capacity_of-pool_length _ _ c.requires.long in
    elim c.else-j-gt0.branch [
      | else-j-gt0-via-then-j-gt0+else-j-cells w ↦ reparent_above _ cap c.from-j.ensures _ (λ e. omega arith) w.if-j-cells.false
      | else-j-gt0-via-else-j-gt0 w ↦ reparent_none _ cap c.from-j.ensures _ (omega arith)
    ]
