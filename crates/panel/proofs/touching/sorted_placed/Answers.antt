-- `touching::sorted_placed` meets its contract. Assumes nothing.
use Rattle.panel.proofs.PlacedLaws.{placed-sorted}
use Rattle.panel.proofs.touching.sorted_placed.Goals as goal

pub returns : goal.returns
returns c = placed-sorted c.args.pool.now c.args.hits.now c.args.i c.sort_cells.ensures.0 c.placed.ensures
