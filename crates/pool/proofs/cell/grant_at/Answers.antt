-- `cell::grant_at` meets its contract, field by field. Assumes nothing.
use Rattle.pool.specs.Cell.{grant_at}
use Rattle.pool.proofs.cell.grant_at.Goals as goal

pub returns : goal.returns
unfolding grant_at
returns c = rw (c.bounds_at.ensures, c.of.ensures, c.field.ensures, c.field-rank_kind.ensures)
