-- `cell::bounds_at` meets its contract, field by field. Assumes nothing.
use Rattle.pool.specs.Cell.{grant_at}
use Rattle.pool.proofs.cell.bounds_at.Goals as goal

pub returns : goal.returns
unfolding grant_at
returns c =
    rw (
      c.field.ensures,
      c.field-2.ensures,
      c.field-3.ensures,
      c.field-4.ensures,
      c.field-5.ensures,
      c.field-6.ensures,
    )
