-- `layout::field` meets its contract. Assumes nothing.
use Rattle.pool.specs.Layout.{field_of}
use Rattle.pool.proofs.layout.field.Goals as goal

pub returns : goal.returns
unfolding field_of
returns c = rw c.place_of.ensures.0
