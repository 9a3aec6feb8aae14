-- `layout::set_field` meets its contract. Assumes nothing.

use Rattle.pool.proofs.layout.set_field.Goals as goal

pub returns : goal.returns
returns c = rw c.place_of-at.ensures.0
