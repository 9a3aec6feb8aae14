-- `remove::free` meets its contract: its stores are those of `freed`. Assumes nothing.
use Rattle.adt.specs.Remove.{freed}
use Rattle.adt.proofs.remove.free.Goals as goal

pub returns : goal.returns
unfolding freed
returns c = rw c.store_free.ensures
