-- `insert::insert` meets its contract: its stores are those of `inserted`. Assumes nothing.
use Rattle.adt.specs.Insert.{inserted}
use Rattle.adt.proofs.insert.insert.Goals as goal

pub returns : goal.returns
unfolding inserted
returns c = let p = c.requires in rw (c.store_grant.ensures, p.after, ← p.head)
