-- `remove::raise` meets its contract: its stores are those of `raised`. Assumes nothing.
use Rattle.adt.proofs.DescentSteps.{raise_steps}
use Rattle.adt.proofs.remove.raise.Goals as goal

pub returns : goal.returns
returns c =
    raise_steps c.args.pool.now _ _ c.field-left.ensures c.field-right.ensures c.field-parent.ensures
    c.set_field.ensures c.reparent.ensures c.reparent-2.ensures
