-- `remove::replace` meets its contract: its stores are those of `replaced`. Assumes nothing.
use Rattle.adt.proofs.DescentSteps.{replace_steps}
use Rattle.adt.proofs.remove.replace.Goals as goal

pub returns : goal.returns
returns c =
    replace_steps c.args.pool.now _ _ _ c.args.cut c.field-left.ensures c.field-right.ensures
    c.set_field.ensures c.set_field-2.ensures
