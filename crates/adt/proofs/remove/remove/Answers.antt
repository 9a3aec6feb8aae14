-- `remove::remove` meets its contract, for a terminal cell and for another. Assumes nothing.
use mathlib.Core.Path.{ap, ◌∙◌}
use mathlib.Core.List.{List}
use Prim.Native.Nat.{ℕ}
use Rattle.adt.specs.Remove.{freed, removed}
use Rattle.adt.proofs.DescentSteps.{unlink-terminal, unlink_other}
use Rattle.adt.proofs.remove.remove.Goals as goal
use Rattle.adt.proofs.remove.remove.Goals.{then-leaf-k, else-leaf-k}

pub returns : goal.returns
unfolding removed
returns c =
    let a = c.args in
    c.free.ensures
    ∙ ap (λ (v : List ℕ). freed v a.k)
    (elim c.if-leaf-k.branch [
      | then-leaf-k w ↦ unlink-terminal a.pool.now a.k a.link a.leaf a.cut w.if-leaf-k.true w.pool-is
      | else-leaf-k w ↦
          unlink_other a.pool.now a.k a.link a.leaf a.cut w.if-leaf-k.false w.replace.ensures (w.pool-is ∙ w.raise.ensures)
    ])
