-- `part::records_part` meets its contract. Assumes nothing.
use mathlib.Core.Path.{refl, ap, ◌∙◌}
use Rattle.grants_file.specs.Block.{count_of}
use Rattle.block_read.proofs.BlockReadSteps.{occupies}
use native.Mathlib.Nat.{add-sub_cancel_left}
use native.Mathlib.Omega.{arith}
use Rattle.block_read.proofs.part.records_part.Goals as goal

pub returns : goal.returns
returns c =
    let counted = c.count_of-count.ensures.0 ∙ ap count_of c.block_at.ensures in
    occupies refl (omega arith) (rw (add-sub_cancel_left, counted)) (omega arith)
