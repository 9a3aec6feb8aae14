-- `block::has_form` meets its contract. Assumes nothing.
use native.Mathlib.Omega.{arith}
use Rattle.grants_file.proofs.BlockSteps.{form_at-start}
use Rattle.grants_file.proofs.block.has_form.Goals as goal

pub returns : goal.returns
returns c = rw (c.starts_with.ensures.value, c.magic_of.ensures) (form_at-start c.args.block.now c.args.form (omega arith))
