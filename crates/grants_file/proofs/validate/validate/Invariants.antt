-- `validate::validate` meets its contract. The invariant: the blocks passed are sound, so those left decide. Assumes nothing.
use Prim.Native.Nat.{◌≤◌}
use mathlib.Core.Path.{◌≡◌}
use Rattle.grants_file.specs.Layout.{max_blocks}
use Rattle.grants_file.specs.File.{blocks_in}
use Rattle.grants_file.specs.Defects.{last_before, defect_in}
use Rattle.grants_file.proofs.ValidateSteps.{defects_from}
use Rattle.grants_file.proofs.validate.validate.Given as goal

abbrev pub invariant-loop-i : goal.invariant-loop-i
invariant-loop-i l = (blocks_in l.file ≤ max_blocks) × (l.last ≡ last_before l.file l.i) × (defects_from l.file l.i ≡ defect_in l.file)
