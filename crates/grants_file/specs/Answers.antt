-- What the code answers on its way to the verdict on a file (document 01, "Faults"). The contracts of inner functions cite these.
--   JudgedBlock f i last what the judging of block i goes by: a block of a file that isn't too long, and the last record's number before it
--   block_answer f i      the answer of block i in the verdict on a file: its first defect, or the number that the next block's records must be above
-- Assumes nothing: these are definitions.
use Rattle.std.specs.Prelude.{ℕ, suc, ◌<◌, ◌≤◌, ◌≡◌, List, Result, Ok}
use Rattle.std.specs.Result.{result_and}
use Rattle.grants_file.specs.declared.Defect.{Defect}
use Rattle.grants_file.specs.Layout.{max_blocks}
use Rattle.grants_file.specs.File.{blocks_in}
use Rattle.grants_file.specs.Defects.{last_before, block_defects, first_defect}

pub record JudgedBlock (f : List ℕ) (i last : ℕ) : Type 0 where
  pub in_file : i < blocks_in f
  pub few : blocks_in f ≤ max_blocks
  pub last-before : last ≡ last_before f i

unfoldable pub block_answer : List ℕ → ℕ → Result ℕ Defect
block_answer f i = result_and (first_defect (block_defects f i)) (Ok (last_before f (suc i)))
