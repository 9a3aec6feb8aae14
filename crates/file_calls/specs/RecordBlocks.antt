-- What write's blocks of records are, on the way to the file.
--   BlockOfCells w cells i    block i has records of the file of the grants in the cells
--   records_file gs n            the blocks of records of a file of the n grants gs
-- The contracts of inner functions cite these; no claim does. Assumes nothing: these are definitions.
use Rattle.std.specs.Prelude.{ℕ, ◌<◌, length}
use mathlib.Core.List.{List, flat_map}
use Rattle.lists.specs.Ranges.{count_from}
use Rattle.model.specs.declared.Grant.{Grant}
use Rattle.grants_file.specs.Block.{record_block}
use Rattle.grants_file.specs.File.{record_blocks, blocks_for, chunk}
use Rattle.steps.specs.Hits.{Cells}

-- what writing a block of records asks: the cells can be read, and the file has that block behind block 0
pub record BlockOfCells (w cells : List ℕ) (i : ℕ) : Type 0 where
  pub readable : Cells w cells
  pub positive : 0 < i
  pub below : i < blocks_for (length cells)

abbrev pub records_file : List Grant → ℕ → List ℕ
records_file gs n = flat_map (λ i. record_block i (chunk i gs)) (count_from 1 (record_blocks n))
