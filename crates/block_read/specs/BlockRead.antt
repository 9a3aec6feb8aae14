-- Block read (document 01, "The grants file"): one block judged alone, and the part of the file that its records occupy.
--   not_in_file f i       10: not 1 to 68 whole blocks, or block i is not in the file
--   wrong_count f i      not 31 records, or not 1 to 31 in the last block that the file's length holds
--   read_defects f i     the defects of a block that it tests: check, mark, number, fill and record count; of block 0 no count
--   read_causes f i      its refusals, in document 01's order
--   block_call f i       the first of its two calls, the verdict
--   Part, empty_part     a part of a file: where it begins and how many bytes it has
--   part_at f i          the second, the part that its records occupy; of block 0 and of a refused block empty
--   part_of f i          its bytes
--   Occupies p w s      the slice s is that part of the slice w: it lies in the same memory, so many bytes from its start, and is as long
-- Assumes nothing: these are definitions.
use Rattle.std.specs.Prelude.{ℕ, zero, suc, ◌+◌, ◌*◌, ◌≡◌, Bool, not, cond, ◌&&◌, ◌||◌, List, ◌∷◌, ◌++◌, leb, eqb, length, Option, None, Some}
use Rattle.std.specs.Borrow.{Bor}
use Rattle.model.specs.declared.Fault.{Fault}
use Rattle.model.specs.declared.Fault.TheVariants.{BadLength}
use Rattle.model.specs.Refusal.{Cause, ◌if◌, Step, first_fault}
use Rattle.grants_file.specs.Layout.{block_bytes, header_end, records_place, record_bytes, records_per_block}
use Rattle.grants_file.specs.Bytes.{bytes_at}
use Rattle.grants_file.specs.Block.{count_of}
use Rattle.grants_file.specs.File.{blocks_in, block_at, wrong_block_count}
use Rattle.grants_file.specs.Defects.{DefectCause, start_defects, padding_defects, layout_defects}
use Rattle.grants_file.specs.Verdict.{causes_of, judging}

unfoldable pub not_in_file : List ℕ → ℕ → Bool
not_in_file f i = wrong_block_count f || leb (blocks_in f) i

unfoldable pub wrong_count : List ℕ → ℕ → Bool
wrong_count f i =
    let n = count_of (block_at f i) in
    not (cond (eqb (suc i) (blocks_in f)) (leb 1 n && leb n records_per_block) (eqb n records_per_block))

-- behind a block's start
unfoldable pub rest_defects : List ℕ → ℕ → List DefectCause
rest_defects f zero = padding_defects (block_at f 0) 0 header_end
rest_defects f (suc i) = layout_defects (block_at f (suc i)) (suc i) (wrong_count f (suc i))

abbrev pub read_defects : List ℕ → ℕ → List DefectCause
read_defects f i = start_defects (block_at f i) i ++ rest_defects f i

unfoldable pub read_causes : List ℕ → ℕ → List Cause
read_causes f i = BadLength if not_in_file f i ∷ causes_of (read_defects f i)

unfoldable pub block_call : List ℕ → ℕ → Step (List ℕ)
block_call f i = judging (read_causes f i) f

pub record Part : Type 0 where
  pub from : ℕ
  pub size : ℕ

abbrev pub empty_part : Part
empty_part = record { from = 0; size = 0 }

-- block i's records, as many as it counts, from byte 8 of the block
abbrev pub records_part : List ℕ → ℕ → Part
records_part f i = record { from = block_bytes * i + records_place; size = record_bytes * count_of (block_at f i) }

abbrev part_by : List ℕ → ℕ → Option Fault → Part
part_by f zero None = empty_part
part_by f (suc i) None = records_part f (suc i)
part_by f i (Some fault) = empty_part

abbrev pub part_at : List ℕ → ℕ → Part
part_at f i = part_by f i (first_fault (read_causes f i))

unfoldable pub part_of : List ℕ → ℕ → List ℕ
part_of f i = bytes_at f (part_at f i).from (part_at f i).size

-- the slice `part` is that part of the slice `whole`: the same memory from there on, and as long
pub record Occupies (p : Part) (whole part : Bor (List ℕ)) : Type 0 where
  pub memory : part.ref_ptr.0 ≡ whole.ref_ptr.0
  pub place : part.ref_ptr.1 ≡ whole.ref_ptr.1 + p.from
  pub long : length part.now ≡ p.size
  pub bytes : part.now ≡ bytes_at whole.now p.from p.size
