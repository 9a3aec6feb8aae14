-- The file of a door range and a set of grants (document 01, "The grants file"). The set is a list, ascending by number.
--   blocks_for n         the blocks of a file of n grants
--   file_of doors gs     its bytes
--   block_at, blocks_in   a block of any bytes, and how many whole ones they hold
--   wrong_block_count f   fault 10's cause: not 1 to 68 whole blocks
--   doors_in f, grants_in f   what an accepted file gives: its doors, and its grants whole, in their order
-- Assumes nothing: these are definitions.
use Rattle.std.specs.Prelude.{ℕ, suc, ◌+◌, ◌-◌, ◌*◌, ◌/◌, ◌%◌, min, Bool, not, ◌&&◌, leb, eqb, length, take, drop}
use mathlib.Core.List.{List, ◌++◌, map, flat_map}
use Rattle.lists.specs.Ranges.{count_from}
use Rattle.model.specs.declared.Grant.{Grant}
use Rattle.model.specs.declared.Interval.{Interval}
use Rattle.grants_file.specs.Layout.{block_bytes, max_blocks, total_place, first_door_place, last_door_place, records_per_block}
use Rattle.grants_file.specs.Bytes.{be16_at, bytes_at}
use Rattle.grants_file.specs.Record.{decode_record}
use Rattle.grants_file.specs.Block.{header_block, record_block, records_of}

-- blocks hold 31 records, the last what remains
abbrev pub record_blocks : ℕ → ℕ
record_blocks n = (n + (records_per_block - 1)) / records_per_block

abbrev pub blocks_for : ℕ → ℕ
blocks_for n = suc (record_blocks n)

-- the records that block i holds, of n
abbrev pub count_in : ℕ → ℕ → ℕ
count_in n i = min records_per_block (n - records_per_block * (i - 1))

-- the grants of block i
abbrev pub chunk : ℕ → List Grant → List Grant
chunk i gs = take records_per_block (drop (records_per_block * (i - 1)) gs)

unfoldable pub file_of : Interval → List Grant → List ℕ
file_of doors gs =
    header_block (length gs) doors ++ flat_map (λ i. record_block i (chunk i gs)) (count_from 1 (record_blocks (length gs)))

abbrev pub blocks_in : List ℕ → ℕ
blocks_in f = length f / block_bytes

abbrev pub block_at : List ℕ → ℕ → List ℕ
block_at f i = bytes_at f (block_bytes * i) block_bytes

unfoldable pub wrong_block_count : List ℕ → Bool
wrong_block_count f = not (eqb (length f % block_bytes) 0 && leb 1 (blocks_in f) && leb (blocks_in f) max_blocks)

-- document 01's n
abbrev pub total_in : List ℕ → ℕ
total_in f = be16_at f total_place

abbrev pub doors_in : List ℕ → Interval
doors_in f = record { from = be16_at f first_door_place; to = be16_at f last_door_place }

unfoldable pub grants_in : List ℕ → List Grant
grants_in f =
    flat_map (λ i. map decode_record (records_of (block_at f i) (count_in (total_in f) i))) (count_from 1 (record_blocks (total_in f)))
