-- What is wrong in a file (document 01, "Faults"): faults 10 and 12, and faults 11 and 13 by their causes, in the order in which they answer.
--   x when t                       a defect, and whether it is there
--   start_defects b i               in the bytes b of block i: its check, its mark, with whether that is the older form's, and its number
--   padding_defects b i at          its fill, from `at` on
--   layout_defects b i t            its record count, by a test t of it, and its fill
--   header_defects f                the rest of block 0: n, the block count against n, the order of the doors, the fill
--   request_defects                 in record k of block i, what is wrong in its values as in those of a request (model/specs/Arguments)
--   record_defects, records_defects  in record k of block i, counted from 1, and in its records from the k-th on
--   block_defects f i, file_defects f    all of block i, the start first, and all of a file
--   defect_fault x                  the fault that a defect stands for
--   first_defect cs                 the first that is there, as the error of a Result; by `first_defect-first` of proofs/DefectLaws it is the first fault's
--   defect_in f                     what is wrong in a file
-- Assumes nothing: these are definitions.
use Rattle.std.specs.Prelude.{ℕ, zero, suc, ◌-◌, Bool, cond, not, leb, ltb, eqb, ⊤, Result, Ok, Err}
use mathlib.Core.List.{List, [], ◌∷◌, ◌++◌, map, flat_map}
use Rattle.lists.specs.Ranges.{count_from}
use Rattle.model.specs.declared.Fault.{Fault}
use Rattle.model.specs.declared.Fault.TheVariants.{BadLength, BadLayout, BadChecksum, BadRecord}
use Rattle.model.specs.Limits.{max_grants}
use Rattle.model.specs.declared.Interval.{Interval}
use Rattle.model.specs.Interval.{reversed}
use Rattle.model.specs.Grant.{touches}
use Rattle.model.specs.declared.RequestFault.{RequestFault}
use Rattle.model.specs.declared.RequestFault.TheVariants as wrong
use Rattle.model.specs.Arguments.{request_order, wrong_in}
use Rattle.grants_file.specs.declared.Defect.{Defect}
use Rattle.grants_file.specs.declared.Defect.TheVariants.{Length, Checksum, Mark, BlockNumber, TooManyGrants, BlockCount}
use Rattle.grants_file.specs.declared.Defect.TheVariants.{RecordCount, DoorOrder, Padding, Record}
use Rattle.grants_file.specs.declared.RecordFault.{RecordFault}
use Rattle.grants_file.specs.declared.RecordFault.TheVariants.{NumberOrder, Kind, Reversed, RankTooLow, Doors}
use Rattle.grants_file.specs.Layout.{older_form, number_place, header_end, record_bytes, record_place, last_record_place}
use Rattle.grants_file.specs.Bytes.{be16_at, bytes_at}
use Rattle.grants_file.specs.Record.{record_number, record_request, decode_record}
use Rattle.grants_file.specs.Block.{count_of, records_of, has_form, has_magic, wrong_checksum, wrong_padding}
use Rattle.grants_file.specs.File.{blocks_for, count_in, blocks_in, block_at, wrong_block_count, total_in, doors_in}

pub record DefectCause : Type 0 where
  pub defect : Defect
  pub present : Bool

infix 70 ◌when◌
abbrev pub ◌when◌ : Defect → Bool → DefectCause
x when t = record { defect = x; present = t }

abbrev pub start_defects : List ℕ → ℕ → List DefectCause
start_defects b i =
    Checksum i when wrong_checksum b
    ∷ Mark i (has_form b older_form) when not (has_magic b)
    ∷ BlockNumber i when not (eqb (be16_at b number_place) i)
    ∷ []

abbrev pub padding_defects : List ℕ → ℕ → ℕ → List DefectCause
padding_defects b i at = Padding i when wrong_padding b at ∷ []

abbrev pub layout_defects : List ℕ → ℕ → Bool → List DefectCause
layout_defects b i miscounted = RecordCount i when miscounted ∷ padding_defects b i (record_place (count_of b))

abbrev pub header_defects : List ℕ → List DefectCause
header_defects f =
    TooManyGrants (total_in f) when ltb max_grants (total_in f)
    ∷ BlockCount (total_in f) (blocks_in f) when not (eqb (blocks_in f) (blocks_for (total_in f)))
    ∷ DoorOrder (doors_in f).from (doors_in f).to when reversed (doors_in f)
    ∷ padding_defects (block_at f 0) 0 header_end

-- as what a fault of grant's arguments is told in a record; number 0 is told as one that is not above the last
abbrev pub record_fault : RequestFault → RecordFault
record_fault wrong.ZeroNumber = NumberOrder
record_fault wrong.UnknownKind = Kind
record_fault wrong.Reversed = Reversed
record_fault wrong.RankTooLow = RankTooLow

abbrev pub request_defects : ℕ → ℕ → List ℕ → List DefectCause
request_defects i k r = map (λ x. Record i k (record_number r) (record_fault x) when wrong_in (record_request r) x) request_order

-- r are the record's bytes, and `last` is the number of the record before it, 0 at the first
abbrev pub record_defects : Interval → ℕ → ℕ → ℕ → List ℕ → List DefectCause
record_defects doors i k last r =
    Record i k (record_number r) NumberOrder when leb (record_number r) last
    ∷ request_defects i k r
    ++ (Record i k (record_number r) Doors when not (touches doors (decode_record r)) ∷ [])

unfoldable pub records_defects : Interval → ℕ → ℕ → ℕ → List (List ℕ) → List DefectCause
records_defects doors i k last [] = []
records_defects doors i k last (r ∷ rs) = record_defects doors i k last r ++ records_defects doors i (suc k) (record_number r) rs

-- the number of the last record before block i, 0 where there is none
unfoldable pub last_before : List ℕ → ℕ → ℕ
last_before f i = cond (leb i 1) 0 (record_number (bytes_at (block_at f (i - 1)) last_record_place record_bytes))

-- the record count against n
abbrev pub miscounted : List ℕ → ℕ → Bool
miscounted f i = not (eqb (count_of (block_at f i)) (count_in (total_in f) i))

-- behind a block's start
unfoldable pub content_defects : List ℕ → ℕ → List DefectCause
content_defects f zero = header_defects f
content_defects f (suc i) =
    let b = block_at f (suc i) in
    layout_defects b (suc i) (miscounted f (suc i))
    ++ records_defects (doors_in f) (suc i) 1 (last_before f (suc i)) (records_of b (count_in (total_in f) (suc i)))

abbrev pub block_defects : List ℕ → ℕ → List DefectCause
block_defects f i = start_defects (block_at f i) i ++ content_defects f i

unfoldable pub file_defects : List ℕ → List DefectCause
file_defects f = Length when wrong_block_count f ∷ flat_map (block_defects f) (count_from 0 (blocks_in f))

abbrev pub defect_fault : Defect → Fault
defect_fault Length = BadLength
defect_fault (Checksum i) = BadChecksum i
defect_fault (Mark i older) = BadLayout i
defect_fault (BlockNumber i) = BadLayout i
defect_fault (TooManyGrants total) = BadLayout 0
defect_fault (BlockCount total blocks) = BadLayout 0
defect_fault (RecordCount i) = BadLayout i
defect_fault (DoorOrder from to) = BadLayout 0
defect_fault (Padding i) = BadLayout i
defect_fault (Record i k number wrong) = BadRecord i

unfoldable pub first_defect : List DefectCause → Result ⊤ Defect
first_defect [] = Ok tt
first_defect (c ∷ cs) = cond c.present (Err c.defect) (first_defect cs)

abbrev pub defect_in : List ℕ → Result ⊤ Defect
defect_in f = first_defect (file_defects f)
