-- What is wrong in files, computed: none, each defect once, and the edge of a block.
--   layout_cases, record_cases_lem
-- Assumes nothing.
use Prim.Native.Nat.{ℕ}
use mathlib.Core.Path.{◌≡◌, refl}
use mathlib.Core.Bool.{true, false}
use mathlib.Core.List.{List, [], ◌∷◌, ◌++◌, map, flat_map}
use lib.ListN.{replicate}
use Rattle.std.proofs.Common.{Ok, Err}
use Rattle.lists.specs.Ranges.{count_from}
use Rattle.lists.specs.Tests.{every, same_numbers}
use Rattle.model.specs.declared.Grant.{Grant}
use Rattle.model.specs.declared.Kind.TheVariants as kind
use Rattle.model.specs.declared.Interval.{Interval}
use Rattle.model.specs.declared.Quarters.{Quarters}
use Rattle.model.specs.Arguments.{reversed_box}
use Rattle.checksum.specs.Checksum.{base256, checksum}
use Rattle.grants_file.specs.declared.Defect.TheVariants.{Length, Checksum, Mark, BlockNumber, TooManyGrants, BlockCount}
use Rattle.grants_file.specs.declared.Defect.TheVariants.{RecordCount, DoorOrder, Padding, Record}
use Rattle.grants_file.specs.declared.RecordFault.TheVariants.{NumberOrder, Kind, Reversed, RankTooLow, Doors}
use Rattle.grants_file.specs.Layout.{magic_of, older_form, magic}
use Rattle.grants_file.specs.Bytes.{be16}
use Rattle.grants_file.specs.Record.{encode_record, decode_record}
use Rattle.grants_file.specs.Block.{sealed, header_block, record_block, records_of, wrong_checksum, wrong_padding}
use Rattle.grants_file.specs.File.{file_of, wrong_block_count}
use Rattle.grants_file.specs.Defects.{records_defects, last_before, content_defects, file_defects, first_defect, defect_in}

abbrev doors : Interval
doors = record { from = 3; to = 9 }

-- a grant with this number, for the staff, the doors and the quarters
abbrev within : ℕ → Interval → Interval → Quarters → Grant
within number staff at quarters =
    record {
      number = number;
      rank = 0;
      kind = kind.Opens;
      bounds =
          record {
            staff_from = staff.from;
            staff_to = staff.to;
            door_from = at.from;
            door_to = at.to;
            quarter_from = quarters.from;
            quarter_to = quarters.to;
          };
    }

abbrev given : ℕ → Interval → Interval → Grant
given number staff at = within number staff at (record { from = 4; to = 7 })

abbrev right : ℕ → Grant
right number = given number (record { from = 1; to = 2 }) doors

abbrev timed : ℕ → ℕ → Grant
timed from to = within 7 (record { from = 1; to = 2 }) doors (record { from = from; to = to })

-- a block with one record, whose kind is 2
abbrev of_kind2 : List ℕ
of_kind2 = sealed (magic ++ be16 1 ++ be16 1 ++ be16 7 ++ (0 ∷ 2 ∷ []) ++ flat_map be16 (1 ∷ 2 ∷ 3 ∷ 9 ∷ 4 ∷ 7 ∷ []))

pub layout_cases : (defect_in [] ≡ Err Length)
    × (defect_in (file_of doors []) ≡ Ok tt)
    × (defect_in (replicate 511 0 ++ 1 ∷ []) ≡ Err (Checksum 0))
    × (defect_in (sealed []) ≡ Err (Mark 0 false))
    × (defect_in (sealed (magic_of older_form)) ≡ Err (Mark 0 true))
    × (defect_in (header_block 1 doors ++ sealed (magic_of older_form)) ≡ Err (Mark 1 true))
    × (defect_in (record_block 1 []) ≡ Err (BlockNumber 0))
    × (defect_in (header_block 2049 doors) ≡ Err (TooManyGrants 2049))
    × (defect_in (header_block 5 doors) ≡ Err (BlockCount 5 1))
    × (defect_in (header_block 0 (record { from = 9; to = 3 })) ≡ Err (DoorOrder 9 3))
    × (defect_in (sealed (magic ++ flat_map be16 (0 ∷ 0 ∷ 3 ∷ 9 ∷ []) ++ 1 ∷ [])) ≡ Err (Padding 0))
    × (defect_in (header_block 1 doors ++ header_block 1 doors) ≡ Err (BlockNumber 1))
    × (defect_in (header_block 1 doors ++ record_block 1 (right 5 ∷ right 6 ∷ [])) ≡ Err (RecordCount 1))
unfolding file_defects content_defects records_defects first_defect wrong_block_count wrong_checksum wrong_padding last_before records_of sealed
    header_block record_block file_of encode_record decode_record reversed_box flat_map count_from every same_numbers base256 checksum
layout_cases = (refl, refl, refl, refl, refl, refl, refl, refl, refl, refl, refl, refl, refl)

pub record_cases_lem : (defect_in (file_of doors (right 5 ∷ right 6 ∷ [])) ≡ Ok tt)
    × (defect_in (file_of doors (right 0 ∷ [])) ≡ Err (Record 1 1 0 NumberOrder))
    × (defect_in (file_of doors (right 5 ∷ right 5 ∷ [])) ≡ Err (Record 1 2 5 NumberOrder))
    × (defect_in (file_of doors (map right (count_from 1 31) ++ right 31 ∷ [])) ≡ Err (Record 2 1 31 NumberOrder))
    × (defect_in (header_block 1 doors ++ of_kind2) ≡ Err (Record 1 1 7 Kind))
    × (defect_in (file_of doors (right 5 ∷ given 6 (record { from = 2; to = 1 }) doors ∷ [])) ≡ Err (Record 1 2 6 Reversed))
    -- quarters that cover one, and quarters that cover none
    × (defect_in (file_of doors (timed 4 5 ∷ [])) ≡ Ok tt)
    × (defect_in (file_of doors (timed 4 4 ∷ [])) ≡ Err (Record 1 1 7 Reversed))
    -- at rank 0: 1,001 doors, two of them the file's; 1,001, none of them the file's; 1,000
    × (defect_in (file_of doors (right 5 ∷ given 6 (record { from = 1; to = 2 }) (record { from = 8; to = 1008 }) ∷ [])) ≡ Err (Record 1 2 6 RankTooLow))
    × (defect_in (file_of doors (given 6 (record { from = 1; to = 2 }) (record { from = 10; to = 1010 }) ∷ [])) ≡ Err (Record 1 1 6 RankTooLow))
    × (defect_in (file_of doors (given 6 (record { from = 1; to = 2 }) (record { from = 8; to = 1007 }) ∷ [])) ≡ Ok tt)
    × (defect_in (file_of doors (given 6 (record { from = 1; to = 2 }) (record { from = 10; to = 12 }) ∷ [])) ≡ Err (Record 1 1 6 Doors))
unfolding file_defects content_defects records_defects first_defect wrong_block_count wrong_checksum wrong_padding last_before records_of sealed
    header_block record_block file_of encode_record decode_record reversed_box flat_map count_from every same_numbers base256 checksum
record_cases_lem = (refl, refl, refl, refl, refl, refl, refl, refl, refl, refl, refl, refl)
