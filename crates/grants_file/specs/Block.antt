-- A block of 512 bytes (document 01, "The grants file"): how it is written, and the tests of the bytes of one.
--   sealed body                           body, zeros up to the check, the check
--   header_block n doors, record_block i gs block 0, and block i with its records
--   count_of b                             the record count of a block's bytes
--   record_in b k, records_of b n           its k-th record, from 0 on, and its first n records
--   has_form b form, has_magic b            the mark of the form stands at the start, and that of the form that is read
--   wrong_checksum b                       fault 12's cause
--   wrong_padding b at                     a byte of the fill from `at` on is not zero
-- Changed by card 11. Assumes nothing: these are definitions.
use Rattle.std.specs.Prelude.{ℕ, ◌-◌, Bool, not, eqb, length, take, drop, replicate}
use mathlib.Core.List.{List, ◌++◌, map, flat_map}
use Rattle.lists.specs.Tests.{every, same_numbers}
use Rattle.lists.specs.Ranges.{count_from}
use Rattle.model.specs.declared.Grant.{Grant}
use Rattle.model.specs.declared.Interval.{Interval}
use Rattle.checksum.specs.Checksum.{checksum}
use Rattle.grants_file.specs.Layout.{magic_of, current_form, magic, checksum_place, count_place, record_bytes, record_place}
use Rattle.grants_file.specs.Bytes.{be16, be16_at, bytes_at}
use Rattle.grants_file.specs.Record.{encode_record}

unfoldable pub sealed : List ℕ → List ℕ
sealed body =
    let covered = body ++ replicate (checksum_place - length body) 0 in
    covered ++ be16 (checksum covered)

unfoldable pub header_block : ℕ → Interval → List ℕ
header_block n doors = sealed (magic ++ be16 0 ++ be16 n ++ be16 doors.from ++ be16 doors.to)

unfoldable pub record_block : ℕ → List Grant → List ℕ
record_block i gs = sealed (magic ++ be16 i ++ be16 (length gs) ++ flat_map encode_record gs)

abbrev pub count_of : List ℕ → ℕ
count_of b = be16_at b count_place

abbrev pub record_in : List ℕ → ℕ → List ℕ
record_in b k = bytes_at b (record_place k) record_bytes

unfoldable pub records_of : List ℕ → ℕ → List (List ℕ)
records_of b n = map (record_in b) (count_from 0 n)

abbrev pub has_form : List ℕ → ℕ → Bool
has_form b form = same_numbers (take (length magic) b) (magic_of form)

abbrev pub has_magic : List ℕ → Bool
has_magic b = has_form b current_form

unfoldable pub wrong_checksum : List ℕ → Bool
wrong_checksum b = not (eqb (be16_at b checksum_place) (checksum (take checksum_place b)))

unfoldable pub wrong_padding : List ℕ → ℕ → Bool
wrong_padding b at = not (every (λ x. eqb x 0) (drop at (take checksum_place b)))
