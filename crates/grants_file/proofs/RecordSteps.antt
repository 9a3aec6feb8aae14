-- A record read where it lies, as the code does it.
--   part_byte, part-be16           a byte, or a number, of a part of a list
--   number_at, kind_at, decode_at, bounds-at   the grant of the record at a place, field by field
-- Assumes nothing.
use Prim.Native.Nat.{ℕ, ◌+◌, ◌<◌}
use mathlib.Core.Path.{◌≡◌, refl}
use mathlib.Core.List.{List}
use native.Mathlib.Nat.{add-zero}
use native.Mathlib.Omega.{arith}
use lib.ListN.{get_or, drop}
use lib.Seq.{get_or-take, get_or-drop}
use Rattle.model.specs.declared.Grant.{Grant}
use Rattle.model.specs.declared.Box.{Box}
use Rattle.model.specs.Kind.{kind_of}
use Rattle.grants_file.specs.Layout.{record_bytes}
use Rattle.grants_file.specs.Bytes.{be16_at, bytes_at}
use Rattle.grants_file.specs.Record.{record_number, kind_byte, decode_record}

pub part_byte : (f : List ℕ) (at n j place : ℕ) → at + j ≡ place → j < n → get_or (bytes_at f at n) j 0 ≡ get_or f place 0
part_byte f at n j place e h = rw (get_or-take n (drop at f) j 0 h, get_or-drop at f j 0, e)

pub part-be16 : (f : List ℕ) (at n j place : ℕ) → at + j ≡ place → j + 1 < n → be16_at (bytes_at f at n) j ≡ be16_at f place
part-be16 f at n j place e h =
    rw (part_byte f at n j place e (omega arith), part_byte f at n (j + 1) (place + 1) (omega arith) h)

-- the bytes of the record at a place
abbrev pub record_at : List ℕ → ℕ → List ℕ
record_at f at = bytes_at f at record_bytes

module _ (f : List ℕ) (at : ℕ) where
  pub number_at : record_number (record_at f at) ≡ be16_at f at
  number_at = part-be16 f at 16 0 at (add-zero at) (omega arith)

  pub kind_at : kind_byte (record_at f at) ≡ get_or f (at + 3) 0
  kind_at = part_byte f at 16 3 (at + 3) refl (omega arith)

  abbrev bounds_at : Box
  bounds_at =
      record {
        staff_from = be16_at f (at + 4);
        staff_to = be16_at f (at + 6);
        door_from = be16_at f (at + 8);
        door_to = be16_at f (at + 10);
        quarter_from = be16_at f (at + 12);
        quarter_to = be16_at f (at + 14);
      }

  pub bounds-at : (decode_record (record_at f at)).bounds ≡ bounds_at
  unfolding decode_record
  bounds-at =
      λ i. record {
        staff_from = part-be16 f at 16 4 (at + 4) refl (omega arith) i;
        staff_to = part-be16 f at 16 6 (at + 6) refl (omega arith) i;
        door_from = part-be16 f at 16 8 (at + 8) refl (omega arith) i;
        door_to = part-be16 f at 16 10 (at + 10) refl (omega arith) i;
        quarter_from = part-be16 f at 16 12 (at + 12) refl (omega arith) i;
        quarter_to = part-be16 f at 16 14 (at + 14) refl (omega arith) i;
      }

  abbrev grant_at : Grant
  grant_at =
      record {
        number = be16_at f at;
        rank = get_or f (at + 2) 0;
        kind = kind_of (get_or f (at + 3) 0);
        bounds = (decode_record (record_at f at)).bounds;
      }

  pub decode_at : decode_record (record_at f at) ≡ grant_at
  unfolding decode_record
  decode_at =
      λ i. record {
        number = number_at i;
        rank = part_byte f at 16 2 (at + 2) refl (omega arith) i;
        kind = kind_of (kind_at i);
        bounds = (decode_record (record_at f at)).bounds;
      }
