-- A record: a grant in 16 bytes (document 01, "The grants file"), number, rank, kind, then the six values in cell order.
--   encode_record g        its bytes
--   record_number r        the grant's number in the bytes r; kind_byte r is the byte of its kind
--   record_request r       its values, as grant would be asked for them
--   decode_record r        the grant
-- Changed by card 11. Assumes nothing: these are definitions.
use Rattle.std.specs.Prelude.{ℕ, get_or}
use mathlib.Core.List.{List, [], ◌∷◌, ◌++◌, flat_map}
use Rattle.model.specs.declared.Grant.{Grant}
use Rattle.model.specs.Kind.{kind_number}
use Rattle.model.specs.Box.{box_values}
use Rattle.model.specs.Call.{Request, requested}
use Rattle.grants_file.specs.Bytes.{be16, be16_at}
use Rattle.grants_file.specs.Layout.{grant_place, rank_place, kind_place, staff_from_place, staff_to_place}
use Rattle.grants_file.specs.Layout.{door_from_place, door_to_place, quarter_from_place, quarter_to_place}

unfoldable pub encode_record : Grant → List ℕ
encode_record g = be16 g.number ++ (g.rank ∷ kind_number g.kind ∷ []) ++ flat_map be16 (box_values g.bounds)

abbrev pub record_number : List ℕ → ℕ
record_number r = be16_at r grant_place

abbrev pub kind_byte : List ℕ → ℕ
kind_byte r = get_or r kind_place 0

abbrev pub record_request : List ℕ → Request
record_request r =
    record {
      number = record_number r;
      rank = get_or r rank_place 0;
      kind = kind_byte r;
      bounds =
          record {
            staff_from = be16_at r staff_from_place;
            staff_to = be16_at r staff_to_place;
            door_from = be16_at r door_from_place;
            door_to = be16_at r door_to_place;
            quarter_from = be16_at r quarter_from_place;
            quarter_to = be16_at r quarter_to_place;
          };
    }

unfoldable pub decode_record : List ℕ → Grant
decode_record r = requested (record_request r)
