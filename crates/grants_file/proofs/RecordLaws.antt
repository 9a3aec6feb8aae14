-- Laws of specs/Record: a grant written in 16 bytes, and read again.
--   request_encode          the values of a written grant are its own
--   decode_encode           what is written is read
--   encode_decode           16 bytes of a known kind are written again as they were
--   length-encode_record     16 bytes
--   encode_record-below      each below 256
--   decode_record-fits       the grant of any 16 bytes has the values of a grant
-- Assumes nothing.
use Prim.Native.Nat.{ℕ, ◌+◌, ◌≤◌, ◌<◌}
use mathlib.Core.Path.{◌≡◌, refl, sym, ap, ◌∙◌}
use mathlib.Core.List.{List, [], ◌∷◌, ◌++◌, map, flat_map}
use native.Mathlib.Omega.{arith}
use native.Mathlib.Nat.{div-add-mod'}
use lib.ListN.{length, get_or}
use lib.Seq.{take_all}
use Rattle.lists.specs.Ranges.{count_from}
use Rattle.lists.proofs.ListLaws.{elements_joined}
use Rattle.model.specs.declared.Kind.{Kind}
use Rattle.model.specs.declared.Kind.TheVariants.{Bars, Opens}
use Rattle.model.specs.declared.Grant.{Grant}
use Rattle.model.specs.Kind.{kind_number}
use Rattle.model.specs.Box.{box_values}
use Rattle.model.specs.Call.{requested, request_of}
use Rattle.model.specs.Values.{word_values, byte_values, Below, GrantFits}
use Rattle.model.proofs.ArgumentLaws.{kind_number_kind_of, requested-request_of}
use Rattle.grants_file.specs.Layout.{record_bytes}
use Rattle.grants_file.specs.Bytes.{be16, be16_at}
use Rattle.grants_file.specs.Record.{encode_record, record_request, decode_record, kind_byte}
use Rattle.grants_file.proofs.BytesLaws.{below_nil, below_cons, below-append, below_flat_map, get_d_below, be16-below, be16-be16_at, be16_at-below}

pub request_encode : (g : Grant) → record_request (encode_record g) ≡ request_of g
unfolding encode_record flat_map
request_encode g =
    λ i.
    record {
      number = div-add-mod' g.number 256 i;
      rank = g.rank;
      kind = kind_number g.kind;
      bounds =
          record {
            staff_from = div-add-mod' g.bounds.staff_from 256 i;
            staff_to = div-add-mod' g.bounds.staff_to 256 i;
            door_from = div-add-mod' g.bounds.door_from 256 i;
            door_to = div-add-mod' g.bounds.door_to 256 i;
            quarter_from = div-add-mod' g.bounds.quarter_from 256 i;
            quarter_to = div-add-mod' g.bounds.quarter_to 256 i;
          };
    }

pub decode_encode : (g : Grant) → decode_record (encode_record g) ≡ g
unfolding decode_record
decode_encode g = ap requested (request_encode g) ∙ requested-request_of g

pub length-encode_record : (g : Grant) → length (encode_record g) ≡ record_bytes
unfolding encode_record flat_map
length-encode_record g = refl

pub encode_decode : (r : List ℕ) → length r ≡ record_bytes → Below byte_values r → kind_byte r ≤ 1 → encode_record (decode_record r) ≡ r
unfolding encode_record decode_record flat_map count_from
encode_decode r l below k = spelled ∙ (sym (elements_joined r 0 record_bytes 0 (omega arith)) ∙ take_all record_bytes r (omega arith))
  where
    pair : (at : ℕ) → be16 (be16_at r at) ≡ get_or r at 0 ∷ get_or r (at + 1) 0 ∷ []
    pair at = be16-be16_at r at below

    spelled : encode_record (decode_record r) ≡ map (λ i. get_or r i 0) (count_from 0 record_bytes)
    spelled =
        λ i.
        pair 0 i
        ++ (get_or r 2 0 ∷ kind_number_kind_of (kind_byte r) k i ∷ [])
        ++ (pair 4 i ++ (pair 6 i ++ (pair 8 i ++ (pair 10 i ++ (pair 12 i ++ (pair 14 i ++ []))))))

kind_number-below : (k : Kind) → kind_number k < byte_values
kind_number-below Bars = omega arith
kind_number-below Opens = omega arith

pub encode_record-below : (g : Grant) → GrantFits g → Below byte_values (encode_record g)
unfolding encode_record
encode_record-below g fits =
    let middle = below_cons byte_values _ _ fits.rank (below_cons byte_values _ _ (kind_number-below g.kind) (below_nil byte_values)) in
    below-append byte_values _ _
    (below-append byte_values _ _ (be16-below g.number fits.number) middle)
    (below_flat_map byte_values be16 (box_values g.bounds) (λ n m. be16-below n (fits.bounds n m)))

pub decode_record-fits : (r : List ℕ) → Below byte_values r → GrantFits (decode_record r)
unfolding decode_record
decode_record-fits r below =
    record {
      number = be16_at-below r 0 below;
      rank = get_d_below byte_values r 2 (omega arith) below;
      bounds = value 4 (value 6 (value 8 (value 10 (value 12 (value 14 (below_nil word_values))))));
    }
  where
    value : (at : ℕ) {ns : List ℕ} → Below word_values ns → Below word_values (be16_at r at ∷ ns)
    value at {ns} rest = below_cons word_values (be16_at r at) ns (be16_at-below r at below) rest
