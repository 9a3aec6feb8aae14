-- Laws of fault 13's causes (specs/Defects): what records without them say.
--   RightRecord doors last r       no part of the cause holds of r
--   record_iff, records_iff        which is that none of its defects is there; the same of records that follow each other
--   last_number last rs             the number of the last of rs, `last` where there is none
--   right_append                   records in two rows
--   right_kinds                    right records have known kinds
--   RightGrant doors g             what a file's set asks of one grant
--   right_encode                   written grants are right exactly if they rise, are in order and touch the doors
-- Assumes nothing.
use Prim.Native.Nat.{ℕ, suc, ◌≤◌, ◌<◌}
use mathlib.Core.Logic.{◌↔◌}
use mathlib.Core.Path.{◌≡◌, refl, sym, ap, subst}
use mathlib.Core.Bool.{true, not}
use mathlib.Core.List.{List, [], ◌∷◌, ◌++◌, map, Memᴰ}
use native.Mathlib.Omega.{arith}
use borrow.Author.Tests.{leb-false, lt-leb, not-false}
use Rattle.model.specs.declared.Grant.{Grant}
use Rattle.model.specs.declared.Interval.{Interval}
use Rattle.model.specs.Grant.{touches}
use Rattle.model.specs.Judged.{NoneOf}
use Rattle.model.specs.Call.{Request, request_of}
use Rattle.model.specs.Arguments.{request_order, request_causes}
use Rattle.model.proofs.ArgumentLaws.{request-kind}
use Rattle.grants_file.specs.declared.Defect.TheVariants.{Record}
use Rattle.grants_file.specs.declared.RecordFault.TheVariants.{Doors}
use Rattle.grants_file.specs.Record.{encode_record, record_request, decode_record, record_number, kind_byte}
use Rattle.grants_file.specs.Defects.{◌when◌, request_defects, record_defects, records_defects}
use Rattle.grants_file.specs.FileSets.{Ascending, ascending-none, ascending_more}
use Rattle.grants_file.proofs.RecordLaws.{request_encode, decode_encode}
use Rattle.grants_file.proofs.DefectLaws.{Clear, clear_nil, clear_cons, clear_parts, clear_append}
use Rattle.grants_file.proofs.RequestDefectLaws.{clear_request}

pub record RightRecord (doors : Interval) (last : ℕ) (r : List ℕ) : Type 0 where
  pub number : last < record_number r
  pub faultless : NoneOf (request_causes (record_request r))
  pub touching : touches doors (decode_record r) ≡ true

record_iff : (doors : Interval) (i k last : ℕ) (r : List ℕ) → Clear (record_defects doors i k last r) ↔ RightRecord doors last r
record_iff doors i k last r =
    let request = clear_request i k (record_number r) (record_request r) request_order in
    let doors-test = Record i k (record_number r) Doors when not (touches doors (decode_record r)) in
    let joined = clear_append (request_defects i k r) (doors-test ∷ []) in (
      (λ e.
          let number = clear_parts _ _ e in
          let rest = joined.0 number.1 in
          record {
            number = leb-false (record_number r) last number.0;
            faultless = request.0 rest.0;
            touching = not-false (touches doors (decode_record r)) (clear_parts _ _ rest.1).0;
          }),
      (λ h.
          clear_cons _ _ (lt-leb (record_number r) last h.number)
          (joined.1 (request.1 h.faultless, clear_cons _ _ (ap not h.touching) clear_nil))),
    )

-- records that follow each other
unfoldable pub RightRecords : Interval → ℕ → List (List ℕ) → Type 0
RightRecords doors last [] = Unit {0}
RightRecords doors last (r ∷ rs) = RightRecord doors last r × RightRecords doors (record_number r) rs

unfoldable pub last_number : ℕ → List (List ℕ) → ℕ
last_number last [] = last
last_number last (r ∷ rs) = last_number (record_number r) rs

pub last_number_append : (last : ℕ) (rs ss : List (List ℕ)) → last_number last (rs ++ ss) ≡ last_number (last_number last rs) ss
unfolding last_number
last_number_append last [] ss = refl
last_number_append last (r ∷ rs) ss = last_number_append (record_number r) rs ss

module _ (doors : Interval) where
  clear_right : (i k last : ℕ) (rs : List (List ℕ)) → Clear (records_defects doors i k last rs) → RightRecords doors last rs
  unfolding records_defects RightRecords
  clear_right i k last [] e = tt
  clear_right i k last (r ∷ rs) e =
      let both = (clear_append (record_defects doors i k last r) (records_defects doors i (suc k) (record_number r) rs)).0 e in
      ((record_iff doors i k last r).0 both.0, clear_right i (suc k) (record_number r) rs both.1)

  right_clear : (i k last : ℕ) (rs : List (List ℕ)) → RightRecords doors last rs → Clear (records_defects doors i k last rs)
  unfolding records_defects RightRecords
  right_clear i k last [] h = clear_nil
  right_clear i k last (r ∷ rs) h =
      (clear_append (record_defects doors i k last r) (records_defects doors i (suc k) (record_number r) rs)).1
      ((record_iff doors i k last r).1 h.0, right_clear i (suc k) (record_number r) rs h.1)

  pub records_iff : (i k last : ℕ) (rs : List (List ℕ)) → Clear (records_defects doors i k last rs) ↔ RightRecords doors last rs
  records_iff i k last rs = (clear_right i k last rs, right_clear i k last rs)

  pub right_append : (last : ℕ) (rs ss : List (List ℕ))
      → RightRecords doors last (rs ++ ss) ↔ (RightRecords doors last rs × RightRecords doors (last_number last rs) ss)
  unfolding RightRecords last_number
  right_append last [] ss = ((λ h. (tt, h)), (λ h. h.1))
  right_append last (r ∷ rs) ss =
      let rest = right_append (record_number r) rs ss in (
        (λ h. let both = rest.0 h.1 in ((h.0, both.0), both.1)),
        (λ h. (h.0.0, rest.1 (h.0.1, h.1))),
      )

  pub right_kinds : (last : ℕ) (rs : List (List ℕ)) → RightRecords doors last rs → (r : List ℕ) → Memᴰ r rs → kind_byte r ≤ 1
  unfolding RightRecords
  right_kinds last [] h r x'' = elim x'' [ ]
  right_kinds last (s ∷ ss) h r (Memᴰ.head q) = rw q (request-kind (record_request s) h.0.faultless)
  right_kinds last (s ∷ ss) h r (Memᴰ.tail m) = right_kinds (record_number s) ss h.1 r m

-- what a set of a file asks of one grant
pub record RightGrant (doors : Interval) (g : Grant) : Type 0 where
  pub faultless : NoneOf (request_causes (request_of g))
  pub touching : touches doors g ≡ true

record_number_encode : (g : Grant) → record_number (encode_record g) ≡ g.number
unfolding decode_record
record_number_encode g = ap (λ (h : Grant). h.number) (decode_encode g)

abbrev FreeOf : Request → Type 0
FreeOf r = NoneOf (request_causes r)

module _ (doors : Interval) where
  record_encode : (last : ℕ) (g : Grant) → RightRecord doors last (encode_record g) ↔ ((last < g.number) × RightGrant doors g)
  unfolding encode_record
  record_encode last g = (
    (λ h. (
      omega (arith, h.number, record_number_encode g),
      record { faultless = subst FreeOf (request_encode g) h.faultless; touching = rw (← decode_encode g) h.touching },
    )),
    (λ h.
        record {
          number = omega (arith, h.0, record_number_encode g);
          faultless = subst FreeOf (sym (request_encode g)) h.1.faultless;
          touching = rw decode_encode h.1.touching;
        }),
  )

  rising : (last : ℕ) (gs : List Grant) → RightRecords doors last (map encode_record gs) → Ascending last gs
  unfolding RightRecords
  rising last [] h = ascending-none
  rising last (g ∷ gs) h = ascending_more ((record_encode last g).0 h.0).0 (rising g.number gs (rw (← record_number_encode g) h.1))

  each_right : (last : ℕ) (gs : List Grant) → RightRecords doors last (map encode_record gs) → (g : Grant) → Memᴰ g gs → RightGrant doors g
  unfolding RightRecords
  each_right last [] h g x'' = elim x'' [ ]
  each_right last (x ∷ xs) h g (Memᴰ.head q) = rw q ((record_encode last x).0 h.0).1
  each_right last (x ∷ xs) h g (Memᴰ.tail m) = each_right x.number xs (rw (← record_number_encode x) h.1) g m

  right_written : {last : ℕ} {gs : List Grant} → Ascending last gs → ((g : Grant) → Memᴰ g gs → RightGrant doors g)
      → RightRecords doors last (map encode_record gs)
  unfolding RightRecords
  right_written ascending-none each = tt
  right_written (ascending_more {last = last} {g = g} {gs = gs} above rest) each =
      ((record_encode last g).1 (above, each g (Memᴰ.head refl)), rw record_number_encode (right_written rest (λ h m. each h (Memᴰ.tail m))))

  pub right_encode : (last : ℕ) (gs : List Grant)
      → RightRecords doors last (map encode_record gs) ↔ (Ascending last gs × ((g : Grant) → Memᴰ g gs → RightGrant doors g))
  right_encode last gs = ((λ h. (rising last gs h, each_right last gs h)), (λ h. right_written h.0 h.1))
