-- The first defect of a block's records, one test after the other, as the code finds it.
--   record_number_lem .. record_doors        a record: its number, a check of its values (`asked_of`) as of a request, then its doors
--   records_wrong, records_next, records_end   the records left, one at a time
-- Assumes nothing.
use Prim.Native.Nat.{ℕ, ◌+◌, ◌-◌, ◌<◌, ◌≤◌}
use mathlib.Core.Path.{◌≡◌, sym, ap, ap₂, ◌∙◌}
use mathlib.Core.Bool.{true, false, not}
use mathlib.Core.List.{List, [], ◌∷◌}
use Rattle.std.specs.Bool.{⊤}
use Rattle.std.proofs.Common.{Result, Ok, Err}
use native.Mathlib.Numerals.{add-one}
use native.Mathlib.Omega.{arith}
use lib.ListN.{get_or}
use borrow.Author.Tests.{le-leb, lt-leb}
use Rattle.lists.specs.Ranges.{count_from}
use Rattle.model.specs.declared.Grant.{Grant}
use Rattle.model.specs.declared.Interval.{Interval}
use Rattle.model.specs.Box.{doors_of}
use Rattle.model.specs.Overlap.{overlap_on}
use Rattle.model.specs.declared.RequestFault.{RequestFault}
use Rattle.model.specs.Grant.{touches}
use Rattle.model.specs.Call.{Request, request}
use Rattle.model.specs.Arguments.{request_order, first_wrong}
use Rattle.grants_file.specs.declared.Defect.{Defect}
use Rattle.grants_file.specs.declared.Defect.TheVariants.{Record}
use Rattle.grants_file.specs.declared.RecordFault.{RecordFault}
use Rattle.grants_file.specs.declared.RecordFault.TheVariants.{NumberOrder, Doors}
use Rattle.grants_file.specs.Layout.{record_place, kind_place}
use Rattle.grants_file.specs.Bytes.{be16_at}
use Rattle.grants_file.specs.Record.{record_number, record_request, decode_record}
use Rattle.grants_file.specs.Defects.{◌when◌}
use Rattle.grants_file.specs.Defects.{record_fault, record_defects, records_defects, first_defect}
use Rattle.grants_file.proofs.RecordSteps.{record_at, number_at, kind_at}
use Rattle.grants_file.proofs.BlockSteps.{records_from, records_cons}
use Rattle.grants_file.proofs.DefectLaws.{first_defect-append}
use Rattle.grants_file.proofs.RequestDefectLaws.{check_defect, first_wrong-defect}

-- a record
module _ (doors : Interval) (i k last : ℕ) (b : List ℕ) (at : ℕ) {g : Grant} (read : g ≡ decode_record (record_at b at)) where
  number : g.number ≡ record_number (record_at b at)
  unfolding decode_record
  number = ap (λ (h : Grant). h.number) read

  pub record_number_lem : g.number ≤ last → Err (Record i k g.number NumberOrder) ≡ first_defect (record_defects doors i k last (record_at b at))
  unfolding first_defect
  record_number_lem h = rw (← number, le-leb g.number last h)

  -- the values that the code checks
  abbrev pub asked_of : Request
  asked_of = request g.number g.rank (get_or b (at + kind_place) 0) g.bounds

  asked : asked_of ≡ record_request (record_at b at)
  unfolding decode_record
  asked = ap₂ (λ (h : Grant) (kind : ℕ). request h.number h.rank kind h.bounds) read (sym (kind_at b at))

  module _ (above : last < g.number) {c : Result ⊤ RequestFault} (check : c ≡ first_wrong asked_of request_order) where
    -- the defect by what the check found, and by the doors where it found nothing
    checked : first_defect (record_defects doors i k last (record_at b at))
        ≡ check_defect i k g.number c (first_defect (Record i k g.number Doors when not (touches doors g) ∷ []))
    unfolding first_defect
    checked =
        let r = record_at b at in
        let touch = Record i k (record_number r) Doors when not (touches doors (decode_record r)) in
        rw (lt-leb (record_number r) last (omega (arith, number)))
        (first_wrong-defect i k (record_number r) (record_request r) request_order (touch ∷ [])
        ∙ ap (λ (d : Result ⊤ RequestFault). check_defect i k (record_number r) d (first_defect (touch ∷ [])))
        (sym (check ∙ ap (λ (q : Request). first_wrong q request_order) asked))
        ∙ ap₂ (λ (n : ℕ) (h : Grant). check_defect i k n c (first_defect (Record i k n Doors when not (touches doors h) ∷ []))) (sym number) (sym read))

    pub record_wrong : {x : RequestFault} → c ≡ Err x → {y : RecordFault} → y ≡ record_fault x
        → Err (Record i k g.number y) ≡ first_defect (record_defects doors i k last (record_at b at))
    record_wrong e same = sym (checked ∙ rw (e, same))

    module _ (right : c ≡ Ok tt) where
      pub record_sound : true ≡ overlap_on (doors_of g.bounds) doors → Ok tt ≡ first_defect (record_defects doors i k last (record_at b at))
      unfolding first_defect
      record_sound h = sym (checked ∙ rw (right, ← h))

      pub record_doors : false ≡ overlap_on (doors_of g.bounds) doors
          → Err (Record i k g.number Doors) ≡ first_defect (record_defects doors i k last (record_at b at))
      unfolding first_defect
      record_doors h = sym (checked ∙ rw (right, ← h))

-- the records from the i-th on, of n
module _ (doors : Interval) (m last : ℕ) (b : List ℕ) (i n : ℕ) where
  -- what is wrong in them
  abbrev pub defect_from : Result ⊤ Defect
  defect_from = first_defect (records_defects doors m (i + 1) last (records_from b i n))

  -- what is wrong in the first of them
  abbrev pub defect_at : Result ⊤ Defect
  defect_at = first_defect (record_defects doors m (i + 1) last (record_at b (record_place i)))

  module _ (more : i < n) where
    pub records_wrong : {x : Defect} → Err x ≡ defect_at → Err x ≡ defect_from
    unfolding records_defects
    records_wrong e = rw (records_cons b i n more, first_defect-append, ← e)

    pub records_next : Ok tt ≡ defect_at → {next : ℕ} → next ≡ be16_at b (record_place i)
        → first_defect (records_defects doors m (i + 1 + 1) next (records_from b (i + 1) n)) ≡ defect_from
    unfolding records_defects
    records_next e h = rw (records_cons b i n more, h, ← number_at b (record_place i), add-one (i + 1), first_defect-append, ← e)

  pub records_end : n ≤ i → Ok tt ≡ defect_from
  unfolding records_defects count_from first_defect
  records_end h =
      let e : n - i ≡ 0 = omega arith in
      rw e
