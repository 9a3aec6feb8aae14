-- The grants of an accepted file, by the places of their records in its bytes.
--   answer-accepted, answer-refused    what the verdict on a file says of its causes
--   accepted_header, accepted-whole    block 0 of an accepted file, and how many blocks there are
--   place_of i                          where the record of grant i lies, from 0 on, across the blocks
--   record_inside                      it lies in the file
--   grant_here                         and gives grant i
-- Assumes nothing.
use Prim.Native.Nat.{ℕ, suc, ◌+◌, ◌-◌, ◌*◌, ◌/◌, ◌%◌, ◌≤◌, ◌<◌}
use mathlib.Core.Path.{◌≡◌, sym, ap, ◌∙◌}
use mathlib.Core.List.{List, [], ◌∷◌}
use Rattle.std.proofs.Common.{Some}
use native.Mathlib.Omega.{arith}
use native.Mathlib.Numerals.{add-one}
use native.Mathlib.Nat.{zero-add}
use lib.ListN
use lib.ListN.{length, get_or, take, drop}
use lib.Seq.{get_or-take, get_or-drop, take-take, drop-drop, drop-cons}
use Rattle.lists.specs.Ranges.{count_from}
use Rattle.lists.proofs.ListLaws.{drop-take}
use Rattle.lists.proofs.RangeLaws.{length-count_from, get_d_count_from}
use Rattle.lists.proofs.ElementLaws.{get_d_map}
use Rattle.model.specs.declared.Grant.{Grant}
use Rattle.model.specs.declared.Fault.{Fault}
use Rattle.model.specs.Answer.{accepted, refusal}
use Rattle.model.specs.Refusal.{first_fault}
use Rattle.model.proofs.JudgedLaws.{none_of_iff}
use Rattle.grants_file.specs.Layout.{record_bytes, block_bytes, records_place, records_per_block}
use Rattle.grants_file.specs.Record.{decode_record}
use Rattle.grants_file.specs.Block.{records_of}
use Rattle.grants_file.specs.File.{count_in, block_at, total_in, grants_in}
use Rattle.grants_file.specs.Verdict.{file_causes, judging}
use Rattle.grants_file.specs.FileSets.{Accepted}
use Rattle.grants_file.proofs.DefectLaws.{judging-accepted, judging-refused}
use Rattle.grants_file.proofs.CauseLaws.{RightHeader, Whole, accepted_iff}
use Rattle.grants_file.proofs.FileLaws.{grants_of, length-grants_in, chunk-grants_in}
use Rattle.grants_file.proofs.RecordSteps.{record_at}

-- what the verdict says of the causes
module _ (f : List ℕ) where
  pub answer-accepted : (judging (file_causes f) f).answer ≡ accepted [] → Accepted f
  answer-accepted e = (none_of_iff (file_causes f)).1 (judging-accepted f (file_causes f) e)

  pub answer-refused : (x : Fault) → (judging (file_causes f) f).answer ≡ refusal x → first_fault (file_causes f) ≡ Some x
  answer-refused x e = judging-refused f (file_causes f) x e

-- where the record of grant i lies
abbrev pub place_of : ℕ → ℕ
place_of i = block_bytes * (1 + i / records_per_block) + records_place + record_bytes * (i % records_per_block)

-- the record at a place of a block is the one at its place in the file
record_part : (f : List ℕ) (q r : ℕ) → r < records_per_block
    → record_at (block_at f q) (records_place + record_bytes * r) ≡ record_at f (block_bytes * q + records_place + record_bytes * r)
record_part f q r h =
    let at = records_place + record_bytes * r in
    ap (take record_bytes) (drop-take at block_bytes (drop (block_bytes * q) f))
    ∙ take-take record_bytes (block_bytes - at) (drop at (drop (block_bytes * q) f)) (omega arith)
    ∙ ap (take record_bytes) (drop-drop at (block_bytes * q) f)
    ∙ ap (λ (k : ℕ). record_at f k) {x = block_bytes * q + at} {y = block_bytes * q + records_place + record_bytes * r} (omega arith)

module _ (f : List ℕ) (a : Accepted f) where
  pub accepted_header : RightHeader f
  accepted_header = ((accepted_iff f).0 a).header

  pub accepted-whole : Whole f
  accepted-whole = ((accepted_iff f).0 a).whole

  module _ (i : ℕ) (h : i < total_in f) where
    pub record_inside : place_of i + record_bytes ≤ length f
    record_inside = omega (arith, accepted_header.blocks, accepted-whole.whole)

    -- its block, less one, and its place there
    abbrev q : ℕ
    q = i / records_per_block

    abbrev r : ℕ
    r = i % records_per_block

    abbrev d : Grant
    d = decode_record []

    -- the record in its block
    in_block : get_or (grants_of f (suc q)) r d ≡ decode_record (record_at (block_at f (suc q)) (records_place + record_bytes * r))
    unfolding grants_of records_of
    in_block =
        let few : r < count_in (total_in f) (suc q) = omega arith in
        let place : length (count_from 0 (count_in (total_in f) (suc q))) ≡ count_in (total_in f) (suc q) = length-count_from 0 _ in
        ListN.get_or-map decode_record (records_of (block_at f (suc q)) (count_in (total_in f) (suc q))) r []
        ∙ ap decode_record (get_d_map _ (count_from 0 (count_in (total_in f) (suc q))) r 0 [] (omega (arith, place)))
        ∙ ap (λ (k : ℕ). decode_record (record_at (block_at f (suc q)) (records_place + record_bytes * k))) (get_d_count_from 0 _ r 0 few ∙ zero-add r)

    element : get_or (grants_in f) i d ≡ decode_record (record_at f (place_of i))
    element =
        ap (λ (k : ℕ). get_or (grants_in f) k d) (omega arith)
        ∙ sym (get_or-drop (records_per_block * (suc q - 1)) (grants_in f) r d)
        ∙ sym (get_or-take records_per_block (drop (records_per_block * (suc q - 1)) (grants_in f)) r d (omega arith))
        ∙ ap (λ (gs : List Grant). get_or gs r d) (chunk-grants_in f q (omega arith))
        ∙ in_block
        ∙ ap decode_record (record_part f (suc q) r (omega arith))
        ∙ ap (λ (k : ℕ). decode_record (record_at f k)) {x = block_bytes * suc q + records_place + record_bytes * r} {y = place_of i} (omega arith)

    pub grant_here : drop i (grants_in f) ≡ decode_record (record_at f (place_of i)) ∷ drop (i + 1) (grants_in f)
    grant_here =
        drop-cons (grants_in f) i d (omega (arith, length-grants_in f))
        ∙ rw (element, add-one i)
