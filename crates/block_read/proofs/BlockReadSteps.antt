-- Block read's tests, one after the other, as the code makes them, and what an accepted block has.
--   alone-start, alone_header, alone_layout the defects of a block
--   read_length, read_answer                the verdict
--   length_in, done_in, done_count          the block is in the file; its count is at most 31
--   RecordsAt f i, part_cases               the part of a block is empty, or that of 1 to 31 records of a block in the file
--   occupies, occupies_as                   a slice that is a part of another
--   part-refused, part_header, part_records the part
-- Assumes nothing.
use Prim.Native.Nat.{ℕ, zero, suc, ◌+◌, ◌<◌, ◌≤◌}
use mathlib.Core.Logic.{◌⊎◌, inl, inr}
use mathlib.Core.Path.{◌≡◌, refl, sym, ap, subst, ◌∙◌}
use mathlib.Core.Bool.{Bool, true, false, not, cond, ◌&&◌, and-eq-true_iff}
use mathlib.Core.List.{List, []}
use Rattle.std.specs.Bool.{⊤}
use Rattle.std.proofs.Common.{Option, None, Some, Result, Ok, Err}
use native.Mathlib.Omega.{arith}
use lib.Dec.{eqb, leb}
use lib.ListN.{length, drop, length-take, length-drop}
use denote.Ref.{Bor}
use borrow.Author.Tests.{leb-true, leb-false, eqb-true, not-false}
use Rattle.lists.proofs.OrLaws.{or_false_iff}
use Rattle.model.specs.declared.Fault.{Fault}
use Rattle.model.specs.declared.Fault.TheVariants.{BadLength}
use Rattle.model.specs.Answer.{accepted, refusal, outcome_answer}
use Rattle.model.specs.Refusal.{first_fault, refusing}
use Rattle.model.proofs.RefusalLaws.{causes_absent}
use Rattle.grants_file.specs.declared.Defect.{Defect}
use Rattle.grants_file.specs.Layout.{header_end, records_per_block}
use Rattle.grants_file.specs.Bytes.{bytes_at}
use Rattle.grants_file.specs.Block.{count_of}
use Rattle.grants_file.specs.File.{blocks_in, block_at, wrong_block_count}
use Rattle.grants_file.specs.Defects.{start_defects, padding_defects, layout_defects, first_defect}
use Rattle.block_read.specs.BlockRead.{not_in_file, wrong_count, rest_defects, read_defects, read_causes, block_call}
use Rattle.block_read.specs.BlockRead.{Part, empty_part, records_part, part_at, Occupies}
use Rattle.grants_file.proofs.DefectLaws.{first_defect-append, outcome_of, clear_parts, clear_append, answer-first, judging-accepted, judging-refused}

-- a block alone
module _ (f : List ℕ) {b : List ℕ} {r : Result ⊤ Defect} where
  pub alone-start : (i : ℕ) → b ≡ block_at f i → r ≡ first_defect (start_defects b i) → {x : Defect} → r ≡ Err x → Err x ≡ first_defect (read_defects f i)
  alone-start i block e w = let first = rw block at e in rw (first_defect-append, ← first, w)

  sound_start : (i : ℕ) → b ≡ block_at f i → r ≡ first_defect (start_defects b i) → r ≡ Ok tt
      → first_defect (read_defects f i) ≡ first_defect (rest_defects f i)
  sound_start i block e w = let first = rw block at e in rw (first_defect-append, ← first, w)

  pub alone_header : (i : ℕ) → b ≡ block_at f i → r ≡ first_defect (start_defects b i) → r ≡ Ok tt → i ≡ 0
      → {s : Result ⊤ Defect} → s ≡ first_defect (padding_defects b i header_end) → s ≡ first_defect (read_defects f i)
  unfolding rest_defects
  alone_header zero block e w z d = rw block at d ∙ sym (sound_start 0 block e w)
  alone_header (suc i) block e w z d = absurd (omega arith)

  pub alone_layout : (i : ℕ) → b ≡ block_at f i → r ≡ first_defect (start_defects b i) → r ≡ Ok tt → (i ≡ 0 → ⊥)
      → {t : Bool} {s : Result ⊤ Defect} → t ≡ wrong_count f i → s ≡ first_defect (layout_defects b i t) → s ≡ first_defect (read_defects f i)
  unfolding rest_defects
  alone_layout zero block e w z c d = absurd (z refl)
  alone_layout (suc i) block e w z c d = rw (c, block) at d ∙ sym (sound_start (suc i) block e w)

module _ (f : List ℕ) (i : ℕ) where
  pub read_length : true ≡ not_in_file f i → refusal BadLength ≡ (block_call f i).answer
  unfolding block_call read_causes refusing first_fault
  read_length h = rw (← h)

  pub read_answer : false ≡ not_in_file f i → {r : Result ⊤ Defect} → r ≡ first_defect (read_defects f i)
      → outcome_answer (outcome_of r) ≡ (block_call f i).answer
  unfolding block_call read_causes refusing first_fault
  read_answer h e = rw (← h) (answer-first f (read_defects f i) e)

  pub length_in : false ≡ not_in_file f i → i < blocks_in f
  unfolding not_in_file
  length_in h = leb-false (blocks_in f) i ((or_false_iff (wrong_block_count f) (leb (blocks_in f) i)).0 (sym h)).1

no_fault : (f : List ℕ) (i : ℕ) → accepted [] ≡ (block_call f i).answer → first_fault (read_causes f i) ≡ None
unfolding block_call
no_fault f i e = judging-accepted f (read_causes f i) (sym e)

present_of : (f : List ℕ) (i : ℕ) → first_fault (read_causes f i) ≡ None → not_in_file f i ≡ false
unfolding read_causes
present_of f i e = (causes_absent _ _ e).0

pub done_in : (f : List ℕ) (i : ℕ) → accepted [] ≡ (block_call f i).answer → i < blocks_in f
done_in f i e = length_in f i (sym (present_of f i (no_fault f i e)))

few : (last : Bool) (n : ℕ) → not (cond last (leb 1 n && leb n records_per_block) (eqb n records_per_block)) ≡ false → (1 ≤ n) × (n ≤ records_per_block)
few true n e =
    let both = (and-eq-true_iff (leb 1 n) (leb n records_per_block)).0 (not-false (leb 1 n && leb n records_per_block) e) in
    (leb-true 1 n both.0, leb-true n records_per_block both.1)
few false n e = let same = eqb-true n records_per_block (not-false (eqb n records_per_block) e) in (omega arith, omega arith)

-- an accepted block behind block 0 has 1 to 31 records
counted : (f : List ℕ) (i : ℕ) → first_fault (read_causes f (suc i)) ≡ None
    → (1 ≤ count_of (block_at f (suc i))) × (count_of (block_at f (suc i)) ≤ records_per_block)
unfolding read_causes rest_defects wrong_count
counted f i e =
    let b = block_at f (suc i) in
    let clear = ((clear_append (start_defects b (suc i)) (rest_defects f (suc i))).0 (causes_absent _ _ e).1).1 in
    few (eqb (suc (suc i)) (blocks_in f)) (count_of b) (clear_parts _ _ clear).0

pub done_count : (f : List ℕ) (i : ℕ) → accepted [] ≡ (block_call f i).answer → (i ≡ 0 → ⊥) → count_of (block_at f i) ≤ records_per_block
done_count f zero e h = absurd (h refl)
done_count f (suc i) e h = (counted f i (no_fault f (suc i) e)).1

-- what a part with bytes is
pub record RecordsAt (f : List ℕ) (i : ℕ) : Type 0 where
  pub part : part_at f i ≡ records_part f i
  pub present : not_in_file f i ≡ false
  pub some : 1 ≤ count_of (block_at f i)
  pub few : count_of (block_at f i) ≤ records_per_block

pub part_cases : (f : List ℕ) (i : ℕ) → (part_at f i ≡ empty_part) ⊎ RecordsAt f i
part_cases f zero = inl (go (first_fault (read_causes f 0)) refl)
  where
    go : (o : Option Fault) → first_fault (read_causes f 0) ≡ o → part_at f 0 ≡ empty_part
    go None e = rw e
    go (Some fault) e = rw e
part_cases f (suc i) = go (first_fault (read_causes f (suc i))) refl
  where
    go : (o : Option Fault) → first_fault (read_causes f (suc i)) ≡ o → (part_at f (suc i) ≡ empty_part) ⊎ RecordsAt f (suc i)
    go None e =
        let n = counted f i e in
        inr (record { part = rw e; present = present_of f (suc i) e; some = n.0; few = n.1 })
    go (Some fault) e = inl (rw e)

-- a slice that begins so many bytes behind the start of another, in its memory, and has the bytes there
pub occupies : {p : Part} {whole part : Bor (List ℕ)} → part.ref_ptr.0 ≡ whole.ref_ptr.0 → part.ref_ptr.1 ≡ whole.ref_ptr.1 + p.from
    → part.now ≡ bytes_at whole.now p.from p.size → p.from + p.size ≤ length whole.now → Occupies p whole part
occupies {p} {whole} memory place bytes inside =
    let rest = drop p.from whole.now in
    let long = ap length bytes ∙ length-take p.size rest in
    record { memory = memory; place = place; long = omega (arith, long, length-drop p.from whole.now); bytes = bytes }

pub occupies_as : {p q : Part} {whole part : Bor (List ℕ)} → p ≡ q → Occupies p whole part → Occupies q whole part
occupies_as {whole = whole} {part = part} e h = subst (λ (p : Part). Occupies p whole part) e h

-- the part of a block that is refused, of block 0, and of any other
module _ (f : List ℕ) (i : ℕ) where
  pub part-refused : (fault : Fault) → refusal fault ≡ (block_call f i).answer → part_at f i ≡ empty_part
  unfolding block_call
  part-refused fault e = rw (judging-refused f (read_causes f i) fault (sym e))

pub part_header : (f : List ℕ) (i : ℕ) → accepted [] ≡ (block_call f i).answer → i ≡ 0 → part_at f i ≡ empty_part
part_header f zero e h = rw (no_fault f 0 e)
part_header f (suc i) e h = absurd (omega arith)

pub part_records : (f : List ℕ) (i : ℕ) → accepted [] ≡ (block_call f i).answer → (i ≡ 0 → ⊥) → part_at f i ≡ records_part f i
part_records f zero e h = absurd (h refl)
part_records f (suc i) e h = rw (no_fault f (suc i) e)
