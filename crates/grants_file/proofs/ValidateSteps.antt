-- What is wrong in a file, one block after the other, as the code finds it.
--   content_header, content_layout, content_records    a block behind its start
--   last-first, last_full                              the number that the records of the next block must be above
--   answer-start, answer_content, answer_sound         the answer of a block
--   defects_from f i                                    the first defect of the blocks from the i-th on
--   blocks_start, blocks_wrong, blocks_sound, blocks_end   the blocks left, one at a time
--   few_blocks, file_length                            the block count
-- Assumes nothing.
use Prim.Native.Nat.{ℕ, zero, suc, ◌+◌, ◌-◌, ◌<◌, ◌≤◌}
use mathlib.Core.Path.{◌≡◌, refl, sym, ◌∙◌}
use mathlib.Core.Bool.{true, false, not}
use mathlib.Core.List.{List, ◌++◌, flat_map}
use Rattle.std.specs.Bool.{⊤}
use Rattle.std.proofs.Common.{Result, Ok, Err}
use Rattle.std.specs.Result.{result_and}
use native.Mathlib.Numerals.{add-one, sub-one}
use native.Mathlib.Nat.{sub-zero}
use native.Mathlib.Omega.{arith}
use lib.Dec.{eqb}
use borrow.Author.Tests.{lt-leb}
use Rattle.lists.specs.Ranges.{count_from}
use Rattle.model.specs.declared.Interval.{Interval}
use Rattle.grants_file.specs.declared.Defect.{Defect}
use Rattle.grants_file.specs.declared.Defect.TheVariants.{Length}
use Rattle.grants_file.specs.Layout.{max_blocks, last_record_place}
use Rattle.grants_file.specs.Bytes.{be16_at}
use Rattle.grants_file.specs.Block.{count_of, records_of}
use Rattle.grants_file.specs.File.{count_in, blocks_in, block_at, wrong_block_count, total_in, doors_in}
use Rattle.grants_file.specs.Defects.{DefectCause, start_defects, layout_defects, header_defects, records_defects, last_before, miscounted}
use Rattle.grants_file.specs.Defects.{content_defects, block_defects, file_defects, first_defect, defect_in}
use Rattle.grants_file.specs.Answers.{block_answer}
use Rattle.grants_file.proofs.RecordSteps.{number_at}
use Rattle.grants_file.proofs.DefectLaws.{first_defect-append}
use Rattle.grants_file.proofs.CauseLaws.{wrong_block_count_iff}

-- the defects of a block's records
abbrev records_in : List ℕ → ℕ → List DefectCause
records_in f i = records_defects (doors_in f) i 1 (last_before f i) (records_of (block_at f i) (count_in (total_in f) i))

-- a block behind its start
module _ (f : List ℕ) where
  pub content_header : (i : ℕ) → i ≡ 0 → {r : Result ⊤ Defect} → r ≡ first_defect (header_defects f) → r ≡ first_defect (content_defects f i)
  unfolding content_defects
  content_header zero z e = e
  content_header (suc i) z e = absurd (omega arith)

  -- another block, by its count and the one that is due
  module _ (i : ℕ) (other : i ≡ 0 → ⊥) {b : List ℕ} (block : b ≡ block_at f i) {count due total : ℕ} (n : count ≡ count_of b) (t : total ≡ total_in f)
      (d : due ≡ count_in total i) {r : Result ⊤ Defect} (e : r ≡ first_defect (layout_defects b i (not (eqb count due)))) where
    content_other : content_defects f i ≡ layout_defects (block_at f i) i (miscounted f i) ++ records_in f i
    unfolding content_defects
    content_other = go i other
      where
        go : (j : ℕ) → (j ≡ 0 → ⊥) → content_defects f j ≡ layout_defects (block_at f j) j (miscounted f j) ++ records_in f j
        go zero z = absurd (z refl)
        go (suc j) z = refl

    laid : r ≡ first_defect (layout_defects (block_at f i) i (miscounted f i))
    laid = rw (n, d, t, block) at e

    pub content_layout : {x : Defect} → r ≡ Err x → Err x ≡ first_defect (content_defects f i)
    content_layout w = rw (content_other, first_defect-append, ← laid, w)

    pub content_records : r ≡ Ok tt → {doors : Interval} {last : ℕ} {s : Result ⊤ Defect} → doors ≡ doors_in f → last ≡ last_before f i
        → s ≡ first_defect (records_defects doors i 1 last (records_of b due)) → s ≡ first_defect (content_defects f i)
    content_records w p l e = rw (block, d, t, p, l) at e ∙ rw (content_other, first_defect-append, ← laid, w)

  -- the number in the place of the record that fills a block
  pub last-first : (i : ℕ) → i ≡ 0 → 0 ≡ last_before f (suc i)
  unfolding last_before
  last-first zero z = refl
  last-first (suc i) z = absurd (omega arith)

  pub last_full : (i : ℕ) → (i ≡ 0 → ⊥) → {b : List ℕ} {n : ℕ} → b ≡ block_at f i → n ≡ be16_at b last_record_place → n ≡ last_before f (suc i)
  unfolding last_before
  last_full zero z block e = absurd (z refl)
  last_full (suc i) z {b} block e =
      rw (lt-leb (suc (suc i)) 1 (omega arith), sub-one (suc (suc i)), ← block) (e ∙ sym (number_at b last_record_place))

-- the answer of a block
module _ (f : List ℕ) (i : ℕ) {b : List ℕ} (block : b ≡ block_at f i) {r : Result ⊤ Defect} (e : r ≡ first_defect (start_defects b i)) where
  first : r ≡ first_defect (start_defects (block_at f i) i)
  first = rw block at e

  pub answer-start : {x : Defect} → r ≡ Err x → Err x ≡ block_answer f i
  unfolding block_answer
  answer-start w = rw (first_defect-append, ← first, w)

  module _ (sound : r ≡ Ok tt) {s : Result ⊤ Defect} (rest : s ≡ first_defect (content_defects f i)) where
    pub answer_content : {x : Defect} → s ≡ Err x → Err x ≡ block_answer f i
    unfolding block_answer
    answer_content w = rw (first_defect-append, ← first, sound, ← rest, w)

    pub answer_sound : s ≡ Ok tt → {last : ℕ} → last ≡ last_before f (suc i) → Ok last ≡ block_answer f i
    unfolding block_answer
    answer_sound w l = rw (first_defect-append, ← first, sound, ← rest, w, ← l)

abbrev pub defects_from : List ℕ → ℕ → Result ⊤ Defect
defects_from f i = first_defect (flat_map (block_defects f) (count_from i (blocks_in f - i)))

-- a block's answer, taken apart
answer_wrong : (r : Result ⊤ Defect) (last : ℕ) {x : Defect} → result_and r (Ok last) ≡ Err x → r ≡ Err x
answer_wrong (Ok y) last e = let z : ◌≡◌ {A = ℕ} 0 1 = cc in absurd (omega arith)
answer_wrong (Err y) last e = cc

answer_last : (r : Result ⊤ Defect) (last : ℕ) {n : ℕ} → result_and r (Ok last) ≡ Ok n → (r ≡ Ok tt) × (n ≡ last)
answer_last (Ok y) last e = (refl, cc)
answer_last (Err y) last e = let z : ◌≡◌ {A = ℕ} 0 1 = cc in absurd (omega arith)

module _ (f : List ℕ) (i : ℕ) (left : i < blocks_in f) where
  blocks_cons : flat_map (block_defects f) (count_from i (blocks_in f - i))
      ≡ block_defects f i ++ flat_map (block_defects f) (count_from (i + 1) (blocks_in f - (i + 1)))
  unfolding count_from flat_map
  blocks_cons =
      let n : blocks_in f - i ≡ suc (blocks_in f - (i + 1)) = omega arith in
      rw (n, add-one i)

  pub blocks_wrong : {x : Defect} → block_answer f i ≡ Err x → Err x ≡ defects_from f i
  unfolding block_answer
  blocks_wrong e = rw (blocks_cons, first_defect-append, answer_wrong _ _ e)

  pub blocks_sound : {last : ℕ} → block_answer f i ≡ Ok last → (defects_from f (i + 1) ≡ defects_from f i) × (last ≡ last_before f (i + 1))
  unfolding block_answer
  blocks_sound e =
      let both = answer_last _ _ e in
      (rw (blocks_cons, first_defect-append, both.0), rw (add-one i) both.1)

module _ (f : List ℕ) where
  pub file_length : true ≡ wrong_block_count f → Err Length ≡ defect_in f
  unfolding file_defects first_defect
  file_length h = rw (← h)

  pub few_blocks : false ≡ wrong_block_count f → blocks_in f ≤ max_blocks
  few_blocks h = ((wrong_block_count_iff f).0 (sym h)).few

  pub blocks_start : false ≡ wrong_block_count f → defects_from f 0 ≡ defect_in f
  unfolding file_defects first_defect
  blocks_start h = rw (← h, sub-zero (blocks_in f))

  pub blocks_end : (i : ℕ) → blocks_in f ≤ i → Ok tt ≡ defects_from f i
  unfolding count_from flat_map first_defect
  blocks_end i h =
      let e : blocks_in f - i ≡ 0 = omega arith in
      rw e
