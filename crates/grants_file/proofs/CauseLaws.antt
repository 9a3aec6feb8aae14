-- What it says that no defect of specs/Defects is there.
--   Whole f, RightStart b i, RightHeader f, RightLayout f i, RightRecordsIn f i    no defect of a file's length, of a block's start, ..
--   wrong_block_count_iff, start_iff, header_iff, content_iff     which is that none is there
--   Passes f            no defect of any kind
--   accepted_iff        which is that the file is accepted
--   accepted-block      then no block has a defect
-- Assumes nothing.
use Prim.Native.Nat.{ℕ, zero, suc, ◌*◌, ◌%◌, ◌≤◌, ◌<◌}
use mathlib.Core.Logic.{◌↔◌}
use mathlib.Core.Path.{◌≡◌, sym, ap, ◌∙◌}
use mathlib.Core.Bool.{true, false, not, ◌&&◌, and-eq-true_iff}
use mathlib.Core.List.Memᴰ
use mathlib.Core.List.{List, flat_map, Memᴰ}
use native.Mathlib.Omega.{arith}
use native.Mathlib.Nat.{zero-add}
use borrow.Author.Tests.{leb-true, le-leb, ltb-false, le-ltb, eqb-true, eq-eqb, not-false}
use lib.Dec.{leb, eqb}
use lib.ListN.{length}
use Rattle.lists.specs.Ranges.{count_from}
use Rattle.lists.proofs.ElementLaws.{mem_get_d}
use Rattle.lists.proofs.RangeLaws.{length-count_from, get_d_count_from}
use Rattle.lists.proofs.ListLaws.{count_from_mem}
use Rattle.model.specs.Limits.{max_grants}
use Rattle.model.proofs.JudgedLaws.{none_of_iff}
use Rattle.grants_file.specs.Layout.{block_bytes, max_blocks, number_place, header_end, record_place}
use Rattle.grants_file.specs.Bytes.{be16_at}
use Rattle.grants_file.specs.Block.{count_of, records_of, has_magic, wrong_checksum, wrong_padding}
use Rattle.grants_file.specs.File.{blocks_for, count_in, blocks_in, block_at, wrong_block_count, total_in, doors_in}
use Rattle.grants_file.specs.Defects.{start_defects, layout_defects, header_defects, records_defects, last_before}
use Rattle.grants_file.specs.Defects.{miscounted, content_defects, block_defects, file_defects}
use Rattle.grants_file.specs.Verdict.{file_causes}
use Rattle.grants_file.specs.FileSets.{Accepted}
use Rattle.grants_file.proofs.DefectLaws.{Clear, clear_nil, clear_cons, clear_parts, clear_append, clear_flat_map}
use Rattle.grants_file.proofs.RightRecordLaws.{RightRecords, records_iff}

-- what the block count of a file is
pub record Whole (f : List ℕ) : Type 0 where
  pub whole : length f ≡ block_bytes * blocks_in f
  pub some : 1 ≤ blocks_in f
  pub few : blocks_in f ≤ max_blocks

pub wrong_block_count_iff : (f : List ℕ) → (wrong_block_count f ≡ false) ↔ Whole f
unfolding wrong_block_count
wrong_block_count_iff f =
    let even = eqb (length f % block_bytes) 0 in
    let low = leb 1 (blocks_in f) in
    let high = leb (blocks_in f) max_blocks in (
      (λ e.
          let three = (and-eq-true_iff (even && low) high).0 (not-false _ e) in
          let two = (and-eq-true_iff even low).0 three.0 in
          let rest : length f % block_bytes ≡ 0 = eqb-true _ _ two.0 in
          record { whole = omega arith; some = leb-true 1 (blocks_in f) two.1; few = leb-true (blocks_in f) max_blocks three.1 }),
      (λ h.
          let rest : length f % block_bytes ≡ 0 = omega arith in
          ap not
          ((and-eq-true_iff (even && low) high).1
          ((and-eq-true_iff even low).1 (eq-eqb _ _ rest, le-leb 1 (blocks_in f) h.some), le-leb (blocks_in f) max_blocks h.few))),
    )

-- the start of block i, in its bytes b
pub record RightStart (b : List ℕ) (i : ℕ) : Type 0 where
  pub checksum : wrong_checksum b ≡ false
  pub mark : has_magic b ≡ true
  pub number : be16_at b number_place ≡ i

pub start_iff : (b : List ℕ) (i : ℕ) → Clear (start_defects b i) ↔ RightStart b i
start_iff b i = (
  (λ e.
      let check = clear_parts _ _ e in
      let mark = clear_parts _ _ check.1 in
      record {
        checksum = check.0;
        mark = not-false (has_magic b) mark.0;
        number = eqb-true (be16_at b number_place) i (not-false _ (clear_parts _ _ mark.1).0);
      }),
  (λ h.
      clear_cons _ _ h.checksum (clear_cons _ _ (ap not h.mark) (clear_cons _ _ (ap not (eq-eqb (be16_at b number_place) i h.number)) clear_nil))),
)

-- block 0, behind its start
pub record RightHeader (f : List ℕ) : Type 0 where
  pub few : total_in f ≤ max_grants
  pub blocks : blocks_in f ≡ blocks_for (total_in f)
  pub order : (doors_in f).from ≤ (doors_in f).to
  pub fill : wrong_padding (block_at f 0) header_end ≡ false

pub header_iff : (f : List ℕ) → Clear (header_defects f) ↔ RightHeader f
header_iff f = (
  (λ e.
      let few = clear_parts _ _ e in
      let blocks = clear_parts _ _ few.1 in
      let order = clear_parts _ _ blocks.1 in
      record {
        few = ltb-false max_grants (total_in f) few.0;
        blocks = eqb-true (blocks_in f) (blocks_for (total_in f)) (not-false _ blocks.0);
        order = ltb-false (doors_in f).to (doors_in f).from order.0;
        fill = (clear_parts _ _ order.1).0;
      }),
  (λ h.
      clear_cons _ _ (le-ltb max_grants (total_in f) h.few)
      (clear_cons _ _ (ap not (eq-eqb (blocks_in f) (blocks_for (total_in f)) h.blocks))
      (clear_cons _ _ (le-ltb (doors_in f).to (doors_in f).from h.order) (clear_cons _ _ h.fill clear_nil)))),
)

-- block i, behind its start: its record count and fill
pub record RightLayout (f : List ℕ) (i : ℕ) : Type 0 where
  pub count : count_of (block_at f i) ≡ count_in (total_in f) i
  pub fill : wrong_padding (block_at f i) (record_place (count_of (block_at f i))) ≡ false

layout_iff : (f : List ℕ) (i : ℕ) → Clear (layout_defects (block_at f i) i (miscounted f i)) ↔ RightLayout f i
layout_iff f i = (
  (λ e.
      let count = clear_parts _ _ e in
      record {
        count = eqb-true (count_of (block_at f i)) (count_in (total_in f) i) (not-false _ count.0);
        fill = (clear_parts _ _ count.1).0;
      }),
  (λ h. clear_cons _ _ (ap not (eq-eqb (count_of (block_at f i)) (count_in (total_in f) i) h.count)) (clear_cons _ _ h.fill clear_nil)),
)

-- and its records
abbrev pub RightRecordsIn : List ℕ → ℕ → Type 0
RightRecordsIn f i = RightRecords (doors_in f) (last_before f i) (records_of (block_at f i) (count_in (total_in f) i))

content_iff : (f : List ℕ) (i : ℕ) → Clear (content_defects f (suc i)) ↔ (RightLayout f (suc i) × RightRecordsIn f (suc i))
unfolding content_defects
content_iff f i =
    let b = block_at f (suc i) in
    let layout = layout_defects b (suc i) (miscounted f (suc i)) in
    let joined = clear_append layout (records_defects (doors_in f) (suc i) 1 (last_before f (suc i)) (records_of b (count_in (total_in f) (suc i)))) in
    let records = records_iff (doors_in f) (suc i) 1 (last_before f (suc i)) (records_of b (count_in (total_in f) (suc i))) in (
      (λ e. let both = joined.0 e in ((layout_iff f (suc i)).0 both.0, records.0 both.1)),
      (λ h. joined.1 ((layout_iff f (suc i)).1 h.0, records.1 h.1)),
    )

-- no defect is in the bytes f
pub record Passes (f : List ℕ) : Type 0 where
  pub whole : Whole f
  pub starts : (i : ℕ) → i < blocks_in f → RightStart (block_at f i) i
  pub header : RightHeader f
  pub layouts : (i : ℕ) → suc i < blocks_in f → RightLayout f (suc i)
  pub records : (i : ℕ) → suc i < blocks_in f → RightRecordsIn f (suc i)

block_mem : (n i : ℕ) → i < n → Memᴰ i (count_from 0 n)
block_mem n i h = Memᴰ.cast (sym (get_d_count_from 0 n i 0 h ∙ zero-add i)) (mem_get_d (count_from 0 n) i 0 (omega (arith, length-count_from 0 n)))

module _ (f : List ℕ) where
  file_causes_lem : Accepted f → (wrong_block_count f ≡ false) × Clear (flat_map (block_defects f) (count_from 0 (blocks_in f)))
  unfolding file_causes file_defects
  file_causes_lem e = clear_parts _ _ ((none_of_iff (file_causes f)).0 e)

  pub accepted-block : Accepted f → (i : ℕ) → i < blocks_in f → Clear (block_defects f i)
  accepted-block e i h = (clear_flat_map (block_defects f) (count_from 0 (blocks_in f))).0 (file_causes_lem e).1 i (block_mem (blocks_in f) i h)

  accepted-passes : Accepted f → Passes f
  unfolding content_defects
  accepted-passes e =
      let whole = (wrong_block_count_iff f).0 (file_causes_lem e).0 in
      record {
        whole = whole;
        starts = λ i h. (start_iff (block_at f i) i).0 (block i h).0;
        header = (header_iff f).0 (block 0 (omega (arith, whole.some))).1;
        layouts = λ i h. ((content_iff f i).0 (block (suc i) h).1).0;
        records = λ i h. ((content_iff f i).0 (block (suc i) h).1).1;
      }
    where
      block : (i : ℕ) → i < blocks_in f → Clear (start_defects (block_at f i) i) × Clear (content_defects f i)
      block i h = (clear_append (start_defects (block_at f i) i) (content_defects f i)).0 (accepted-block e i h)

  passes_content : Passes f → (i : ℕ) → i < blocks_in f → Clear (content_defects f i)
  unfolding content_defects
  passes_content p zero h = (header_iff f).1 p.header
  passes_content p (suc i) h = (content_iff f i).1 (p.layouts i h, p.records i h)

  passes-accepted : Passes f → Accepted f
  unfolding file_causes file_defects
  passes-accepted p =
      (none_of_iff (file_causes f)).1
      (clear_cons _ _ ((wrong_block_count_iff f).1 p.whole)
      ((clear_flat_map (block_defects f) (count_from 0 (blocks_in f))).1
      (λ i m.
      let inside = count_from_mem 0 (blocks_in f) i m in
      let here : i < blocks_in f = omega arith in
      (clear_append (start_defects (block_at f i) i) (content_defects f i)).1 ((start_iff (block_at f i) i).1 (p.starts i here), passes_content p i here))))

pub accepted_iff : (f : List ℕ) → Accepted f ↔ Passes f
accepted_iff f = (accepted-passes f, passes-accepted f)
