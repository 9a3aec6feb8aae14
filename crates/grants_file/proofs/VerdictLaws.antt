-- Laws of specs/Verdict: the accepted files are those of a door range and a set of grants.
--   file_of-accepted                  the file of a set is accepted
--   passes-written, passes-set       an accepted file is that of the doors and grants that it gives, and these are a file's set
--   accepted-files                   both (demand 2)
-- Assumes nothing.
use Prim.Native.Nat.{ℕ, zero, suc, ◌+◌, ◌*◌, ◌≤◌, ◌<◌}
use mathlib.Core.Logic.{◌↔◌}
use mathlib.Core.Path.{◌≡◌, refl, sym, ap, ap₂, subst, transport, ◌∙◌}
use mathlib.Core.List.Memᴰ
use mathlib.Core.List.{List, map, flat_map, Memᴰ}
use native.Mathlib.Omega.{arith}
use native.Mathlib.Numerals.{sub-one}
use native.Mathlib.Nat.{zero-add, mul-suc}
use borrow.Author.Tests.{lt-leb}
use lib.ListN.{length, take, drop, take-append-drop, drop_of_length-le, length-map}
use lib.Seq.{drop-drop, take-add}
use Rattle.lists.specs.Ranges.{count_from}
use Rattle.lists.proofs.ListLaws.{count_from_mem, flat_map_same, map-take, map-drop}
use Rattle.model.specs.declared.Grant.{Grant}
use Rattle.model.specs.Limits.{max_grants}
use Rattle.model.specs.declared.Interval.{Interval}
use Rattle.model.specs.Values.{byte_values, Below, GrantFits}
use Rattle.grants_file.specs.Layout.{block_bytes, records_per_block}
use Rattle.grants_file.specs.Bytes.{be16_at}
use Rattle.grants_file.specs.Record.{encode_record, decode_record}
use Rattle.grants_file.specs.Block.{header_block, record_block, count_of, records_of}
use Rattle.grants_file.specs.File.{record_blocks, blocks_for, count_in, chunk, file_of, blocks_in, block_at, total_in, doors_in, grants_in}
use Rattle.grants_file.specs.Defects.{last_before}
use Rattle.grants_file.specs.FileSets.{Accepted, FileSet}
use Rattle.grants_file.proofs.BytesLaws.{bytes_at_below, be16_at-below, be16_at-part}
use Rattle.grants_file.proofs.RecordLaws.{decode_record-fits}
use Rattle.grants_file.proofs.RightRecordLaws.{RightRecords, last_number, last_number_append, RightGrant, right_append, right_kinds, right_encode}
use Rattle.grants_file.proofs.BlockLaws.{wrong_checksum-header_block, has_magic-header_block, number-header_block, wrong_padding-header_block}
use Rattle.grants_file.proofs.BlockLaws.{wrong_checksum-record_block, has_magic-record_block}
use Rattle.grants_file.proofs.BlockLaws.{number-record_block, count_of-record_block, wrong_padding-record_block, records_of_mem, header_block-take}
use Rattle.grants_file.proofs.BlockLaws.{record_block-take}
use Rattle.grants_file.proofs.FileLaws.{block_of, grants_of, length-chunk, file_of_blocks, length-file_of, block_at_file_of, total_in-file_of, doors_in-file_of}
use Rattle.grants_file.proofs.FileLaws.{records_of-file_of, length-grants_in, chunk-grants_in, grants_in_mem, length_block_at, blocks_joined}
use Rattle.grants_file.proofs.CauseLaws.{Whole, RightStart, RightHeader, RightLayout, RightRecordsIn, Passes, accepted_iff}

-- properties in a chain, each with those after it
module _ (From Here : ℕ → Type 0) (step : (k : ℕ) → From k ↔ (Here k × From (suc k))) where
  from_start : From 0 → (k : ℕ) → From k
  from_start h zero = h
  from_start h (suc k) = ((step k).0 (from_start h k)).1

  chain_here : (n : ℕ) → From 0 → Here n
  chain_here n h = ((step n).0 (from_start h n)).0

  here_chain : (n : ℕ) → ((k : ℕ) → k < n → Here k) → From n → From 0
  here_chain zero h last = last
  here_chain (suc n) h last = here_chain n (λ k l. h k (omega arith)) ((step n).1 (h n (omega arith), last))

-- the last record of a full block, where another block follows
last_before_full : (f : List ℕ) (i last : ℕ) → last_before f (suc (suc i)) ≡ last_number last (records_of (block_at f (suc i)) records_per_block)
unfolding last_before last_number records_of count_from
last_before_full f i last = rw (lt-leb (suc (suc i)) 1 (omega arith), sub-one (suc (suc i)))

module _ (doors : Interval) (gs : List Grant) where
  blocks_in-file_of : blocks_in (file_of doors gs) ≡ blocks_for (length gs)
  blocks_in-file_of = omega (arith, length-file_of doors gs)

  written-whole : length gs ≤ max_grants → Whole (file_of doors gs)
  written-whole few =
      record {
        whole = omega (arith, length-file_of doors gs);
        some = omega (arith, length-file_of doors gs);
        few = omega (arith, length-file_of doors gs);
      }

  written_header : length gs ≤ max_grants → doors.from ≤ doors.to → RightHeader (file_of doors gs)
  unfolding block_of
  written_header few order =
      record {
        few = rw (total_in-file_of doors gs) few;
        blocks = rw (total_in-file_of doors gs) blocks_in-file_of;
        order = subst (λ (d : Interval). d.from ≤ d.to) (sym (doors_in-file_of doors gs)) order;
        fill = rw (block_at_file_of doors gs 0 (omega arith)) (wrong_padding-header_block (length gs) doors);
      }

  few_here : (i : ℕ) → length (chunk (suc i) gs) ≤ records_per_block
  few_here i = omega (arith, length-chunk (suc i) gs)

  written_layout : (i : ℕ) → i < record_blocks (length gs) → RightLayout (file_of doors gs) (suc i)
  unfolding block_of
  written_layout i h =
      let here = block_at_file_of doors gs (suc i) (omega arith) in
      record {
        count = rw (here, total_in-file_of doors gs) (count_of-record_block (suc i) (chunk (suc i) gs) (few_here i) ∙ length-chunk (suc i) gs);
        fill = rw here (wrong_padding-record_block (suc i) (chunk (suc i) gs) (few_here i));
      }

  block_start : (i : ℕ) → RightStart (block_of doors gs i) i
  unfolding block_of
  block_start zero =
      record {
        checksum = wrong_checksum-header_block (length gs) doors;
        mark = has_magic-header_block (length gs) doors;
        number = number-header_block (length gs) doors;
      }
  block_start (suc i) =
      record {
        checksum = wrong_checksum-record_block (suc i) (chunk (suc i) gs) (few_here i);
        mark = has_magic-record_block (suc i) (chunk (suc i) gs) (few_here i);
        number = number-record_block (suc i) (chunk (suc i) gs) (few_here i);
      }

  written_start : (i : ℕ) → i < blocks_for (length gs) → RightStart (block_at (file_of doors gs) i) i
  written_start i h = subst (λ (b : List ℕ). RightStart b i) (sym (block_at_file_of doors gs i h)) (block_start i)

  -- the file's records
  abbrev records : List (List ℕ)
  records = map encode_record gs

  -- the number of the last one before block suc k
  before : ℕ → ℕ
  before k = last_number 0 (take (records_per_block * k) records)

  -- those from that block on are right, and those of that block
  abbrev RightFrom : ℕ → Type 0
  RightFrom k = RightRecords doors (before k) (drop (records_per_block * k) records)

  abbrev RightHere : ℕ → Type 0
  RightHere k = RightRecords doors (before k) (take records_per_block (drop (records_per_block * k) records))

  before_suc : (k : ℕ) → before (suc k) ≡ last_number (before k) (take records_per_block (drop (records_per_block * k) records))
  unfolding before
  before_suc k =
      rw (mul-suc, take-add) (last_number_append 0 (take (records_per_block * k) records) (take records_per_block (drop (records_per_block * k) records)))

  from_suc : (k : ℕ) → RightFrom k ↔ (RightHere k × RightFrom (suc k))
  from_suc k =
      let rest = drop (records_per_block * k) records in
      let here = take records_per_block rest in
      let later : RightRecords doors (last_number (before k) here) (drop records_per_block rest) ≡ RightFrom (suc k) = rw (before_suc k, mul-suc, ← drop-drop) in
      let both = right_append doors (before k) here (drop records_per_block rest) in
      let joined = take-append-drop records_per_block rest in (
        (λ h. let parts = both.0 (rw joined h) in (parts.0, transport later parts.1)),
        (λ h. rw joined at (both.1 (h.0, transport (sym later) h.1))),
      )

  records_of_here : (k : ℕ) → k < record_blocks (length gs)
      → records_of (block_at (file_of doors gs) (suc k)) (count_in (total_in (file_of doors gs)) (suc k))
      ≡ take records_per_block (drop (records_per_block * k) records)
  records_of_here k h = records_of-file_of doors gs k h ∙ rw (sub-one (suc k), map-take, map-drop)

  last_before-file_of : (k : ℕ) → k < record_blocks (length gs) → last_before (file_of doors gs) (suc k) ≡ before k
  unfolding before last_before last_number
  last_before-file_of zero h = refl
  last_before-file_of (suc k) h =
      let b = block_at (file_of doors gs) (suc k) in
      let full : records_per_block ≡ count_in (total_in (file_of doors gs)) (suc k) = omega (arith, total_in-file_of doors gs) in
      last_before_full (file_of doors gs) k (before k)
      ∙ ap (last_number (before k)) (ap (records_of b) full ∙ records_of_here k (omega arith))
      ∙ sym (before_suc k)

  records_here : (k : ℕ) → k < record_blocks (length gs) → RightRecordsIn (file_of doors gs) (suc k) ≡ RightHere k
  records_here k h = rw (doors_in-file_of doors gs, last_before-file_of k h, records_of_here k h)

  from_end : RightFrom (record_blocks (length gs))
  unfolding RightRecords
  from_end = rw (drop_of_length-le records {i = records_per_block * record_blocks (length gs)} (omega (arith, length-map gs encode_record))) tt

  -- each block's records are right exactly if the file's are
  blocks_iff : ((k : ℕ) → k < record_blocks (length gs) → RightRecordsIn (file_of doors gs) (suc k)) ↔ RightRecords doors 0 records
  unfolding before last_number
  blocks_iff = (
    (λ h. here_chain RightFrom RightHere from_suc (record_blocks (length gs)) (λ k l. transport (records_here k l) (h k l)) from_end),
    (λ h k l. transport (sym (records_here k l)) (chain_here RightFrom RightHere from_suc k h)),
  )

  written-passes : length gs ≤ max_grants → doors.from ≤ doors.to → RightRecords doors 0 records → Passes (file_of doors gs)
  written-passes few order right =
      record {
        whole = written-whole few;
        starts = λ i h. written_start i (omega (arith, blocks_in-file_of));
        header = written_header few order;
        layouts = λ i h. written_layout i (omega (arith, blocks_in-file_of));
        records = λ i h. blocks_iff.1 right i (omega (arith, blocks_in-file_of));
      }

pub file_of-accepted : (doors : Interval) (gs : List Grant) → FileSet doors gs → Accepted (file_of doors gs)
file_of-accepted doors gs s =
    let each : (g : Grant) → Memᴰ g gs → RightGrant doors g = λ g m. record { faultless = (s.each g m).faultless; touching = (s.each g m).touching } in
    let right = (right_encode doors 0 gs).1 (s.ascending, each) in
    (accepted_iff (file_of doors gs)).1 (written-passes doors gs s.few s.doors.order right)

module _ (f : List ℕ) (below : Below byte_values f) (p : Passes f) where
  block-below : (i : ℕ) → Below byte_values (block_at f i)
  block-below i = bytes_at_below byte_values f (block_bytes * i) block_bytes below

  -- a number of block 0
  first-number : (at : ℕ) → at + 1 < block_bytes → be16_at (block_at f 0) at ≡ be16_at f at
  first-number at h = be16_at-part f 0 block_bytes at h ∙ rw zero-add

  block_same : (i : ℕ) → i < blocks_in f → block_at f i ≡ block_of (doors_in f) (grants_in f) i
  unfolding block_of grants_of
  block_same zero h =
      header_block-take (block_at f 0) (length_block_at f 0 h) (block-below 0) (p.starts 0 h).checksum (p.starts 0 h).mark (p.starts 0 h).number
      p.header.fill
      ∙ ap₂ header_block
      (first-number 6 (omega arith) ∙ sym (length-grants_in f))
      (λ i. record { from = first-number 8 (omega arith) i; to = first-number 10 (omega arith) i })
  block_same (suc i) h =
      let b = block_at f (suc i) in
      let layout = p.layouts i h in
      let start = p.starts (suc i) h in
      let kinds = right_kinds (doors_in f) (last_before f (suc i)) (records_of b (count_in (total_in f) (suc i))) (p.records i h) in
      let same = ap (records_of b) layout.count in
      let few : count_of b ≤ records_per_block = omega (arith, layout.count) in
      record_block-take b (length_block_at f (suc i) h) (block-below (suc i)) (suc i)
      few
      start.checksum
      start.mark
      start.number
      layout.fill
      (λ r m. kinds r (rw same at m))
      ∙ ap (λ (rs : List (List ℕ)). record_block (suc i) (map decode_record rs)) same
      ∙ ap (record_block (suc i)) (sym (chunk-grants_in f i (omega (arith, p.header.blocks))))

  pub passes-written : f ≡ file_of (doors_in f) (grants_in f)
  passes-written =
      let blocks : blocks_in f ≡ blocks_for (length (grants_in f)) = p.header.blocks ∙ ap blocks_for (sym (length-grants_in f)) in
      sym (blocks_joined f (blocks_in f) p.whole.whole)
      ∙ flat_map_same _ _ (count_from 0 (blocks_in f)) (λ i m. let inside = count_from_mem 0 (blocks_in f) i m in block_same i (omega arith))
      ∙ ap (λ (n : ℕ). flat_map (block_of (doors_in f) (grants_in f)) (count_from 0 n)) blocks
      ∙ sym (file_of_blocks (doors_in f) (grants_in f))

  grants_fit : (g : Grant) → Memᴰ g (grants_in f) → GrantFits g
  unfolding grants_of
  grants_fit g m =
      let place = grants_in_mem f g m in
      let b = block_at f (suc place.0) in
      let r = Memᴰ.of_map decode_record (records_of b (count_in (total_in f) (suc place.0))) place.2 in
      let long = length_block_at f (suc place.0) (omega (arith, place.1, p.header.blocks)) in
      let known = records_of_mem b long (block-below (suc place.0)) (count_in (total_in f) (suc place.0)) (omega arith) r.0 r.1 in
      subst GrantFits r.2 (decode_record-fits r.0 known.1)

  pub passes-set : FileSet (doors_in f) (grants_in f)
  passes-set =
      let written = subst Passes passes-written p in
      let right = (blocks_iff (doors_in f) (grants_in f)).0 (λ k h. written.records k (omega (arith, blocks_in-file_of (doors_in f) (grants_in f)))) in
      let set = (right_encode (doors_in f) 0 (grants_in f)).0 right in
      record {
        doors = record { order = p.header.order; fits = be16_at-below f 10 below };
        few = omega (arith, length-grants_in f, p.header.few);
        ascending = set.0;
        each = λ g m. record { fits = grants_fit g m; faultless = (set.1 g m).faultless; touching = (set.1 g m).touching };
      }

-- the accepted files
pub accepted-files : (f : List ℕ) → Below byte_values f → Accepted f ↔ ((doors : Interval) × (gs : List Grant) × FileSet doors gs × (f ≡ file_of doors gs))
accepted-files f below = (
  (λ e. let p = (accepted_iff f).0 e in (doors_in f, grants_in f, passes-set f below p, passes-written f below p)),
  (λ h. subst Accepted (sym h.3) (file_of-accepted h.0 h.1 h.2)),
)
