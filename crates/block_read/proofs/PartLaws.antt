-- Block read on an accepted file, specs/BlockRead: every block passes alone, and its part is the records of its grants (demand 2).
--   wrong_count-passes, passes-read                       no cause of block read holds in a block of a file that passes
--   bytes_at_block                                        bytes of a block, and the same bytes of the file
--   part-first, part-grants                              the part of block 0, and of another block
--   part-refusal                                         a refused block's
-- Assumes nothing.
use Prim.Native.Nat.{ℕ, zero, suc, ◌+◌, ◌-◌, ◌*◌, ◌≤◌, ◌<◌}
use mathlib.Core.Logic.{◌≢◌}
use mathlib.Core.Path.{◌≡◌, refl, sym, ap, ◌∙◌}
use mathlib.Core.Bool.{false}
use mathlib.Core.List.{List, [], flat_map}
use Rattle.std.proofs.Common.{Option, None, Some}
use native.Mathlib.Omega.{arith}
use native.Mathlib.Decide.{ℕ_discrete}
use borrow.Author.Tests.{le-leb, lt-leb, eq-eqb, ne_eqb}
use lib.ListN.{take, drop}
use lib.Seq.{take-take, drop-drop}
use Rattle.lists.proofs.ListLaws.{drop-take}
use Rattle.model.specs.declared.Fault.{Fault}
use Rattle.model.specs.Refusal.{first_fault}
use Rattle.model.specs.Values.{byte_values, Below}
use Rattle.grants_file.specs.Layout.{record_bytes, block_bytes, records_place, records_per_block}
use Rattle.grants_file.specs.Bytes.{bytes_at}
use Rattle.grants_file.specs.Record.{encode_record}
use Rattle.grants_file.specs.Block.{count_of, records_of}
use Rattle.grants_file.specs.File.{count_in, chunk, blocks_in, block_at, total_in, doors_in, grants_in}
use Rattle.grants_file.specs.Defects.{start_defects, last_before}
use Rattle.block_read.specs.BlockRead.{not_in_file, wrong_count, rest_defects, read_causes, part_of}
use Rattle.grants_file.proofs.BytesLaws.{bytes_at_below}
use Rattle.grants_file.proofs.DefectLaws.{Clear, clear_nil, clear_cons, clear_append}
use Rattle.grants_file.proofs.RightRecordLaws.{right_kinds}
use Rattle.grants_file.proofs.BlockLaws.{records_joined}
use Rattle.grants_file.proofs.FileLaws.{grants_of, chunk-grants_in, length_block_at}
use Rattle.grants_file.proofs.CauseLaws.{wrong_block_count_iff, start_iff, Passes}

bytes_at_block : (f : List ℕ) (i at n : ℕ) → at + n ≤ block_bytes → bytes_at f (block_bytes * i + at) n ≡ bytes_at (block_at f i) at n
bytes_at_block f i at n h =
    let rest = drop (block_bytes * i) f in
    ap (take n) (sym (drop-drop at (block_bytes * i) f))
    ∙ sym (take-take n (block_bytes - at) (drop at rest) (omega arith))
    ∙ ap (take n) (sym (drop-take at block_bytes rest))

module _ (f : List ℕ) (p : Passes f) where
  -- a full block but for the last, which holds one record at least
  wrong_count-passes : (i : ℕ) → suc i < blocks_in f → wrong_count f (suc i) ≡ false
  unfolding wrong_count
  wrong_count-passes i h = go (ℕ_discrete (suc (suc i)) (blocks_in f))
    where
      n : ℕ
      n = count_of (block_at f (suc i))

      go : Dec (suc (suc i) ≡ blocks_in f) → wrong_count f (suc i) ≡ false
      go (yes e) =
          let some : 1 ≤ n = omega (arith, (p.layouts i h).count, p.header.blocks) in
          let few : n ≤ records_per_block = omega (arith, (p.layouts i h).count) in
          rw (eq-eqb _ _ e, le-leb 1 n some, le-leb n records_per_block few)
      go (no e) =
          let full : n ≡ records_per_block = omega (arith, (p.layouts i h).count, p.header.blocks) in
          rw (ne_eqb _ _ e, full)

  rest_clear : (i : ℕ) → i < blocks_in f → Clear (rest_defects f i)
  unfolding rest_defects
  rest_clear zero h = clear_cons _ _ p.header.fill clear_nil
  rest_clear (suc i) h = clear_cons _ _ (wrong_count-passes i h) (clear_cons _ _ (p.layouts i h).fill clear_nil)

  pub passes-read : (i : ℕ) → i < blocks_in f → first_fault (read_causes f i) ≡ None
  unfolding read_causes not_in_file first_fault
  passes-read i h =
      rw ((wrong_block_count_iff f).1 p.whole, lt-leb (blocks_in f) i h)
      ((clear_append (start_defects (block_at f i) i) (rest_defects f i)).1 ((start_iff (block_at f i) i).1 (p.starts i h), rest_clear i h))

  pub part-first : 0 < blocks_in f → part_of f 0 ≡ []
  unfolding part_of
  part-first h = rw (passes-read 0 h)

  pub part-grants : Below byte_values f → (i : ℕ) → suc i < blocks_in f → part_of f (suc i) ≡ flat_map encode_record (chunk (suc i) (grants_in f))
  unfolding part_of grants_of
  part-grants below i h =
      let b = block_at f (suc i) in
      let n = count_in (total_in f) (suc i) in
      let kinds = right_kinds (doors_in f) (last_before f (suc i)) (records_of b n) (p.records i h) in
      rw (passes-read (suc i) h, (p.layouts i h).count)
      (bytes_at_block f (suc i) records_place (record_bytes * n) (omega arith)
      ∙ records_joined b (length_block_at f (suc i) h) (bytes_at_below byte_values f (block_bytes * suc i) block_bytes below) n (omega arith) kinds
      ∙ ap (flat_map encode_record) (sym (chunk-grants_in f i (omega (arith, p.header.blocks)))))

pub part-refusal : (f : List ℕ) (i : ℕ) → first_fault (read_causes f i) ≢ None → part_of f i ≡ []
unfolding part_of
part-refusal f i refused = go (first_fault (read_causes f i)) refl
  where
    go : (o : Option Fault) → first_fault (read_causes f i) ≡ o → part_of f i ≡ []
    go None e = absurd (refused e)
    go (Some fault) e = rw e
