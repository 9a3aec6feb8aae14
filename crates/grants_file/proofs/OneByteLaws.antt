-- An accepted file with exactly one byte changed is refused with 12 and that byte's block (document 01, "The grants file"; demand 2).
--   wrong_checksum-set      one byte changed in a block of right check
--   block_at_set-same, block_at_set_other     the byte's block, and a block before it
--   block_defects-set       the defects of a block before it are as they were
--   one_byte               the refusal
-- Assumes nothing.
use Prim.Native.Nat.{ℕ, zero, suc, ◌+◌, ◌-◌, ◌*◌, ◌/◌, ◌%◌, ◌≤◌, ◌<◌}
use mathlib.Core.Logic.{◌≢◌}
use mathlib.Core.Path.{◌≡◌, sym, ap, ◌∙◌}
use mathlib.Core.Bool.{true, false, not}
use mathlib.Core.List.{List, ◌++◌, flat_map}
use Rattle.std.proofs.Common.{Some}
use native.Mathlib.Omega.{arith}
use native.Mathlib.Decide.{dec_lt, ℕ_discrete}
use native.Mathlib.Nat.{zero-add}
use borrow.Author.Tests.{eqb-true, ne_eqb, not-false}
use lib.ListN.{length, get_or, take, drop, set, length-set, length-take}
use lib.Seq.{get_or-set_same, get_or-set_other, get_or-take, get_or-drop, take-set-le, take-set-lt, drop-set-add}
use Rattle.lists.specs.Ranges.{count_from}
use Rattle.lists.proofs.ListLaws.{count_from-append, count_from_mem, flat_map_append}
use Rattle.model.specs.declared.Fault.TheVariants.{BadChecksum}
use Rattle.model.specs.Refusal.{first_fault}
use Rattle.model.specs.Values.{byte_values, Below}
use Rattle.checksum.specs.Checksum.{checksum}
use Rattle.checksum.proofs.ChecksumLaws.{checksum-set_changes}
use Rattle.grants_file.specs.Layout.{block_bytes, checksum_place, total_place, first_door_place, last_door_place, header_end}
use Rattle.grants_file.specs.Bytes.{be16_at}
use Rattle.grants_file.specs.Block.{wrong_checksum}
use Rattle.grants_file.specs.File.{blocks_in, block_at, wrong_block_count, doors_in}
use Rattle.grants_file.specs.Defects.{DefectCause, last_before, content_defects, block_defects, file_defects}
use Rattle.grants_file.specs.Verdict.{causes_of, file_causes}
use Rattle.grants_file.specs.FileSets.{Accepted}
use Rattle.grants_file.proofs.BytesLaws.{get_d_below, bytes_at_below}
use Rattle.grants_file.proofs.DefectLaws.{Clear, clear_front, clear_flat_map}
use Rattle.grants_file.proofs.CauseLaws.{wrong_block_count_iff, Passes, accepted_iff, accepted-block}
use Rattle.grants_file.proofs.FileLaws.{length_block_at}

module _ (b : List ℕ) (i v : ℕ) (long : length b ≡ block_bytes) (below : Below byte_values b) (inside : i < block_bytes) (byte : v < byte_values)
    (other : v ≢ get_or b i 0) where
  -- the check of other bytes is another
  bytes-differ : i < checksum_place → be16_at b checksum_place ≡ checksum (take checksum_place b)
      → be16_at (set b i v) checksum_place ≡ checksum (take checksum_place (set b i v)) → ⊥
  bytes-differ h was is =
      let high = get_or-set_other b i checksum_place v 0 (omega arith) in
      let low = get_or-set_other b i (checksum_place + 1) v 0 (omega arith) in
      let stored : be16_at (set b i v) checksum_place ≡ be16_at b checksum_place = cc in
      let read = get_or-take checksum_place b i 0 h in
      checksum-set_changes (take checksum_place b) i v
      (omega (arith, length-take checksum_place b))
      (omega (arith, get_d_below byte_values b i (omega arith) below))
      byte
      (λ e. omega arith)
      (ap checksum (sym (take-set-lt checksum_place b i v h)) ∙ sym is ∙ stored ∙ was)

  -- or the stored one is
  stored_differs : checksum_place ≤ i → be16_at b checksum_place ≡ checksum (take checksum_place b)
      → be16_at (set b i v) checksum_place ≡ checksum (take checksum_place (set b i v)) → ⊥
  stored_differs h was is = go (ℕ_discrete i checksum_place)
    where
      same : be16_at (set b i v) checksum_place ≡ be16_at b checksum_place
      same = is ∙ ap checksum (take-set-le checksum_place b i v h) ∙ sym was

      now : get_or (set b i v) i 0 ≡ v
      now = get_or-set_same b i v 0 (omega arith)

      go : Dec (i ≡ checksum_place) → ⊥
      go (yes e) =
          let new = ap (λ (j : ℕ). get_or (set b i v) j 0) (sym e) ∙ now in
          let low = get_or-set_other b i (checksum_place + 1) v 0 (omega arith) in
          let old = ap (λ (j : ℕ). get_or b j 0) e in
          omega (arith, same)
      go (no e) =
          let last : i ≡ checksum_place + 1 = omega arith in
          let new = ap (λ (j : ℕ). get_or (set b i v) j 0) (sym last) ∙ now in
          let high = get_or-set_other b i checksum_place v 0 (omega arith) in
          let old = ap (λ (j : ℕ). get_or b j 0) last in
          omega (arith, same)

  pub wrong_checksum-set : wrong_checksum b ≡ false → wrong_checksum (set b i v) ≡ true
  unfolding wrong_checksum
  wrong_checksum-set right = ap not (ne_eqb _ _ (go (dec_lt i checksum_place)))
    where
      was : be16_at b checksum_place ≡ checksum (take checksum_place b)
      was = eqb-true _ _ (not-false _ right)

      go : Dec (i < checksum_place) → be16_at (set b i v) checksum_place ≡ checksum (take checksum_place (set b i v)) → ⊥
      go (yes h) = bytes-differ h was
      go (no h) = stored_differs (omega arith) was

module _ (f : List ℕ) (i v : ℕ) where
  -- the byte's block, and a block before it
  block_at_set-same : block_at (set f i v) (i / block_bytes) ≡ set (block_at f (i / block_bytes)) (i % block_bytes) v
  block_at_set-same =
      let place : i ≡ block_bytes * (i / block_bytes) + i % block_bytes = omega arith in
      ap (λ (j : ℕ). block_at (set f j v) (i / block_bytes)) place
      ∙ ap (take block_bytes) (drop-set-add (block_bytes * (i / block_bytes)) f (i % block_bytes) v)
      ∙ take-set-lt block_bytes (drop (block_bytes * (i / block_bytes)) f) (i % block_bytes) v (omega arith)

  block_at_set_other : (j : ℕ) → block_bytes * suc j ≤ i → block_at (set f i v) j ≡ block_at f j
  block_at_set_other j h =
      let place : i ≡ block_bytes * j + (i - block_bytes * j) = omega arith in
      ap (λ (k : ℕ). block_at (set f k v) j) place
      ∙ ap (take block_bytes) (drop-set-add (block_bytes * j) f (i - block_bytes * j) v)
      ∙ take-set-le block_bytes (drop (block_bytes * j) f) (i - block_bytes * j) v (omega arith)

  -- a number before the byte
  be16_at-set : (at : ℕ) → at + 1 < i → be16_at (set f i v) at ≡ be16_at f at
  be16_at-set at h =
      let high = get_or-set_other f i at v 0 (omega arith) in
      let low = get_or-set_other f i (at + 1) v 0 (omega arith) in
      cc

  doors_in-set : header_end ≤ i → doors_in (set f i v) ≡ doors_in f
  doors_in-set h = λ k. record { from = be16_at-set first_door_place (omega arith) k; to = be16_at-set last_door_place (omega arith) k }

  contents_set : (j : ℕ) → block_bytes * suc j ≤ i → content_defects (set f i v) j ≡ content_defects f j
  unfolding content_defects last_before
  contents_set zero h =
      let block = block_at_set_other 0 h in
      let total = be16_at-set total_place (omega arith) in
      let doors = doors_in-set (omega arith) in
      let size = length-set f i v in
      cc
  contents_set (suc j) h =
      let block = block_at_set_other (suc j) h in
      let earlier = block_at_set_other (suc j - 1) (omega arith) in
      let total = be16_at-set total_place (omega arith) in
      let doors = doors_in-set (omega arith) in
      cc

  block_defects-set : (j : ℕ) → block_bytes * suc j ≤ i → block_defects (set f i v) j ≡ block_defects f j
  block_defects-set j h = rw (block_at_set_other j h, contents_set j h)

-- a block of wrong check is refused with 12 before its other causes
bad_checksum : (f : List ℕ) (i : ℕ) (later : List DefectCause) → wrong_checksum (block_at f i) ≡ true
    → first_fault (causes_of (block_defects f i ++ later)) ≡ Some (BadChecksum i)
unfolding first_fault causes_of
bad_checksum f i later e = rw e

module _ (f : List ℕ) (i v : ℕ) (below : Below byte_values f) (taken : Accepted f) (inside : i < length f) (byte : v < byte_values)
    (other : v ≢ get_or f i 0) where
  passes : Passes f
  passes = (accepted_iff f).0 taken

  -- the byte's block is in the file
  block_inside : i / block_bytes < blocks_in f
  block_inside = omega (arith, passes.whole.whole)

  -- the byte in its block
  get_d_block : get_or (block_at f (i / block_bytes)) (i % block_bytes) 0 ≡ get_or f i 0
  get_d_block =
      let at = block_bytes * (i / block_bytes) in
      let place : at + i % block_bytes ≡ i = omega arith in
      get_or-take block_bytes (drop at f) (i % block_bytes) 0 (omega arith) ∙ get_or-drop at f (i % block_bytes) 0 ∙ ap (λ (j : ℕ). get_or f j 0) place

  checksum_wrong : wrong_checksum (block_at (set f i v) (i / block_bytes)) ≡ true
  checksum_wrong =
      let b = block_at f (i / block_bytes) in
      let bytes = bytes_at_below byte_values f (block_bytes * (i / block_bytes)) block_bytes below in
      let long = length_block_at f (i / block_bytes) block_inside in
      let right = (passes.starts (i / block_bytes) block_inside).checksum in
      rw (block_at_set-same f i v) (wrong_checksum-set b (i % block_bytes) v long bytes (omega arith) byte (λ e. other (e ∙ get_d_block)) right)

  count_set : wrong_block_count (set f i v) ≡ false
  unfolding wrong_block_count
  count_set = rw (length-set f i v) ((wrong_block_count_iff f).1 passes.whole)

  earlier_clear : (j : ℕ) → j < i / block_bytes → Clear (block_defects (set f i v) j)
  earlier_clear j h = rw (block_defects-set f i v j (omega arith)) (accepted-block f taken j (omega (arith, block_inside)))

  pub one_byte : first_fault (file_causes (set f i v)) ≡ Some (BadChecksum (i / block_bytes))
  unfolding file_causes file_defects first_fault causes_of flat_map count_from
  one_byte =
      let at = i / block_bytes in
      let defects = block_defects (set f i v) in
      let after = blocks_in f - suc at in
      let whole : blocks_in (set f i v) ≡ at + suc after = omega (arith, length-set f i v, block_inside) in
      let none_before = (clear_flat_map defects (count_from 0 at)).1 (λ j m. let before = count_from_mem 0 at j m in earlier_clear j (omega arith)) in
      rw count_set
      (ap (λ (n : ℕ). first_fault (causes_of (flat_map defects (count_from 0 n)))) whole
      ∙ ap (λ (l : List ℕ). first_fault (causes_of (flat_map defects l))) (count_from-append 0 at (suc after))
      ∙ ap (λ (cs : List DefectCause). first_fault (causes_of cs)) (flat_map_append defects (count_from 0 at) (count_from (0 + at) (suc after)))
      ∙ clear_front (flat_map defects (count_from 0 at)) (flat_map defects (count_from (0 + at) (suc after))) none_before
      ∙ ap (λ (k : ℕ). first_fault (causes_of (flat_map defects (count_from k (suc after))))) (zero-add at)
      ∙ bad_checksum (set f i v) at (flat_map defects (count_from (suc at) after)) checksum_wrong)
