-- Laws of specs/File: what is read in a file as it is written, and what any bytes give.
--   chunks_joined, length-chunk                          the grants of the blocks, joined, are the grants
--   block_of doors gs i                                   block i of a file
--   length-, blockAt-, totalIn-, doorsIn-, recordsOf-, grants_in-file_of     what was written is read
--   file_of_blocks, length_block_at, blocks_joined         a file, and any whole blocks, as blocks in a row
--   file_of-below                                         the file of a set is bytes
--   grants_of f i                                         the grants of block i of any bytes
--   length-grants_in, chunk-grants_in, grants_in_mem        any bytes give as many grants as they say, those of block i in its place
-- Assumes nothing.
use Prim.Native.Nat.{ℕ, zero, suc, ◌+◌, ◌-◌, ◌*◌, ◌≤◌, ◌<◌}
use mathlib.Core.Path.{◌≡◌, ap, ◌∙◌}
use mathlib.Core.List.{List, ◌++◌, map, flat_map, Memᴰ}
use native.Mathlib.Omega.{arith}
use native.Mathlib.Numerals.{sub-one}
use native.Mathlib.Nat.{le_of_eq, zero-add, div-add-mod'}
use lib.ListN.{length, take, drop, length-append, length-take, length-drop}
use lib.Seq.{take_all}
use Rattle.lists.specs.Ranges.{count_from}
use Rattle.lists.proofs.RangeLaws.{length-count_from}
use Rattle.lists.proofs.ListLaws.{take_mem, drop_mem, count_from_suc, count_from_mem, parts-joined, part_flat_map, map_inverse, flat_map_same}
use Rattle.lists.proofs.ListLaws.{flat_map_map, length_flat_map, mem_flat_map}
use Rattle.model.specs.declared.Grant.{Grant}
use Rattle.model.specs.declared.Interval.{Interval}
use Rattle.model.specs.Values.{byte_values, Below}
use Rattle.grants_file.specs.Layout.{block_bytes, records_per_block}
use Rattle.grants_file.specs.Bytes.{bytes_at}
use Rattle.grants_file.specs.Record.{encode_record, decode_record}
use Rattle.grants_file.specs.Block.{sealed, header_block, record_block, records_of}
use Rattle.grants_file.specs.File.{record_blocks, blocks_for, count_in, chunk, file_of, blocks_in, block_at, total_in, doors_in, grants_in}
use Rattle.grants_file.specs.FileSets.{FileSet}
use Rattle.grants_file.proofs.BytesLaws.{below_flat_map}
use Rattle.grants_file.proofs.RecordLaws.{decode_encode}
use Rattle.grants_file.proofs.BlockLaws.{header_block-below, record_block-below, length-header_block, length-record_block, records_of-record_block}
use Rattle.grants_file.proofs.BlockLaws.{length_decoded}

flat_map_from_one : {A : Type 0} (f g : ℕ → List A) (n : ℕ) → ((i : ℕ) → i < n → f (suc i) ≡ g (suc i))
    → flat_map f (count_from 1 n) ≡ flat_map g (count_from 1 n)
flat_map_from_one f g n h =
    rw (count_from_suc 0 n, flat_map_map f, flat_map_map g) (flat_map_same _ _ (count_from 0 n) (λ i m. let inside = count_from_mem 0 n i m in h i (omega arith)))

-- the parts of a list of grants, one a block
chunk_suc : (i : ℕ) (gs : List Grant) → chunk (suc i) gs ≡ take records_per_block (drop (records_per_block * i) gs)
chunk_suc i gs = rw (sub-one (suc i))

pub chunks_joined : (gs : List Grant) → flat_map (λ i. chunk i gs) (count_from 1 (record_blocks (length gs))) ≡ gs
chunks_joined gs =
    let m = record_blocks (length gs) in
    rw (count_from_suc 0 m, flat_map_map)
    (flat_map_same _ _ (count_from 0 m) (λ i j. chunk_suc i gs)
    ∙ parts-joined records_per_block 0 m gs
    ∙ take_all (records_per_block * m) gs (omega arith))

pub length-chunk : (i : ℕ) (gs : List Grant) → length (chunk i gs) ≡ count_in (length gs) i
length-chunk i gs = rw (length-take, length-drop)

chunk_mem : (i : ℕ) (gs : List Grant) (g : Grant) → Memᴰ g (chunk i gs) → Memᴰ g gs
chunk_mem i gs g m = drop_mem (records_per_block * (i - 1)) gs g (take_mem records_per_block (drop (records_per_block * (i - 1)) gs) g m)

-- block i of a file
unfoldable pub block_of : Interval → List Grant → ℕ → List ℕ
block_of doors gs zero = header_block (length gs) doors
block_of doors gs (suc i) = record_block (suc i) (chunk (suc i) gs)

module _ (doors : Interval) (gs : List Grant) where
  pub file_of_blocks : file_of doors gs ≡ flat_map (block_of doors gs) (count_from 0 (blocks_for (length gs)))
  unfolding file_of block_of flat_map count_from
  file_of_blocks = ap (λ (l : List ℕ). header_block (length gs) doors ++ l) later
    where
      later : flat_map (λ i. record_block i (chunk i gs)) (count_from 1 (record_blocks (length gs)))
          ≡ flat_map (block_of doors gs) (count_from 1 (record_blocks (length gs)))
      later = rw (count_from_suc 0 (record_blocks (length gs)), flat_map_map, flat_map_map)

  length_block_of : (i : ℕ) → length (block_of doors gs i) ≡ block_bytes
  unfolding block_of
  length_block_of zero = length-header_block (length gs) doors
  length_block_of (suc i) = length-record_block (suc i) (chunk (suc i) gs) (omega (arith, length-chunk (suc i) gs))

  pub length-file_of : length (file_of doors gs) ≡ block_bytes * blocks_for (length gs)
  length-file_of = rw (file_of_blocks, length_flat_map (block_of doors gs) block_bytes _ (λ i m. length_block_of i), length-count_from)

  pub block_at_file_of : (i : ℕ) → i < blocks_for (length gs) → block_at (file_of doors gs) i ≡ block_of doors gs i
  block_at_file_of i h =
      let after = blocks_for (length gs) - suc i in
      let whole : blocks_for (length gs) ≡ i + suc after = omega arith in
      ap (λ (l : List ℕ). bytes_at l (block_bytes * i) block_bytes) (file_of_blocks ∙ ap (λ (n : ℕ). flat_map (block_of doors gs) (count_from 0 n)) whole)
      ∙ part_flat_map block_bytes i after (block_of doors gs) 0 (λ j low high. length_block_of j) (le_of_eq (length_block_of (0 + i)))
      (λ more. length_block_of (0 + i))
      ∙ ap (block_of doors gs) (zero-add i)

  pub total_in-file_of : total_in (file_of doors gs) ≡ length gs
  unfolding file_of header_block sealed
  total_in-file_of = div-add-mod' (length gs) 256

  pub doors_in-file_of : doors_in (file_of doors gs) ≡ doors
  unfolding file_of header_block sealed
  doors_in-file_of = λ i. record { from = div-add-mod' doors.from 256 i; to = div-add-mod' doors.to 256 i }

  count_in-file_of : (i : ℕ) → count_in (total_in (file_of doors gs)) i ≡ length (chunk i gs)
  count_in-file_of i = rw (total_in-file_of, length-chunk)

  -- the records of block suc i
  pub records_of-file_of : (i : ℕ) → i < record_blocks (length gs)
      → records_of (block_at (file_of doors gs) (suc i)) (count_in (total_in (file_of doors gs)) (suc i)) ≡ map encode_record (chunk (suc i) gs)
  unfolding block_of
  records_of-file_of i h =
      rw (block_at_file_of (suc i) (omega arith), count_in-file_of (suc i))
      (records_of-record_block (suc i) (chunk (suc i) gs) (omega (arith, length-chunk (suc i) gs)))

  pub grants_in-file_of : grants_in (file_of doors gs) ≡ gs
  unfolding grants_in
  grants_in-file_of =
      ap (λ (n : ℕ). flat_map read (count_from 1 (record_blocks n))) total_in-file_of
      ∙ flat_map_from_one read (λ i. chunk i gs) (record_blocks (length gs)) same
      ∙ chunks_joined gs
    where
      read : ℕ → List Grant
      read i = map decode_record (records_of (block_at (file_of doors gs) i) (count_in (total_in (file_of doors gs)) i))

      same : (i : ℕ) → i < record_blocks (length gs) → read (suc i) ≡ chunk (suc i) gs
      same i h = ap (map decode_record) (records_of-file_of i h) ∙ map_inverse encode_record decode_record (chunk (suc i) gs) (λ g m. decode_encode g)

-- the grants of block i of any bytes
unfoldable pub grants_of : List ℕ → ℕ → List Grant
grants_of f i = map decode_record (records_of (block_at f i) (count_in (total_in f) i))

length_grants_of : (f : List ℕ) (i : ℕ) → length (grants_of f i) ≡ count_in (total_in f) i
unfolding grants_of
length_grants_of f i = length_decoded (block_at f i) (count_in (total_in f) i)

length-grants : (f : List ℕ) (k m : ℕ) → total_in f ≤ records_per_block * (k + m)
    → length (flat_map (grants_of f) (count_from (suc k) m)) ≡ total_in f - records_per_block * k
unfolding flat_map count_from
length-grants f k zero h = omega arith
length-grants f k (suc m) h =
    rw (length-append, length_grants_of, length-grants f (suc k) m (omega arith), sub-one (suc k)) (omega arith)

pub length-grants_in : (f : List ℕ) → length (grants_in f) ≡ total_in f
unfolding grants_in grants_of
length-grants_in f = length-grants f 0 (record_blocks (total_in f)) (omega arith) ∙ omega arith

pub chunk-grants_in : (f : List ℕ) (i : ℕ) → i < record_blocks (total_in f) → chunk (suc i) (grants_in f) ≡ grants_of f (suc i)
unfolding grants_in grants_of
chunk-grants_in f i h =
    let after = record_blocks (total_in f) - suc i in
    let whole : record_blocks (total_in f) ≡ i + suc after = omega arith in
    let here : 1 + i ≡ suc i = omega arith in
    chunk_suc i (grants_in f)
    ∙ ap (λ (n : ℕ). take records_per_block (drop (records_per_block * i) (flat_map (grants_of f) (count_from 1 n)))) whole
    ∙ part_flat_map records_per_block i after (grants_of f) 1
    (λ j low high. length_grants_of f j ∙ omega arith)
    (omega (arith, length_grants_of f (1 + i)))
    (λ more. length_grants_of f (1 + i) ∙ omega arith)
    ∙ ap (grants_of f) here

pub grants_in_mem : (f : List ℕ) (g : Grant) → Memᴰ g (grants_in f) → (i : ℕ) × (i < record_blocks (total_in f)) × Memᴰ g (grants_of f (suc i))
unfolding grants_in grants_of
grants_in_mem f g m =
    let n = record_blocks (total_in f) in
    let place = mem_flat_map (λ (i : ℕ). grants_of f (suc i)) (count_from 0 n) g (rw (count_from_suc 0 n, flat_map_map (grants_of f)) at m) in
    let inside = count_from_mem 0 n place.0 place.1 in
    (place.0, omega arith, place.2)

pub length_block_at : (f : List ℕ) (i : ℕ) → i < blocks_in f → length (block_at f i) ≡ block_bytes
length_block_at f i h = simp (length-take, length-drop) (omega arith)

pub blocks_joined : (f : List ℕ) (n : ℕ) → length f ≡ block_bytes * n → flat_map (block_at f) (count_from 0 n) ≡ f
blocks_joined f n e = parts-joined block_bytes 0 n f ∙ take_all (block_bytes * n) f (omega arith)

pub file_of-below : (doors : Interval) (gs : List Grant) → FileSet doors gs → Below byte_values (file_of doors gs)
unfolding block_of
file_of-below doors gs s =
    rw file_of_blocks (below_flat_map byte_values (block_of doors gs) (count_from 0 (blocks_for (length gs))) (λ i m. block i (count_from_mem 0 _ i m).1))
  where
    block : (i : ℕ) → i < 0 + blocks_for (length gs) → Below byte_values (block_of doors gs i)
    block zero h = header_block-below (length gs) doors (omega (arith, s.few)) (omega (arith, s.doors.order, s.doors.fits)) s.doors.fits
    block (suc i) h =
        record_block-below (suc i) (chunk (suc i) gs) (omega (arith, s.few)) (omega (arith, length-chunk (suc i) gs))
        (λ g m. (s.each g (chunk_mem (suc i) gs g m)).fits)
