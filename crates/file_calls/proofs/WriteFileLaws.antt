-- The file of the grants in given cells, block by block, as the code writes it.
--   record_as          a record stored is that of any grant equal to the one stored
--   records_none, records_more    no record is stored yet; one more is
--   chunk-cells        the grants of a block are those in as many cells, from its first on
--   block_written      a started block, its records, and the seal
--   blocks_none, blocks_turn, blocks_all    the blocks of records before a place are written
--   part-written       what follows a place in the bytes, with a block at its start
--   file_written       block 0 and the blocks of records are the file
-- Assumes nothing.
use Prim.Native.Nat.{ℕ, suc, ◌+◌, ◌-◌, ◌*◌, ◌<◌, ◌≤◌, min}
use mathlib.Core.Path.{◌≡◌, refl, sym, ap, ◌∙◌}
use mathlib.Core.List.{List, [], ◌∷◌, ◌++◌, map, flat_map, map-append, append-nil, append_assoc}
use native.Mathlib.Numerals.{add-one, one-add}
use native.Mathlib.Omega.{arith}
use lib.ListN.{length, take, drop, get_or, length-map, length-take, length-drop, length-append, take-append-drop, drop_of_length-le}
use Rattle.std.proofs.lemmas.List.{take_min}
use lib.Seq.{sets, take-suc, take_all, take_at, drop-drop, length-take-le, drop-append-add}
use Rattle.lists.specs.Overwrite.{overwrite}
use Rattle.lists.specs.Ranges.{count_from}
use Rattle.lists.proofs.RangeLaws.{length-count_from}
use Rattle.lists.proofs.ListLaws.{count_from-append, flat_map_append, length_flat_map, map-take, map-drop}
use Rattle.model.specs.declared.Grant.{Grant}
use Rattle.model.specs.declared.Interval.{Interval}
use Rattle.pool.specs.Cell.{grant_at}
use Rattle.grants_file.specs.Layout.{record_bytes, block_bytes, records_place, records_per_block}
use Rattle.grants_file.specs.Record.{encode_record}
use Rattle.grants_file.specs.Block.{sealed, header_block, record_block}
use Rattle.grants_file.specs.File.{record_blocks, blocks_for, count_in, chunk, file_of}
use Rattle.grants_file.proofs.BlockLaws.{length-header_block, length-record_block}
use Rattle.grants_file.proofs.RecordLaws.{length-encode_record}
use Rattle.grants_file.proofs.WriteBlockSteps.{sets_append, started, record_block_lem}
use Rattle.steps.specs.Hits.{grants_at}
use Rattle.file_calls.specs.RecordBlocks.{records_file}

-- a record stored is that of any grant equal to the one stored
pub record_as : (b : List ℕ) (at : ℕ) {g h : Grant} {block : List ℕ} → block ≡ sets b at (encode_record g) → g ≡ h → block ≡ sets b at (encode_record h)
record_as b at stored same = stored ∙ ap (λ (x : Grant). sets b at (encode_record x)) same

module _ (w cells : List ℕ) where
  -- the grants in the first i cells
  abbrev pub grants_to : ℕ → List Grant
  grants_to i = grants_at w (take i cells)

  grants_more : (i : ℕ) → i < length cells → grants_to (i + 1) ≡ grants_to i ++ (grant_at w (get_or cells i 0) ∷ [])
  grants_more i h = rw (add-one i, take-suc cells i 0 h, map-append)

  pub records_none : (b : List ℕ) → b ≡ sets b records_place (flat_map encode_record (grants_to 0))
  unfolding flat_map
  records_none b = refl

  pub records_more : (b : List ℕ) (i : ℕ) {k : ℕ} {stored block : List ℕ} → i < length cells → k ≡ get_or cells i 0
      → stored ≡ sets b records_place (flat_map encode_record (grants_to i))
      → block ≡ sets stored (records_place + record_bytes * i) (encode_record (grant_at w k))
      → block ≡ sets b records_place (flat_map encode_record (grants_to (i + 1)))
  unfolding flat_map
  records_more b i {k} h at s d =
      let gs = grants_to i in
      let g = grant_at w k in
      let one : flat_map encode_record (g ∷ []) ≡ encode_record g = append-nil (encode_record g) in
      let size : length (flat_map encode_record gs) ≡ record_bytes * length gs =
      length_flat_map encode_record record_bytes gs (λ x m. length-encode_record x) in
      let count : length gs ≡ i = length-map (take i cells) (grant_at w) ∙ length-take-le i cells (omega arith) in
      let same : grant_at w (get_or cells i 0) ≡ g = ap (grant_at w) (sym at) in
      let more : flat_map encode_record gs ++ encode_record g ≡ flat_map encode_record (grants_to (i + 1)) =
      rw (grants_more i h, same, flat_map_append encode_record gs (g ∷ []), one) in
      d
      ∙ rw s (sets_append b records_place (flat_map encode_record gs) (encode_record g) (records_place + record_bytes * i) (omega (arith, size, count)))
      ∙ ap (sets b records_place) more

module _ (w cells : List ℕ) where
  -- the grants of the file
  abbrev pub grants_in : List Grant
  grants_in = grants_at w cells

  -- the cells of block i
  abbrev pub cells_of : ℕ → ℕ → List ℕ
  cells_of i n = take n (drop (records_per_block * (i - 1)) cells)

  pub chunk-cells : (i : ℕ) → chunk i grants_in ≡ grants_at w (cells_of i (count_in (length cells) i))
  chunk-cells i =
      let first = records_per_block * (i - 1) in
      let few = ap (λ (k : ℕ). take (min records_per_block k) (drop first cells)) (length-drop first cells) in
      ap (take records_per_block) (sym (map-drop (grant_at w) first cells))
      ∙ sym (map-take (grant_at w) records_per_block (drop first cells))
      ∙ ap (map (grant_at w)) (sym (take_min records_per_block (drop first cells)) ∙ few)

  pub block_written : (b : List ℕ) (i n : ℕ) {begun filled block : List ℕ} → length b ≡ block_bytes → n ≡ count_in (length cells) i
      → begun ≡ sets b 0 (started i n)
      → filled ≡ sets begun records_place (flat_map encode_record (grants_at w (cells_of i n)))
      → block ≡ sealed (take (records_place + record_bytes * n) filled) → block ≡ record_block i (chunk i grants_in)
  block_written b i n {begun} {filled} long count s f e =
      let first = records_per_block * (i - 1) in
      let gs = grants_at w (cells_of i n) in
      let same : chunk i grants_in ≡ gs = chunk-cells i ∙ rw count in
      let part : length (cells_of i n) ≡ n = simp (length-take, length-drop) (omega arith) in
      let size : length gs ≡ n = length-map (cells_of i n) (grant_at w) ∙ part in
      let whole : filled ≡ sets b 0 (started i n ++ flat_map encode_record gs) =
      f ∙ rw s (sets_append b 0 (started i n) (flat_map encode_record gs) records_place refl) in
      rw same (record_block_lem b i n gs long size (omega (arith, count)) whole e)

  -- block i of the file, and the blocks of records before a place
  abbrev pub block_as : ℕ → List ℕ
  block_as i = record_block i (chunk i grants_in)

  abbrev pub blocks_as : ℕ → List ℕ
  blocks_as k = flat_map block_as (count_from 1 k)

  length_block_as : (i : ℕ) → length (block_as i) ≡ block_bytes
  length_block_as i = length-record_block i (chunk i grants_in) (omega (arith, length-take records_per_block (drop (records_per_block * (i - 1)) grants_in)))

  length_blocks_as : (k : ℕ) → length (blocks_as k) ≡ block_bytes * k
  length_blocks_as k = length_flat_map block_as block_bytes (count_from 1 k) (λ i m. length_block_as i) ∙ rw (length-count_from 1 k)

  count_more : (k : ℕ) → count_from 1 (suc k) ≡ count_from 1 k ++ count_from (1 + k) 1
  count_more k = rw (add-one k) at (count_from-append 1 k 1)

  count_one : (j : ℕ) → count_from j 1 ≡ j ∷ []
  unfolding count_from
  count_one j = refl

  blocks_more : (k : ℕ) → blocks_as (suc k) ≡ blocks_as k ++ block_as (suc k)
  unfolding flat_map
  blocks_more k =
      ap (flat_map block_as) (count_more k ∙ ap (λ (l : List ℕ). count_from 1 k ++ l) (count_one (1 + k)))
      ∙ flat_map_append block_as (count_from 1 k) ((1 + k) ∷ [])
      ∙ ap (λ (l : List ℕ). blocks_as k ++ l) (append-nil (block_as (1 + k)))
      ∙ ap (λ (j : ℕ). blocks_as k ++ block_as j) (one-add k)

  module _ (b : List ℕ) where
    -- block 0 as it stands, and the blocks of records before place i
    abbrev pub front : ℕ → List ℕ
    front i = take block_bytes b ++ blocks_as (i - 1)

    pub blocks_none : block_bytes ≤ length b → b ≡ overwrite (front 1) b
    unfolding overwrite flat_map count_from
    blocks_none h = rw (append-nil (take block_bytes b), length-take-le block_bytes b h) (sym (take-append-drop block_bytes b))

    pub blocks_turn : (i : ℕ) {stored bytes : List ℕ} → 0 < i → block_bytes ≤ length b → stored ≡ overwrite (front i) b
        → bytes ≡ take (block_bytes * i) stored ++ (block_as i ++ drop (block_bytes * i + block_bytes) stored)
        → bytes ≡ overwrite (front (i + 1)) b
    unfolding overwrite
    blocks_turn i some room s e =
        let k = i - 1 in
        let xs = front i in
        let next : i ≡ suc k = omega arith in
        let after : i + 1 - 1 ≡ suc k = omega arith in
        let size : length xs ≡ block_bytes * i =
        length-append (take block_bytes b) (blocks_as k) ∙ omega (arith, length-take-le block_bytes b room, length_blocks_as k) in
        let more : front (i + 1) ≡ xs ++ block_as i =
        ap (λ (j : ℕ). take block_bytes b ++ blocks_as j) after
        ∙ ap (λ (l : List ℕ). take block_bytes b ++ l) (blocks_more k ∙ ap (λ (j : ℕ). blocks_as k ++ block_as j) (sym next))
        ∙ sym (append_assoc (take block_bytes b) (blocks_as k) (block_as i)) in
        let long : length (xs ++ block_as i) ≡ block_bytes * i + block_bytes = length-append xs (block_as i) ∙ omega (arith, size, length_block_as i) in
        let rest : drop (block_bytes * i + block_bytes) (xs ++ drop (length xs) b) ≡ drop (block_bytes * i + block_bytes) b =
        ap (λ (j : ℕ). drop (j + block_bytes) (xs ++ drop (length xs) b)) (sym size)
        ∙ drop-append-add xs (drop (length xs) b) block_bytes
        ∙ drop-drop block_bytes (length xs) b
        ∙ ap (λ (j : ℕ). drop (j + block_bytes) b) size in
        e
        ∙ rw (s, take_at xs (drop (length xs) b) (block_bytes * i) size, rest, more, long)
        (sym (append_assoc xs (block_as i) (drop (block_bytes * i + block_bytes) b)))

    pub blocks_all : (i : ℕ) {stored : List ℕ} → i ≡ blocks_for (length cells) → stored ≡ overwrite (front i) b
        → stored ≡ overwrite (take block_bytes b ++ records_file grants_in (length cells)) b
    blocks_all i e s =
        let last : i - 1 ≡ record_blocks (length cells) = omega (arith, e) in
        s ∙ ap (λ (j : ℕ). overwrite (take block_bytes b ++ blocks_as j) b) last

  pub file_written : (doors : Interval) (b : List ℕ) {begun bytes : List ℕ}
      → begun ≡ header_block (length cells) doors ++ drop block_bytes b
      → bytes ≡ overwrite (take block_bytes begun ++ records_file grants_in (length cells)) begun
      → bytes ≡ overwrite (file_of doors grants_in) b
  unfolding overwrite file_of
  file_written doors b s e =
      let head = header_block (length cells) doors in
      let records = records_file grants_in (length cells) in
      let count : length grants_in ≡ (length cells) = length-map cells (grant_at w) in
      let size : length head ≡ block_bytes = length-header_block (length cells) doors in
      let long : length (head ++ records) ≡ length head + length records = length-append head records in
      e
      ∙ rw (
        s,
        take_at head (drop block_bytes b) block_bytes size,
        count,
        long,
        drop-append-add head (drop block_bytes b) (length records),
        drop-drop (length records) block_bytes b,
        size,
      )

-- a block written at the start of what follows a place
pub part-written : (b : List ℕ) (a : ℕ) (block : List ℕ) {part : List ℕ} → part ≡ block ++ drop block_bytes (take (length b - a) (drop a b))
    → take a b ++ (part ++ drop (length b - a) (drop a b)) ≡ take a b ++ (block ++ drop (a + block_bytes) b)
part-written b a block e =
    let size : length (drop a b) ≡ length b - a = length-drop a b in
    let whole : take (length b - a) (drop a b) ≡ drop a b = take_all (length b - a) (drop a b) (omega (arith, size)) in
    let none : drop (length b - a) (drop a b) ≡ [] = drop_of_length-le (drop a b) {i = length b - a} (omega (arith, size)) in
    rw (e, none, whole, drop-drop block_bytes a b, append-nil (block ++ drop (a + block_bytes) b))
