-- Laws of specs/Block: what is read in a block as it is written, and that a block which passes is one that was written.
--   length-, wrongChecksum-, hasMagic-, number-, wrongPadding-    of sealed, header_block and record_block: 512 bytes, and no cause of 11 or 12
--   count_of-record_block, records_of-record_block              the records that were written
--   length_decoded, records_of_mem                           as many grants as are read, each from 16 bytes
--   sealed-take                                             512 bytes of right check and fill are sealed
--   records_joined                                          the bytes of records of known kinds are those of the grants that they give
--   header_block-below, record_block-below                    what is written is bytes
--   header_block-take, record_block-take                      block 0, or block i of known kinds, that passes was written
-- Assumes nothing.
use Prim.Native.Nat.{ℕ, zero, suc, ◌+◌, ◌-◌, ◌*◌, ◌≤◌, ◌<◌}
use mathlib.Core.Path.{◌≡◌, refl, sym, ap, ap₂, ◌∙◌}
use mathlib.Core.Bool.{true, false, not}
use mathlib.Core.List.Memᴰ
use mathlib.Core.List.{List, ◌∷◌, ◌++◌, map, flat_map, append_assoc, Memᴰ}
use native.Mathlib.Omega.{arith}
use native.Mathlib.Numerals.{add-one}
use native.Mathlib.Nat.{div-add-mod'}
use borrow.Author.Tests.{eqb-true, eq-eqb, not-false}
use lib.ListN.{length, get_or, take, drop, replicate, length-append, length-replicate, length-take, length-drop, take-append-drop, length-map}
use lib.Seq.{take_at, drop_at, get_or-append-add, take_all, take-take, drop-drop, take-add}
use Rattle.lists.specs.Tests.{same_numbers}
use Rattle.lists.specs.Ranges.{count_from}
use Rattle.lists.proofs.RangeLaws.{length-count_from}
use Rattle.lists.proofs.ListLaws.{count_from_mem, elements_joined, parts-joined, parts_flat_map, map_same, flat_map_same, flat_map_map, length_flat_map}
use Rattle.lists.proofs.ListLaws.{same_numbers_true, every_zero, zero_every}
use Rattle.model.specs.declared.Grant.{Grant}
use Rattle.model.specs.declared.Interval.{Interval}
use Rattle.model.specs.Values.{word_values, byte_values, Below, GrantFits}
use Rattle.checksum.specs.Checksum.{checksum}
use Rattle.checksum.proofs.ChecksumLaws.{checksum_lt}
use Rattle.grants_file.specs.Layout.{block_bytes, current_form, magic, number_place, checksum_place, header_end}
use Rattle.grants_file.specs.Layout.{records_place, record_bytes, records_per_block, record_place}
use Rattle.grants_file.specs.Bytes.{be16, be16_at, bytes_at}
use Rattle.grants_file.specs.Record.{encode_record, decode_record, kind_byte}
use Rattle.grants_file.specs.Block.{sealed, header_block, record_block, count_of, records_of, has_magic, wrong_checksum, wrong_padding}
use Rattle.grants_file.proofs.BytesLaws.{below_nil, below_cons, below-append, below_flat_map, bytes_at_below, be16-below, be16-be16_at}
use Rattle.grants_file.proofs.RecordLaws.{length-encode_record, encode_record-below, encode_decode}

-- what the check covers
covered : List ℕ → List ℕ
covered body = body ++ replicate (checksum_place - length body) 0

length-covered : (body : List ℕ) → length body ≤ checksum_place → length (covered body) ≡ checksum_place
unfolding covered
length-covered body h = rw (length-append, length-replicate) (omega arith)

take-sealed : (body : List ℕ) → length body ≤ checksum_place → take checksum_place (sealed body) ≡ covered body
unfolding covered sealed
take-sealed body h = take_at _ (be16 (checksum (covered body))) checksum_place (length-covered body h)

pub length-sealed : (body : List ℕ) → length body ≤ checksum_place → length (sealed body) ≡ block_bytes
unfolding covered sealed
length-sealed body h = rw (length-append, length-covered body h)

-- an element past a front of n
get_d_past : (front rest : List ℕ) (n i : ℕ) → length front ≡ n → get_or (front ++ rest) (n + i) 0 ≡ get_or rest i 0
get_d_past front rest n i e = rw (← e) (get_or-append-add front rest i 0)

be16_at-sealed : (body : List ℕ) → length body ≤ checksum_place → be16_at (sealed body) checksum_place ≡ checksum (covered body)
unfolding covered sealed
be16_at-sealed body h =
    let sum = checksum (covered body) in
    let high = get_d_past (covered body) (be16 sum) checksum_place 0 (length-covered body h) in
    let low = get_d_past (covered body) (be16 sum) checksum_place 1 (length-covered body h) in
    rw (high, low) (div-add-mod' sum 256)

pub wrong_checksum-sealed : (body : List ℕ) → length body ≤ checksum_place → wrong_checksum (sealed body) ≡ false
unfolding wrong_checksum
wrong_checksum-sealed body h = ap not (eq-eqb _ _ (be16_at-sealed body h ∙ ap checksum (sym (take-sealed body h))))

pub wrong_padding-sealed : (body : List ℕ) (at : ℕ) → length body ≤ checksum_place → length body ≡ at → wrong_padding (sealed body) at ≡ false
unfolding wrong_padding covered
wrong_padding-sealed body at h e = rw (take-sealed body h, drop_at body _ at e) (ap not (zero_every (checksum_place - length body)))

abbrev opening : ℕ → List ℕ
opening i = magic ++ be16 i

has_magic-sealed : (i : ℕ) (rest : List ℕ) → has_magic (sealed (opening i ++ rest)) ≡ true
unfolding sealed same_numbers
has_magic-sealed i rest = refl

number-sealed : (i : ℕ) (rest : List ℕ) → be16_at (sealed (opening i ++ rest)) number_place ≡ i
unfolding sealed
number-sealed i rest = div-add-mod' i 256

module _ (n : ℕ) (doors : Interval) where
  pub length-header_block : length (header_block n doors) ≡ block_bytes
  unfolding header_block
  length-header_block = length-sealed _ (omega arith)

  pub wrong_checksum-header_block : wrong_checksum (header_block n doors) ≡ false
  unfolding header_block
  wrong_checksum-header_block = wrong_checksum-sealed _ (omega arith)

  pub has_magic-header_block : has_magic (header_block n doors) ≡ true
  unfolding header_block
  has_magic-header_block = has_magic-sealed 0 (be16 n ++ be16 doors.from ++ be16 doors.to)

  pub number-header_block : be16_at (header_block n doors) number_place ≡ 0
  unfolding header_block
  number-header_block = number-sealed 0 (be16 n ++ be16 doors.from ++ be16 doors.to)

  pub wrong_padding-header_block : wrong_padding (header_block n doors) header_end ≡ false
  unfolding header_block
  wrong_padding-header_block = wrong_padding-sealed _ header_end (omega arith) refl

-- the bytes of record block i, up to its fill
record_body : ℕ → List Grant → List ℕ
record_body i gs = magic ++ be16 i ++ be16 (length gs) ++ flat_map encode_record gs

length_record_body : (i : ℕ) (gs : List Grant) → length (record_body i gs) ≡ record_place (length gs)
unfolding record_body
length_record_body i gs = omega (arith, length_flat_map encode_record record_bytes gs (λ g m. length-encode_record g))

-- a block's records, counted from the first
records_of-parts : (b : List ℕ) (n : ℕ) → records_of b n ≡ map (λ r. take record_bytes (drop (record_bytes * r) (drop records_place b))) (count_from 0 n)
unfolding records_of
records_of-parts b n = map_same _ _ (count_from 0 n) (λ r m. ap (take record_bytes) (sym (drop-drop (record_bytes * r) records_place b)))

-- as many grants as are read
pub length_decoded : (b : List ℕ) (n : ℕ) → length (map decode_record (records_of b n)) ≡ n
unfolding records_of
length_decoded b n = simp (length-map, length-count_from)

module _ (i : ℕ) (gs : List Grant) (few : length gs ≤ records_per_block) where
  short : length (record_body i gs) ≤ checksum_place
  short = omega (arith, length_record_body i gs)

  pub length-record_block : length (record_block i gs) ≡ block_bytes
  unfolding record_block record_body
  length-record_block = length-sealed (record_body i gs) short

  pub wrong_checksum-record_block : wrong_checksum (record_block i gs) ≡ false
  unfolding record_block record_body
  wrong_checksum-record_block = wrong_checksum-sealed (record_body i gs) short

  pub has_magic-record_block : has_magic (record_block i gs) ≡ true
  unfolding record_block
  has_magic-record_block = has_magic-sealed i (be16 (length gs) ++ flat_map encode_record gs)

  pub number-record_block : be16_at (record_block i gs) number_place ≡ i
  unfolding record_block
  number-record_block = number-sealed i (be16 (length gs) ++ flat_map encode_record gs)

  pub count_of-record_block : count_of (record_block i gs) ≡ length gs
  unfolding record_block sealed
  count_of-record_block = div-add-mod' (length gs) 256

  pub wrong_padding-record_block : wrong_padding (record_block i gs) (record_place (count_of (record_block i gs))) ≡ false
  unfolding record_block record_body
  wrong_padding-record_block = rw count_of-record_block (wrong_padding-sealed (record_body i gs) (record_place (length gs)) short (length_record_body i gs))

  pub records_of-record_block : records_of (record_block i gs) (length gs) ≡ map encode_record gs
  unfolding record_block sealed
  records_of-record_block =
      records_of-parts (record_block i gs) (length gs)
      ∙ (rw (append_assoc (flat_map encode_record gs)) (parts_flat_map encode_record record_bytes gs _ length-encode_record))

module _ (b : List ℕ) (long : length b ≡ block_bytes) (below : Below byte_values b) where
  pair : (at : ℕ) → at + 2 ≤ block_bytes → take 2 (drop at b) ≡ be16 (be16_at b at)
  unfolding count_from
  pair at h = elements_joined b at 2 0 (omega arith) ∙ rw (be16-be16_at b at below, add-one)

  covered-take : (at : ℕ) → at ≤ checksum_place → wrong_padding b at ≡ false → covered (take at b) ≡ take checksum_place b
  unfolding covered wrong_padding
  covered-take at h e =
      let fill = drop at (take checksum_place b) in
      let size : length fill ≡ checksum_place - length (take at b) = simp (length-drop, length-take) (omega arith) in
      let zeros : fill ≡ replicate (checksum_place - length (take at b)) 0 = every_zero fill (not-false _ e) ∙ ap (λ (n : ℕ). replicate n 0) size in
      rw (← zeros, ← take-take at checksum_place b h) (take-append-drop at (take checksum_place b))

  pub sealed-take : (at : ℕ) → at ≤ checksum_place → wrong_checksum b ≡ false → wrong_padding b at ≡ false → b ≡ sealed (take at b)
  unfolding covered wrong_checksum sealed
  sealed-take at h right e =
      let sum : be16_at b checksum_place ≡ checksum (take checksum_place b) = eqb-true _ _ (not-false _ right) in
      let short : length (drop checksum_place b) ≤ 2 = simp length-drop (omega arith) in
      let stored = sym (take_all 2 (drop checksum_place b) short) ∙ pair checksum_place (omega arith) ∙ ap be16 sum in
      sym (take-append-drop checksum_place b)
      ∙ ap (λ (l : List ℕ). take checksum_place b ++ l) stored
      ∙ ap (λ (l : List ℕ). l ++ be16 (checksum l)) (sym (covered-take at h e))

  take-start : (i : ℕ) → has_magic b ≡ true → be16_at b number_place ≡ i → take 6 b ≡ opening i
  take-start i mark number = take-add 4 2 b ∙ ap₂ ◌++◌ (same_numbers_true (take 4 b) magic mark) (pair number_place (omega arith) ∙ ap be16 number)

  pub header_block-take : wrong_checksum b ≡ false → has_magic b ≡ true → be16_at b number_place ≡ 0 → wrong_padding b header_end ≡ false
      → b ≡ header_block (be16_at b 6) (record { from = be16_at b 8; to = be16_at b 10 })
  unfolding header_block
  header_block-take right mark number fill =
      let front : take 8 b ≡ opening 0 ++ be16 (be16_at b 6) = take-add 6 2 b ∙ ap₂ ◌++◌ (take-start 0 mark number) (pair 6 (omega arith)) in
      let longer : take 10 b ≡ opening 0 ++ be16 (be16_at b 6) ++ be16 (be16_at b 8) = take-add 8 2 b ∙ ap₂ ◌++◌ front (pair 8 (omega arith)) in
      sealed-take header_end (omega arith) right fill ∙ ap sealed (take-add 10 2 b ∙ ap₂ ◌++◌ longer (pair 10 (omega arith)))

  -- each of its records is 16 bytes
  pub records_of_mem : (n : ℕ) → n ≤ records_per_block → (r : List ℕ) → Memᴰ r (records_of b n) → (length r ≡ record_bytes) × Below byte_values r
  unfolding records_of
  records_of_mem n few r m =
      let place = Memᴰ.of_map (λ (k : ℕ). bytes_at b (record_place k) record_bytes) (count_from 0 n) m in
      let inside = count_from_mem 0 n place.0 place.1 in
      let size : length (bytes_at b (record_place place.0) record_bytes) ≡ record_bytes = simp (length-take, length-drop) (omega arith) in (
        sym (ap length place.2) ∙ size,
        rw (← place.2) (bytes_at_below byte_values b (record_place place.0) record_bytes below),
      )

  pub records_joined : (n : ℕ) → n ≤ records_per_block → ((r : List ℕ) → Memᴰ r (records_of b n) → kind_byte r ≤ 1)
      → take (record_bytes * n) (drop records_place b) ≡ flat_map encode_record (map decode_record (records_of b n))
  records_joined n few kinds =
      sym (parts-joined record_bytes 0 n (drop records_place b))
      ∙ sym (flat_map_map (λ r. r) _ (count_from 0 n))
      ∙ ap (flat_map (λ r. r)) (sym (records_of-parts b n))
      ∙ sym (flat_map_map encode_record decode_record (records_of b n) ∙ flat_map_same _ _ (records_of b n) same)
    where
      same : (r : List ℕ) → Memᴰ r (records_of b n) → encode_record (decode_record r) ≡ r
      same r m = let known = records_of_mem n few r m in encode_decode r known.0 known.1 (kinds r m)

  pub record_block-take : (i : ℕ) → count_of b ≤ records_per_block → wrong_checksum b ≡ false → has_magic b ≡ true → be16_at b number_place ≡ i
      → wrong_padding b (record_place (count_of b)) ≡ false
      → ((r : List ℕ) → Memᴰ r (records_of b (count_of b)) → kind_byte r ≤ 1)
      → b ≡ record_block i (map decode_record (records_of b (count_of b)))
  unfolding record_block
  record_block-take i few right mark number fill kinds =
      let front : take 8 b ≡ opening i ++ be16 (count_of b) = take-add 6 2 b ∙ ap₂ ◌++◌ (take-start i mark number) (pair 6 (omega arith)) in
      sealed-take (record_place (count_of b)) (omega arith) right fill
      ∙ ap sealed (take-add records_place (record_bytes * count_of b) b ∙ ap₂ ◌++◌ front (records_joined (count_of b) few kinds))
      ∙ ap (λ (n : ℕ). sealed (opening i ++ be16 n ++ flat_map encode_record (map decode_record (records_of b (count_of b))))) (sym (length_decoded b (count_of b)))

replicate-below : (n : ℕ) → Below byte_values (replicate n 0)
replicate-below zero = below_nil byte_values
replicate-below (suc n) = below_cons byte_values 0 (replicate n 0) (omega arith) (replicate-below n)

sealed-below : (body : List ℕ) → Below byte_values body → Below byte_values (sealed body)
unfolding sealed
sealed-below body below =
    below-append byte_values _ _
    (below-append byte_values _ _ below (replicate-below (checksum_place - length body)))
    (be16-below (checksum (body ++ replicate (checksum_place - length body) 0)) (omega (arith, checksum_lt (body ++ replicate (checksum_place - length body) 0))))

-- a number after what was written
then_number : {bytes : List ℕ} (n : ℕ) → Below byte_values bytes → n < word_values → Below byte_values (bytes ++ be16 n)
then_number n below h = below-append byte_values _ _ below (be16-below n h)

magic-below : Below byte_values magic
magic-below = byte 0x4C (omega arith) (byte 0x47 (omega arith) (byte 0x46 (omega arith) (byte current_form (omega arith) (below_nil byte_values))))
  where
    byte : {rest : List ℕ} (x : ℕ) → x < byte_values → Below byte_values rest → Below byte_values (x ∷ rest)
    byte {rest} x h below = below_cons byte_values x rest h below

pub header_block-below : (n : ℕ) (doors : Interval) → n < word_values → doors.from < word_values → doors.to < word_values
    → Below byte_values (header_block n doors)
unfolding header_block
header_block-below n doors h low high =
    sealed-below _ (then_number doors.to (then_number doors.from (then_number n (then_number 0 magic-below (omega arith)) h) low) high)

pub record_block-below : (i : ℕ) (gs : List Grant) → i < word_values → length gs < word_values → ((g : Grant) → Memᴰ g gs → GrantFits g)
    → Below byte_values (record_block i gs)
unfolding record_block
record_block-below i gs h few fits =
    sealed-below _
    (below-append byte_values _ _
    (then_number (length gs) (then_number i magic-below h) few)
    (below_flat_map byte_values encode_record gs (λ g m. encode_record-below g (fits g m))))
