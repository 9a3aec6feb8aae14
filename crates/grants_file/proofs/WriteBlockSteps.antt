-- A block written piece by piece, as the code does it.
--   sets_append        a run of stores and one that follows it are one run
--   take_sets          what a run stored at the start is
--   put_sets           a write to a part is a run of stores
--   seal_block         zeros up to the check, and the check, seal what stands before them
--   header_block_lem       block 0, of the doors behind its start
--   record_stored      a record, field by field
--   record_block_lem       a start and its records, sealed, are the block
-- Assumes nothing.
use Prim.Native.Nat.{ℕ, suc, ◌+◌, ◌-◌, ◌*◌, ◌≤◌}
use mathlib.Core.Path.{◌≡◌, refl, ap, ◌∙◌}
use mathlib.Core.List.{List, [], ◌∷◌, ◌++◌, flat_map, append-nil, append_assoc}
use native.Mathlib.Nat.{add-zero}
use native.Mathlib.Numerals.{unary_clauses}
use native.Mathlib.Omega.{arith}
use lib.ListN.{length, take, set, replicate, length-append, length-replicate, drop_of_length-le}
use borrow.Rule.Slice.PartMut.{put_mid}
use lib.Seq.{sets, drop-drop, length-sets, sets-eq, take_at, length-take-le}
use Rattle.lists.proofs.ListLaws.{length_flat_map}
use Rattle.model.specs.declared.Grant.{Grant}
use Rattle.model.specs.declared.Interval.{Interval}
use Rattle.model.specs.Kind.{kind_number}
use Rattle.checksum.specs.Checksum.{checksum}
use Rattle.grants_file.specs.Layout.{record_bytes, block_bytes, checksum_place, records_place, records_per_block, header_end, magic}
use Rattle.grants_file.specs.Bytes.{be16}
use Rattle.grants_file.specs.Record.{encode_record}
use Rattle.grants_file.specs.Block.{sealed, header_block, record_block}
use Rattle.grants_file.proofs.RecordLaws.{length-encode_record}

pub sets_append : (l : List ℕ) (i : ℕ) (xs ys : List ℕ) (j : ℕ) → i + length xs ≡ j → sets (sets l i xs) j ys ≡ sets l i (xs ++ ys)
sets_append l i [] ys j e = rw (← e, add-zero i)
sets_append l i (x ∷ xs) ys j e = sets_append (set l i x) (suc i) xs ys j (omega (arith, e))

pub take_sets : (l xs : List ℕ) (n : ℕ) → length xs ≡ n → n ≤ length l → take n (sets l 0 xs) ≡ xs
take_sets l xs n e h = rw (sets-eq xs l 0 (omega (arith, e))) (take_at xs _ n e)

-- a write to a part, k numbers from a on
pub put_sets : (a k : ℕ) (xs ys : List ℕ) → length ys ≡ k → a + k ≤ length xs → put_mid a k xs ys ≡ sets xs a ys
put_sets a k xs ys e h = rw (sets-eq ys xs a (omega (arith, e)), e, drop-drop k a xs, append_assoc) refl

module _ (b : List ℕ) (start : ℕ) (long : length b ≡ block_bytes) (h : start ≤ checksum_place) where
  abbrev zeros : List ℕ
  zeros = replicate (checksum_place - start) 0

  abbrev filled : List ℕ
  filled = sets b start zeros

  take_filled : take checksum_place filled ≡ take start b ++ zeros
  take_filled =
      let z : length zeros ≡ checksum_place - start = length-replicate _ _ in
      let t : length (take start b) ≡ start = length-take-le start b (omega (arith, long)) in
      rw (sets-eq zeros b start (omega (arith, z, long)))
      (take_at (take start b ++ zeros) _ checksum_place (length-append (take start b) zeros ∙ omega (arith, z, t)))

  pub seal_block : {done stored : List ℕ} {k : ℕ} → done ≡ filled → k ≡ checksum (take checksum_place done)
      → stored ≡ sets done checksum_place (be16 k) → stored ≡ sealed (take start b)
  unfolding sealed
  seal_block {done} {stored} {k} d c s =
      let t : length (take start b) ≡ start = length-take-le start b (omega (arith, long)) in
      let whole : length filled ≡ block_bytes = length-sets b start zeros ∙ long in
      let sum : k ≡ checksum (take start b ++ zeros) = rw (d, take_filled) at c in
      s
      ∙ rw (
        d,
        sum,
        sets-eq (be16 (checksum (take start b ++ zeros))) filled checksum_place (omega (arith, whole)),
        take_filled,
        drop_of_length-le filled {i = checksum_place + 2} (omega (arith, whole)),
        t,
      )
      (append-nil _)

-- document 01's mark, a number and a count
abbrev pub started : ℕ → ℕ → List ℕ
started i n = magic ++ be16 i ++ be16 n

module _ (b : List ℕ) where
  pub header_block_lem : (n : ℕ) (doors : Interval) {done from to block : List ℕ} → length b ≡ block_bytes → done ≡ sets b 0 (started 0 n)
      → from ≡ sets done 8 (be16 doors.from) → to ≡ sets from 10 (be16 doors.to) → block ≡ sealed (take header_end to)
      → block ≡ header_block n doors
  unfolding header_block
  header_block_lem n doors long d f t e =
      let body : List ℕ = started 0 n ++ be16 doors.from ++ be16 doors.to in
      e ∙ rw (t, f, d) (ap sealed (take_sets b body header_end refl (omega (arith, long))))

pub length_records : (i n : ℕ) (gs : List Grant) → length (started i n ++ flat_map encode_record gs) ≡ records_place + record_bytes * length gs
length_records i n gs =
    length-append (started i n) (flat_map encode_record gs)
    ∙ ap (λ (k : ℕ). records_place + k) (length_flat_map encode_record record_bytes gs (λ g m. length-encode_record g))

pub record_block_lem : (b : List ℕ) (i n : ℕ) (gs : List Grant) {done block : List ℕ} → length b ≡ block_bytes → length gs ≡ n → n ≤ records_per_block
    → done ≡ sets b 0 (started i n ++ flat_map encode_record gs) → block ≡ sealed (take (records_place + record_bytes * n) done)
    → block ≡ record_block i gs
unfolding record_block
record_block_lem b i n gs long count few d e =
    let whole : length (started i n ++ flat_map encode_record gs) ≡ records_place + record_bytes * n = length_records i n gs ∙ rw count in
    e ∙ rw (d, count) (ap sealed (take_sets b (started i n ++ flat_map encode_record gs) _ whole (omega (arith, long))))

-- a record written field by field, two bytes each but for the third and the fourth
module _ (l : List ℕ) (at : ℕ) (g : Grant) where
  pub record_stored : {l1 l2 l3 l4 l5 l6 l7 : List ℕ} {kind : ℕ} → l1 ≡ sets l at (be16 g.number) → kind ≡ kind_number g.kind
      → l2 ≡ sets (set (set l1 (at + 2) g.rank) (at + 3) kind) (at + 4) (be16 g.bounds.staff_from)
      → l3 ≡ sets l2 (at + 6) (be16 g.bounds.staff_to)
      → l4 ≡ sets l3 (at + 8) (be16 g.bounds.door_from)
      → l5 ≡ sets l4 (at + 10) (be16 g.bounds.door_to)
      → l6 ≡ sets l5 (at + 12) (be16 g.bounds.quarter_from)
      → l7 ≡ sets l6 (at + 14) (be16 g.bounds.quarter_to)
      → l7 ≡ sets l at (encode_record g)
  unfolding encode_record flat_map
  record_stored e1 k e2 e3 e4 e5 e6 e7 =
      let p10 : at + 10 ≡ suc (suc (at + 8)) = omega arith in
      let p12 : at + 12 ≡ suc (suc (suc (suc (at + 8)))) = omega arith in
      let p14 : at + 14 ≡ suc (suc (suc (suc (suc (suc (at + 8)))))) = omega arith in
      rw (e7, e6, e5, e4, e3, e2, k, e1, p10, p12, p14) (simp unary_clauses refl)
