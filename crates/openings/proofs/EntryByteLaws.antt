-- An entry by its bytes (specs/Entry).
--   entry_at_iff                    entries are equal exactly if all their bytes are
--   entry_door_lem, entry_quarter_lem, entry_staff_lem     the bytes of each value, high byte first
-- Assumes nothing.
use Prim.Native.Nat.{ℕ, ◌+◌, ◌*◌, ◌/◌, ◌%◌, ◌^◌, ◌<◌}
use mathlib.Core.Logic.{◌↔◌}
use mathlib.Core.Path.{◌≡◌, refl, sym, ap, ap₂, ◌∙◌}
use mathlib.Core.List.Memᴰ
use mathlib.Core.List.{List, [], ◌∷◌}
use native.Mathlib.Nat.{add-zero, add_assoc, pow-succ'}
use native.Mathlib.Omega.{arith}
use lib.Arith.{digits_lt, digits_div, digits_mod}
use lib.Dec.{lit<}
use lib.ListN.{length, get_or, take, drop, length-drop}
use lib.Seq.{length-take-le}
use Rattle.lists.proofs.ElementLaws.{mem_get_d}
use Rattle.lists.proofs.ListLaws.{take_mem, drop_mem}
use Rattle.radix_sort.specs.Keys.{big_endian, key_at}
use Rattle.radix_sort.proofs.KeyLaws.{big_endian_four, key_at_halves}
use Rattle.model.specs.Values.{byte_values, Below}
use Rattle.openings.specs.Entry.{entry_bytes, entry_door, entry_quarter, entry_staff, entries_in, entry_at}

big_endian_lt : (xs : List ℕ) → Below byte_values xs → big_endian xs < 256 ^ length xs
unfolding big_endian
big_endian_lt [] b = omega arith
big_endian_lt (x ∷ xs) b =
    rw (pow-succ' 256 (length xs)) (digits_lt (b x (Memᴰ.head refl)) (big_endian_lt xs (λ y m. b y (Memᴰ.tail m))))

big_endian_injective : (xs ys : List ℕ) → length xs ≡ length ys → Below byte_values xs → Below byte_values ys → big_endian xs ≡ big_endian ys → xs ≡ ys
unfolding big_endian
big_endian_injective [] [] n b c e = refl
big_endian_injective [] (y ∷ ys) n b c e = absurd (omega arith)
big_endian_injective (x ∷ xs) [] n b c e = absurd (omega arith)
big_endian_injective (x ∷ xs) (y ∷ ys) n b c e =
    let size : length ys ≡ length xs = omega arith in
    let p = 256 ^ length xs in
    let same : x * p + big_endian xs ≡ y * p + big_endian ys = e ∙ ap (λ (k : ℕ). y * 256 ^ k + big_endian ys) size in
    let low = big_endian_lt xs (λ z m. b z (Memᴰ.tail m)) in
    let low' : big_endian ys < p = rw size at (big_endian_lt ys (λ z m. c z (Memᴰ.tail m))) in
    ap₂ ◌∷◌ (sym (digits_div x low) ∙ ap (λ (k : ℕ). k / p) same ∙ digits_div y low')
    (big_endian_injective xs ys (sym size) (λ z m. b z (Memᴰ.tail m)) (λ z m. c z (Memᴰ.tail m))
    (sym (digits_mod x low) ∙ ap (λ (k : ℕ). k % p) same ∙ digits_mod y low'))

part-size : (r : List ℕ) (i : ℕ) → i < entries_in r → length (take entry_bytes (drop (entry_bytes * i) r)) ≡ entry_bytes
part-size r i h = length-take-le entry_bytes (drop (entry_bytes * i) r) (simp length-drop (omega arith))

part-below : (r : List ℕ) (i : ℕ) → Below byte_values r → Below byte_values (take entry_bytes (drop (entry_bytes * i) r))
part-below r i b x m = b x (drop_mem (entry_bytes * i) r x (take_mem entry_bytes (drop (entry_bytes * i) r) x m))

pub entry_at_iff : (r s : List ℕ) (i j : ℕ) → Below byte_values r → Below byte_values s → i < entries_in r → j < entries_in s
    → (entry_at r i ≡ entry_at s j) ↔ (take entry_bytes (drop (entry_bytes * i) r) ≡ take entry_bytes (drop (entry_bytes * j) s))
unfolding key_at
entry_at_iff r s i j b c h l = (
  λ e. big_endian_injective _ _ (part-size r i h ∙ sym (part-size s j l)) (part-below r i b) (part-below s j c) e,
  λ e. ap big_endian e,
)

module _ (r : List ℕ) (i : ℕ) (b : Below byte_values r) (h : i < entries_in r) where
  abbrev at : ℕ → ℕ
  at k = get_or r (entry_bytes * i + k) 0

  inside : (k : ℕ) → k < entry_bytes → at k < byte_values
  inside k l = b (at k) (mem_get_d r (entry_bytes * i + k) 0 (omega arith))

  abbrev high : ℕ
  high = big_endian (take 4 (drop (entry_bytes * i) r))

  abbrev low : ℕ
  low = big_endian (take 4 (drop (entry_bytes * i + 4) r))

  halves : entry_at r i ≡ high * 4294967296 + low
  halves = key_at_halves r i (omega arith)

  high-bytes : high ≡ at 0 * 16777216 + at 1 * 65536 + at 2 * 256 + at 3
  high-bytes = big_endian_four r (entry_bytes * i) (omega arith) ∙ rw (add-zero (entry_bytes * i))

  low-bytes : low ≡ at 4 * 16777216 + at 5 * 65536 + at 6 * 256 + at 7
  low-bytes = big_endian_four r (entry_bytes * i + 4) (omega arith) ∙ simp add_assoc

  low_lt : low < 4294967296
  low_lt = omega (arith, low-bytes, inside 4 (lit< tt), inside 5 (lit< tt), inside 6 (lit< tt), inside 7 (lit< tt))

  pub entry_staff_lem : entry_staff (entry_at r i) ≡ at 4 * 16777216 + at 5 * 65536 + at 6 * 256 + at 7
  entry_staff_lem = let same : entry_at r i % 4294967296 ≡ low = omega (arith, halves, low_lt) in same ∙ low-bytes

  -- the high half of an entry
  high_half : entry_at r i / 4294967296 ≡ high
  high_half = omega (arith, halves, low_lt)

  pub entry_quarter_lem : entry_quarter (entry_at r i) ≡ at 2 * 256 + at 3
  entry_quarter_lem = rw high_half (omega (arith, high-bytes, inside 2 (lit< tt), inside 3 (lit< tt)))

  pub entry_door_lem : entry_door (entry_at r i) ≡ at 0 * 256 + at 1
  entry_door_lem =
      let door : entry_at r i / 281474976710656 ≡ high / 65536 = omega (arith, high_half) in
      rw door (omega (arith, high-bytes, inside 0 (lit< tt), inside 1 (lit< tt), inside 2 (lit< tt), inside 3 (lit< tt)))
