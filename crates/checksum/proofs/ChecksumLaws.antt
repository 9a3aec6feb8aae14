-- Laws of specs/Checksum.
--   add_same, mul_mod      sums of equal remainders; a remainder taken of a factor
--   base256-append         the bytes of two lists in a row
--   base256_mod            a remainder taken before the bytes makes no difference
--   checksum-append        the check goes on from the check of the bytes before
--   checksum_lt            it is below the modulus
--   checksum-set_changes   another byte at one place gives another check (document 01: one byte changed is refused)
-- Assumes nothing.
use Prim.Native.Nat.{ℕ, suc, ◌+◌, ◌*◌, ◌/◌, ◌%◌, ◌<◌}
use mathlib.Core.Path.{◌≡◌, refl, sym, ap, ◌∙◌}
use mathlib.Core.List.{List, [], ◌∷◌, ◌++◌}
use native.Mathlib.Nat.{mul_comm, mod-lt, mod-mod, add-mod, div-add-mod, mul-add-mod_self_left}
use native.Mathlib.Omega.{arith}
use lib.Dec.{lit<}
use lib.ListN.{length, get_or, take, drop, set}
use lib.Seq.{split_at, set_split}
use Rattle.checksum.specs.Checksum.{modulus, base256, checksum}

pub add_same : (a b x y : ℕ) → a % modulus ≡ x % modulus → b % modulus ≡ y % modulus → (a + b) % modulus ≡ (x + y) % modulus
add_same a b x y p q = rw (add-mod a b modulus, p, q) (sym (add-mod x y modulus))

pub mul_mod : (a b : ℕ) → a * (b % modulus) % modulus ≡ a * b % modulus
mul_mod a b =
    let e : a * b ≡ modulus * (a * (b / modulus)) + a * (b % modulus) =
    ap (λ (n : ℕ). a * n) (sym (div-add-mod b modulus)) ∙ omega arith in
    sym (ap (λ (n : ℕ). n % modulus) e ∙ mul-add-mod_self_left modulus (a * (b / modulus)) (a * (b % modulus)))

pub base256-append : (v : ℕ) (xs ys : List ℕ) → base256 v (xs ++ ys) ≡ base256 (base256 v xs) ys
unfolding base256
base256-append v [] ys = refl
base256-append v (x ∷ xs) ys = base256-append (v * 256 + x) xs ys

-- a remainder before a digit
mod_digit : (v b : ℕ) → (v % modulus * 256 + b) % modulus ≡ (v * 256 + b) % modulus
mod_digit v b =
    add_same (v % modulus * 256) b (v * 256) b (rw (mul_comm (v % modulus) 256, mul_comm v 256) (mul_mod 256 v)) refl

pub base256_mod : (v : ℕ) (bs : List ℕ) → base256 (v % modulus) bs % modulus ≡ base256 v bs % modulus
unfolding base256
base256_mod v [] = mod-mod v modulus
base256_mod v (b ∷ bs) =
    sym (base256_mod (v % modulus * 256 + b) bs) ∙ rw (mod_digit v b) (base256_mod (v * 256 + b) bs)

pub checksum-append : (xs ys : List ℕ) → checksum (xs ++ ys) ≡ base256 (checksum xs) ys % modulus
unfolding checksum
checksum-append xs ys = rw (base256-append 0 (1 ∷ xs) ys) (sym (base256_mod (base256 0 (1 ∷ xs)) ys))

pub checksum_lt : (bs : List ℕ) → checksum bs < modulus
unfolding checksum
checksum_lt bs = mod-lt (base256 0 (1 ∷ bs)) (lit< tt)

-- remainders below the modulus whose difference it divides
same_remainder : (h k x y : ℕ) → h < modulus → k < modulus → h + modulus * x ≡ k + modulus * y → h ≡ k
same_remainder h k x y p q e = omega arith

-- 256 has an inverse: 256 × 61170 = 1 + 65521 × 239
digit_injective : (h k b : ℕ) → h < modulus → k < modulus → (h * 256 + b) % modulus ≡ (k * 256 + b) % modulus → h ≡ k
digit_injective h k b p q e =
    same_remainder h k (61170 * ((k * 256 + b) / modulus) + 239 * h) (61170 * ((h * 256 + b) / modulus) + 239 * k) p q (omega arith)

byte_injective : (h a b : ℕ) → a < 256 → b < 256 → (h * 256 + a) % modulus ≡ (h * 256 + b) % modulus → a ≡ b
byte_injective h a b p q e = omega arith

base256_injective : (h k : ℕ) (bs : List ℕ) → base256 h bs % modulus ≡ base256 k bs % modulus → h % modulus ≡ k % modulus
unfolding base256
base256_injective h k [] e = e
base256_injective h k (b ∷ bs) e =
    let d = base256_injective (h * 256 + b) (k * 256 + b) bs e in
    digit_injective (h % modulus) (k % modulus) b (mod-lt h (lit< tt)) (mod-lt k (lit< tt)) (mod_digit h b ∙ d ∙ sym (mod_digit k b))

checksum_injective : (xs ys : List ℕ) (a b : ℕ) → a < 256 → b < 256 → checksum (xs ++ a ∷ ys) ≡ checksum (xs ++ b ∷ ys) → a ≡ b
unfolding base256
checksum_injective xs ys a b p q e =
    byte_injective (checksum xs) a b p q
    (base256_injective (checksum xs * 256 + a) (checksum xs * 256 + b) ys
    (sym (checksum-append xs (a ∷ ys)) ∙ e ∙ checksum-append xs (b ∷ ys)))

pub checksum-set_changes : (bs : List ℕ) (i b : ℕ) → i < length bs → get_or bs i 0 < 256 → b < 256 → (get_or bs i 0 ≡ b → ⊥)
    → checksum (set bs i b) ≡ checksum bs → ⊥
checksum-set_changes bs i b h p q other same =
    other
    (checksum_injective (take i bs) (drop (suc i) bs) (get_or bs i 0) b p q
    (sym (ap checksum (split_at bs i 0 h)) ∙ sym same ∙ ap checksum (set_split bs i b h)))
