-- The check as the code takes it: bytes times powers, added, a chunk after the other.
--   products_start, products_turn, products_end     no byte yet, a byte more, all
--   shift_lt       a remainder shifted is below 2 ^ 32
--   chunk-sum      a chunk, from the sums of its two halves
--   chunk_turn, chunks_end     a chunk more, before the bytes that are left; none is left
-- Assumes nothing.
use Prim.Native.Nat.{ℕ, suc, ◌+◌, ◌*◌, ◌^◌, ◌-◌, ◌%◌, ◌<◌, ◌≤◌}
use mathlib.Core.Path.{◌≡◌, sym, ap, ◌∙◌}
use mathlib.Core.List.{List, [], ◌∷◌, ◌++◌}
use native.Mathlib.Numerals.{add-one}
use native.Mathlib.Nat.{zero-mul, mod-lt, mul-le-mul, pow-succ'}
use native.Mathlib.Omega.{arith}
use lib.Dec.{lit<}
use lib.ListN.{length, get_or, take, drop, take-append-drop, length-drop}
use lib.Seq.{take-suc, take_all}
use Rattle.checksum.specs.Checksum.{modulus, base256}
use Rattle.checksum.proofs.ChecksumLaws.{add_same, mul_mod, base256-append, base256_mod}

-- the digits before the bytes, times the bytes' power
base256_lead : (v : ℕ) (bs : List ℕ) → base256 v bs ≡ v * 256 ^ length bs + base256 0 bs
unfolding base256
base256_lead v [] = omega arith
base256_lead v (b ∷ bs) =
    let longer : 256 ^ length (b ∷ bs) ≡ 256 * 256 ^ length bs = pow-succ' 256 (length bs) in
    rw (base256_lead (v * 256 + b) bs, base256_lead (0 * 256 + b) bs, longer) (omega arith)

base256-take : (bs : List ℕ) (at : ℕ) → at < length bs → base256 0 (take (at + 1) bs) ≡ base256 0 (take at bs) * 256 + get_or bs at 0
unfolding base256
base256-take bs at h =
    rw (add-one at, take-suc bs at 0 h, base256-append 0 (take at bs) (get_or bs at 0 ∷ []))

pub products_start : (bs : List ℕ) (exponent : ℕ) → 0 % modulus ≡ base256 0 (take 0 bs) * 256 ^ exponent % modulus
unfolding base256
products_start bs exponent = rw (zero-mul (256 ^ exponent))

pub products_turn : (bs : List ℕ) (at sum power exponent next : ℕ) → at < length bs → exponent ≡ suc next
    → sum % modulus ≡ base256 0 (take at bs) * 256 ^ exponent % modulus → power ≡ 256 ^ next % modulus
    → (sum + get_or bs at 0 * power) % modulus ≡ base256 0 (take (at + 1) bs) * 256 ^ next % modulus
products_turn bs at sum power exponent next h e before is-power =
    let byte = get_or bs at 0 in
    let passed = base256 0 (take at bs) in
    let added : byte * power % modulus ≡ byte * 256 ^ next % modulus = rw is-power (mul_mod byte (256 ^ next)) in
    add_same sum (byte * power) (passed * 256 ^ exponent) (byte * 256 ^ next) before added
    ∙ ap (λ (n : ℕ). n % modulus) (rw (e, pow-succ' 256 next, base256-take bs at h) (omega arith))

pub products_end : (bs : List ℕ) (at sum exponent behind : ℕ) → length bs ≤ at → exponent ≡ behind
    → sum % modulus ≡ base256 0 (take at bs) * 256 ^ exponent % modulus → sum % modulus ≡ base256 0 bs * 256 ^ behind % modulus
products_end bs at sum exponent behind h e i = rw (take_all at bs h, e) at i

-- digits, then bytes in two parts
base256-halves : (bs : List ℕ) (half v : ℕ)
    → base256 v bs ≡ v * 256 ^ length bs + base256 0 (take half bs) * 256 ^ (length bs - half) + base256 0 (drop half bs) * 256 ^ 0
base256-halves bs half v =
    let front = base256 0 (take half bs) in
    let parts : base256 0 bs ≡ front * 256 ^ length (drop half bs) + base256 0 (drop half bs) =
    ap (base256 0) (sym (take-append-drop half bs))
    ∙ base256-append 0 (take half bs) (drop half bs) ∙ base256_lead front (drop half bs) in
    rw (base256_lead v bs, parts, length-drop half bs) (omega arith)

-- the product of two remainders
pub shift_lt : (remainder power places : ℕ) → remainder < modulus → power ≡ 256 ^ places % modulus → remainder * power < 4294967296
shift_lt remainder power places h e =
    let small = rw (← e) at (mod-lt (256 ^ places) {m = modulus} (lit< tt)) in
    let most = mul-le-mul {n₁ = remainder} {m₁ = power} {n₂ = 65520} {m₂ = 65520} (omega arith) (omega (arith, small)) in
    omega (arith, most)

pub chunk-sum : (bs : List ℕ) (half before lead front back : ℕ)
    → lead % modulus ≡ before * 256 ^ length bs % modulus
    → front % modulus ≡ base256 0 (take half bs) * 256 ^ (length bs - half) % modulus
    → back % modulus ≡ base256 0 (drop half bs) * 256 ^ 0 % modulus
    → (lead + front + back) % modulus ≡ base256 before bs % modulus
chunk-sum bs half before lead front back is-lead is_front is-back =
    let high = base256 0 (take half bs) * 256 ^ (length bs - half) in
    let low = base256 0 (drop half bs) * 256 ^ 0 in
    add_same (lead + front) back (before * 256 ^ length bs + high) low
    (add_same lead front (before * 256 ^ length bs) high is-lead is_front) is-back
    ∙ ap (λ (n : ℕ). n % modulus) (sym (base256-halves bs half before))

pub chunk_turn : (sum : ℕ) (chunk rest : List ℕ) → base256 (base256 sum chunk % modulus) rest % modulus ≡ base256 sum (chunk ++ rest) % modulus
chunk_turn sum chunk rest = base256_mod (base256 sum chunk) rest ∙ ap (λ (n : ℕ). n % modulus) (sym (base256-append sum chunk rest))

pub chunks_end : (sum check : ℕ) (rest : List ℕ) → length rest ≡ 0 → sum < modulus → base256 sum rest % modulus ≡ check → sum ≡ check
unfolding base256
chunks_end sum check [] h small e = omega arith
chunks_end sum check (b ∷ bs) h small e = absurd (omega arith)
