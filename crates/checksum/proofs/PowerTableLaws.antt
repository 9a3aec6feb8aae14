-- Laws of specs/PowerTable.
--   table_powers     entry i of a table that passes the test is power i, for every i below 510
--   entry_lt         it is below the modulus
--   last_power       power 510 is 256 times the last entry, modulo 65521
-- Assumes nothing.
use Prim.Native.Nat.{ℕ, zero, suc, ◌+◌, ◌-◌, ◌*◌, ◌^◌, ◌%◌, ◌<◌, ◌≤◌}
use mathlib.Core.Path.{◌≡◌, refl, sym, ap, ◌∙◌}
use mathlib.Core.Bool.{Bool, true, false, ◌&&◌}
use mathlib.Core.List.{List, [], ◌∷◌}
use native.Mathlib.Nat.{add-zero, zero-add, add-suc, suc-add, mul_comm, mod-lt, le_of_suc-le-suc, not-suc-le-zero}
use native.Mathlib.Omega.{arith}
use lib.Dec.{T, eqb, eqb→eq, lit<}
use lib.ListN.{length, get_or}
use Rattle.checksum.specs.Checksum.{modulus}
use Rattle.checksum.specs.PowerTable.{entries, is_geometric, is_table}
use Rattle.checksum.proofs.ChecksumLaws.{mul_mod}

T_and : (a b : Bool) → T (a && b) → T a × T b
T_and true b t = (tt, t)
T_and false b t = absurd t

next_power : (x i : ℕ) → x ≡ 256 ^ i % modulus → 256 * x % modulus ≡ 256 ^ suc i % modulus
next_power x i e = rw e (mul_mod 256 (256 ^ i) ∙ ap (λ (n : ℕ). n % modulus) (omega arith))

-- from power i on
geometric_powers : (x : ℕ) (xs : List ℕ) (i : ℕ) → x ≡ 256 ^ i % modulus → T (is_geometric x xs)
    → (k : ℕ) → k < length xs → get_or xs k 0 ≡ 256 ^ (i + k) % modulus
unfolding is_geometric
geometric_powers x [] i e t k h = absurd (not-suc-le-zero h)
geometric_powers x (y ∷ ys) i e t zero h =
    eqb→eq y x (T_and (eqb y x) (is_geometric (256 * y % modulus) ys) t).0 ∙ e ∙ ap (λ (n : ℕ). 256 ^ n % modulus) (sym (add-zero i))
geometric_powers x (y ∷ ys) i e t (suc k) h =
    let tests = T_and (eqb y x) (is_geometric (256 * y % modulus) ys) t in
    geometric_powers (256 * y % modulus) ys (suc i) (next_power y i (eqb→eq y x tests.0 ∙ e)) tests.1 k (le_of_suc-le-suc h)
    ∙ ap (λ (n : ℕ). 256 ^ n % modulus) (suc-add i k ∙ sym (add-suc i k))

pub table_powers : (table : List ℕ) (i : ℕ) → T (is_table table) → i < entries → get_or table i 0 ≡ 256 ^ i % modulus
unfolding is_table
table_powers table i t h =
    let tests = T_and (eqb (length table) entries) (is_geometric 1 table) t in
    geometric_powers 1 table 0 refl tests.1 i (rw (eqb→eq (length table) entries tests.0) h)
    ∙ ap (λ (n : ℕ). 256 ^ n % modulus) (zero-add i)

pub entry_lt : (table : List ℕ) (i : ℕ) → T (is_table table) → i < entries → get_or table i 0 < modulus
entry_lt table i t h = rw (table_powers table i t h) (mod-lt (256 ^ i) (lit< tt))

pub last_power : (table : List ℕ) (exponent : ℕ) → T (is_table table) → entries ≤ exponent → exponent ≤ entries
    → get_or table (entries - 1) 0 * 256 % modulus ≡ 256 ^ exponent % modulus
last_power table exponent t h k =
    let last : exponent ≡ entries = omega arith in
    let entry = get_or table (entries - 1) 0 in
    rw (last, mul_comm entry 256) (next_power entry (entries - 1) (table_powers table (entries - 1) t (lit< tt)))
