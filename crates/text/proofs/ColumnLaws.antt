-- Numbers in columns (specs/Columns).
--   digits_fit                 a number of 16 bits fits its column
--   put_aligned-whole          blanks and a number's digits put are the number aligned
--   columns_more               one column more
-- Assumes nothing.
use Prim.Native.Nat.{ℕ, ◌+◌, ◌-◌, ◌<◌, ◌≤◌}
use mathlib.Core.Path.{◌≡◌, refl, ◌∙◌}
use mathlib.Core.List.{List, [], ◌∷◌, ◌++◌, append_assoc, append-nil}
use native.Mathlib.Numerals.{add-one}
use native.Mathlib.Omega.{arith}
use lib.ListN.{length, take, get_or}
use lib.Seq.{take-suc}
use Rattle.text.specs.Numeral.{numeral}
use Rattle.text.proofs.NumeralLaws.{numeral-few}
use Rattle.text.specs.Columns.{column_bytes, blanks, aligned, columns}

pub digits_fit : (n : ℕ) {ds : List ℕ} → n < 65536 → ds ≡ numeral n → length ds ≤ column_bytes
digits_fit n h e = rw e (omega (arith, numeral-few 4 n (omega arith)))

pub put_aligned-whole : (n : ℕ) (l : List ℕ) {m k ds : List ℕ} → m ≡ l ++ blanks (column_bytes - length ds) → ds ≡ numeral n → k ≡ m ++ ds
    → k ≡ l ++ aligned n
unfolding aligned
put_aligned-whole n l p d q = q ∙ rw (p, d, append_assoc l (blanks (column_bytes - length (numeral n))) (numeral n))

columns-append : (ms ns : List ℕ) → columns (ms ++ ns) ≡ columns ms ++ columns ns
unfolding columns
columns-append [] ns = refl
columns-append (m ∷ ms) ns = rw (columns-append ms ns, append_assoc (aligned m) (columns ms) (columns ns))

pub columns_more : (ns : List ℕ) (i : ℕ) → i < length ns → columns (take (i + 1) ns) ≡ columns (take i ns) ++ aligned (get_or ns i 0)
unfolding columns
columns_more ns i h = rw (add-one i, take-suc ns i 0 h, columns-append (take i ns) (get_or ns i 0 ∷ []), append-nil (aligned (get_or ns i 0)))
