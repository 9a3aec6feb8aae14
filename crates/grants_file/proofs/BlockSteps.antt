-- The tests of a block, one after the other, as the code makes them.
--   form_at-start                               the mark of a form, as `starts_with` has it
--   list_all_every                              a test of each byte of the fill, as `all` has it
--   records_start, records_cons                 the records left, one at a time
-- Assumes nothing.
use Prim.Native.Nat.{ℕ, suc, ◌+◌, ◌-◌, ◌<◌, ◌≤◌}
use mathlib.Core.Path.{◌≡◌, refl, sym, ap}
use mathlib.Core.Bool.{Bool, ◌&&◌}
use mathlib.Core.List.{List, [], ◌∷◌, map}
use native.Mathlib.Nat.{sub-zero}
use native.Mathlib.Numerals.{add-one}
use native.Mathlib.Omega.{arith}
use lib.Dec.{eqb}
use lib.ListN.{length, get_or, take}
use borrow.Author.Tests.{ne_eqb}
use Rattle.std.specs.List.{starts_with, list_all}
use native.Mathlib.Decide.{ℕ_discrete}
use Rattle.lists.specs.Tests.{every, same_numbers}
use Rattle.lists.specs.Ranges.{count_from}
use Rattle.grants_file.specs.Layout.{magic_of, record_place}
use Rattle.grants_file.specs.Block.{records_of, has_form}
use Rattle.grants_file.proofs.RecordSteps.{record_at}

take_four : (b : List ℕ) → 4 ≤ length b → take 4 b ≡ get_or b 0 0 ∷ get_or b 1 0 ∷ get_or b 2 0 ∷ get_or b 3 0 ∷ []
take_four [] h = absurd (omega arith)
take_four (v ∷ []) h = absurd (omega arith)
take_four (v ∷ w ∷ []) h = absurd (omega arith)
take_four (v ∷ w ∷ x ∷ []) h = absurd (omega arith)
take_four (v ∷ w ∷ x ∷ y ∷ b) h = refl

eqb_turned : (a b : ℕ) → eqb a b ≡ eqb b a
eqb_turned a b = go (ℕ_discrete a b)
  where
    go : Dec (a ≡ b) → eqb a b ≡ eqb b a
    go (yes e) = rw e
    go (no h) = rw (ne_eqb a b h, ne_eqb b a (λ e. h (sym e)))

pub form_at-start : (b : List ℕ) (form : ℕ) → 4 ≤ length b → starts_with eqb b (magic_of form) ≡ has_form b form
unfolding same_numbers
form_at-start b form long =
    rw (take_four b long, eqb_turned 0x4C (get_or b 0 0), eqb_turned 0x47 (get_or b 1 0), eqb_turned 0x46 (get_or b 2 0), eqb_turned form (get_or b 3 0))

pub list_all_every : {A : Type 0} (t : A → Bool) (xs : List A) → list_all t xs ≡ every t xs
unfolding every
list_all_every t [] = refl
list_all_every t (x ∷ xs) = ap (λ b. t x && b) (list_all_every t xs)

-- the records from the i-th on, of n
abbrev pub records_from : List ℕ → ℕ → ℕ → List (List ℕ)
records_from b i n = map (λ r. record_at b (record_place r)) (count_from i (n - i))

pub records_cons : (b : List ℕ) (i n : ℕ) → i < n → records_from b i n ≡ record_at b (record_place i) ∷ records_from b (i + 1) n
unfolding count_from
records_cons b i n h =
    let e : n - i ≡ suc (n - (i + 1)) = omega arith in
    rw (e, add-one i)

pub records_start : (b : List ℕ) (n : ℕ) → records_of b n ≡ records_from b 0 n
unfolding records_of
records_start b n = rw (sub-zero n)
