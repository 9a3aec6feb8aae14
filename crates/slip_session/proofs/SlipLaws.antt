-- From a line's numbers to its call.
--   numbers_fit             each number is one of its width
--   empty, single, joined, parted   the call of a line by its first two bytes
-- Assumes nothing.
use Prim.Native.Nat.{ℕ, zero, suc, ◌<◌}
use mathlib.Core.Path.{◌≡◌, refl, sym, ◌∙◌}
use mathlib.Core.Bool.{Bool, true, false, cond, ◌&&◌}
use mathlib.Core.List.{List, [], ◌∷◌}
use Rattle.std.proofs.Common.{Option, None, Some}
use native.Mathlib.Decide.{ℕ_discrete}
use native.Mathlib.Omega.{arith}
use borrow.Author.Tests.{ltb-true, le-leb}
use lib.Dec.{ltb}
use lib.ListN.{length, get_or}
use Rattle.text.specs.declared.Width.{Width}
use Rattle.text.specs.Ascii.{blank}
use Rattle.text.specs.Width.{values_of}
use Rattle.text.specs.Fields.{fields, with_first}
use Rattle.text.specs.Decimal.{decimal, is_number, value_after}
use Rattle.slip_session.specs.Slip.{letter_slip, fields_slip, parse_line}
use Rattle.text.specs.Numbers.{numbers, value_and}
use Rattle.text.specs.Scan.{fields_from}
use Rattle.text.proofs.FieldLaws.{fields-blank, fields_other}

-- a value, and the values after it
record Parts (o : Option ℕ) (rest : Option (List ℕ)) (vs : List ℕ) : Type 0 where
  value : ℕ
  values : List ℕ
  is_value : o ≡ Some value
  is_rest : rest ≡ Some values
  is_both : vs ≡ value ∷ values

parts : (o : Option ℕ) (rest : Option (List ℕ)) (vs : List ℕ) → value_and o rest ≡ Some vs → Parts o rest vs
parts None rest vs e = absurd (grind arith)
parts (Some v) None vs e = absurd (grind arith)
parts (Some v) (Some us) vs e = record { value = v; values = us; is_value = refl; is_rest = refl; is_both = cc }

decimal-fits : (n : ℕ) (f : List ℕ) (v : ℕ) → decimal n f ≡ Some v → v < n
unfolding decimal
decimal-fits n f v e = by_tests (is_number f) (ltb (value_after 0 f) n) refl e
  where
    by_tests : (s t : Bool) → ltb (value_after 0 f) n ≡ t → cond (s && t) (Some (value_after 0 f)) None ≡ Some v → v < n
    by_tests true true h p = let q : value_after 0 f ≡ v = cc in rw q at (ltb-true (value_after 0 f) n h)
    by_tests true false h p = absurd (grind arith)
    by_tests false t h p = absurd (grind arith)

pub numbers_fit : (ws : List Width) (fs : List (List ℕ)) (vs : List ℕ) (i : ℕ) (d : Width) → numbers ws fs ≡ Some vs → i < length ws
    → get_or vs i 0 < values_of (get_or ws i d)
unfolding numbers
numbers_fit [] fs vs i d e h = absurd (omega arith)
numbers_fit (w ∷ ws) [] vs i d e h = absurd (grind arith)
numbers_fit (w ∷ ws) (f ∷ fs) vs zero d e h =
    let p = parts (decimal (values_of w) f) (numbers ws fs) vs e in
    rw p.is_both (decimal-fits (values_of w) f p.value p.is_value)
numbers_fit (w ∷ ws) (f ∷ fs) vs (suc i) d e h =
    let p = parts (decimal (values_of w) f) (numbers ws fs) vs e in
    rw p.is_both (numbers_fit ws fs p.values i d p.is_rest (omega arith))

-- a blank is no letter
letter_blank : (b : ℕ) (fs : List (List ℕ)) → b ≡ blank → letter_slip b fs ≡ None
unfolding letter_slip
letter_blank b fs e = rw e

-- an empty first field, and one of two bytes or more
empty_first : (b : ℕ) (bs : List ℕ) → b ≡ blank → parse_line (b ∷ bs) ≡ None
unfolding parse_line fields_slip
empty_first b bs e = rw (fields-blank b bs e)

long-first : (b c : ℕ) (fs : List (List ℕ)) → fields_slip (with_first b (with_first c fs)) ≡ None
unfolding fields_slip
long-first b c [] = refl
long-first b c (f ∷ fs) = refl

pub empty : (l : List ℕ) → length l ≡ 0 → None ≡ parse_line l
unfolding parse_line fields_slip fields
empty [] e = refl
empty (b ∷ bs) e = absurd (omega arith)

pub single : (l : List ℕ) → length l ≡ 1 → letter_slip (get_or l 0 0) (fields_from l 2) ≡ parse_line l
unfolding parse_line fields_slip fields fields_from
single [] e = absurd (omega arith)
single (b ∷ (c ∷ bs)) e = absurd (omega arith)
single (b ∷ []) e = by_byte (ℕ_discrete b blank)
  where
    by_byte : Dec (b ≡ blank) → letter_slip b [] ≡ parse_line (b ∷ [])
    by_byte (yes p) = letter_blank b [] p ∙ sym (empty_first b [] p)
    by_byte (no p) = rw (fields_other b [] p)

pub parted : (l : List ℕ) → 1 < length l → get_or l 1 0 ≡ blank → letter_slip (get_or l 0 0) (fields_from l 2) ≡ parse_line l
unfolding parse_line fields_slip fields_from
parted [] h e = absurd (omega arith)
parted (b ∷ []) h e = absurd (omega arith)
parted (b ∷ (c ∷ bs)) h e = rw (le-leb 2 (suc (suc (length bs))) (omega arith)) (by_byte (ℕ_discrete b blank))
  where
    by_byte : Dec (b ≡ blank) → letter_slip b (fields bs) ≡ parse_line (b ∷ (c ∷ bs))
    by_byte (yes p) = letter_blank b (fields bs) p ∙ sym (empty_first b (c ∷ bs) p)
    by_byte (no p) = rw (fields_other b (c ∷ bs) p, fields-blank c bs e)

pub joined : (l : List ℕ) → 1 < length l → (get_or l 1 0 ≡ blank → ⊥) → None ≡ parse_line l
unfolding parse_line
joined [] h e = absurd (omega arith)
joined (b ∷ []) h e = absurd (omega arith)
joined (b ∷ (c ∷ bs)) h e = sym (by_byte (ℕ_discrete b blank))
  where
    by_byte : Dec (b ≡ blank) → parse_line (b ∷ (c ∷ bs)) ≡ None
    by_byte (yes p) = empty_first b (c ∷ bs) p
    by_byte (no p) = rw (fields_other b (c ∷ bs) p, fields_other c bs e) (long-first b c (fields bs))
