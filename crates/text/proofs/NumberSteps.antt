-- One step of the reading of a line's numbers, as `reading::read_numbers` makes it.
--   numbers_going ws bs vs i at   the numbers where the first i stand in vs and the next field starts at the place at
--   numbers-..                   what they are at the start, at each step and at the end
-- Assumes nothing.
use Prim.Native.Nat.{ℕ, suc, ◌+◌, ◌<◌, ◌≤◌}
use mathlib.Core.Path.{◌≡◌, refl, ap}
use mathlib.Core.List.{List, [], ◌∷◌, ◌++◌, append_assoc, append-nil}
use Rattle.std.proofs.Common.{Option, None, Some}
use native.Mathlib.Decide.{dec_lt}
use native.Mathlib.Numerals.{add-one}
use native.Mathlib.Omega.{arith}
use lib.ListN.{length, get_or, take, drop, set, drop_of_length-le}
use lib.Seq.{drop-cons, take-suc-set, take_all}
use Rattle.text.specs.declared.Width.{Width}
use Rattle.text.specs.declared.reading.Field.{Field}
use Rattle.text.specs.Width.{values_of}
use Rattle.text.specs.Decimal.{decimal, is_number}
use Rattle.text.specs.Fields.{fields}
use Rattle.text.specs.Numbers.{numbers, value_and}
use Rattle.text.specs.Scan.{first_field, field_by, field_at, fields_from}
use Rattle.text.proofs.FieldLaws.{fields-from_past, fields-from-first}

-- numbers in front of those that are still to be read
abbrev with_numbers : List ℕ → Option (List ℕ) → Option (List ℕ)
with_numbers vs None = None
with_numbers vs (Some rest) = Some (vs ++ rest)

unfoldable pub numbers_going : List Width → List ℕ → List ℕ → ℕ → ℕ → Option (List ℕ)
numbers_going ws bs vs i at = with_numbers (take i vs) (numbers (drop i ws) (fields_from bs at))

-- one number more in front
with_snoc : (vs : List ℕ) (v : ℕ) (rest : Option (List ℕ)) → with_numbers (vs ++ v ∷ []) rest ≡ with_numbers vs (value_and (Some v) rest)
with_snoc vs v None = refl
with_snoc vs v (Some rest) = ap Some (append_assoc vs (v ∷ []) rest)

pub numbers-start : (ws : List Width) (bs vs : List ℕ) (at : ℕ) → numbers_going ws bs vs 0 at ≡ numbers ws (fields_from bs at)
unfolding numbers_going
numbers-start ws bs vs at = by_case (numbers ws (fields_from bs at))
  where
    by_case : (o : Option (List ℕ)) → with_numbers [] o ≡ o
    by_case None = refl
    by_case (Some rest) = refl

-- what a field says of its value, and of its end
field-value : (o : Option ℕ) (next : ℕ) (f : Field) → field_by o next ≡ Some f → (o ≡ Some f.value) × (next ≡ f.next)
field-value None next f e = absurd (grind arith)
field-value (Some u) next f e = (cc, cc)

no_value : (o : Option ℕ) (next : ℕ) → field_by o next ≡ None → o ≡ None
no_value None next e = refl
no_value (Some u) next e = absurd (grind arith)

module _ (widths : List Width) (bs vs : List ℕ) (i at : ℕ) (d : Width) (more : i < length widths) where
  -- the value of the field, and the values after it, where there is a field
  numbers_parted : at ≤ length bs → let f = first_field (drop at bs) in numbers (drop i widths) (fields_from bs at)
      ≡ value_and (decimal (values_of (get_or widths i d)) f) (numbers (drop (suc i) widths) (fields_from bs (at + length f + 1)))
  unfolding numbers
  numbers_parted h = rw (fields-from-first bs at h, drop-cons widths i d more)

  pub numbers_bad : field_at (get_or widths i d) bs at ≡ None → None ≡ numbers_going widths bs vs i at
  unfolding numbers_going field_at numbers
  numbers_bad e = by_place (dec_lt (length bs) at)
    where
      by_place : Dec (length bs < at) → None ≡ with_numbers (take i vs) (numbers (drop i widths) (fields_from bs at))
      by_place (yes h) = rw (fields-from_past bs at h, drop-cons widths i d more)
      by_place (no h) = rw (numbers_parted (omega arith), no_value _ _ e)

  -- past the line's end there is no field
  past : length bs < at → field_at (get_or widths i d) bs at ≡ None
  unfolding field_at decimal is_number fields
  past h = rw (drop_of_length-le bs {i = at} (omega arith))

  pub numbers_more : (f : Field) → i < length vs → field_at (get_or widths i d) bs at ≡ Some f
      → numbers_going widths bs (set vs i f.value) (i + 1) f.next ≡ numbers_going widths bs vs i at
  unfolding numbers_going field_at numbers
  numbers_more f free e = by_place (dec_lt (length bs) at)
    where
      by_place : Dec (length bs < at) → with_numbers (take (i + 1) (set vs i f.value)) (numbers (drop (i + 1) widths) (fields_from bs f.next))
          ≡ with_numbers (take i vs) (numbers (drop i widths) (fields_from bs at))
      by_place (yes h) = absurd (grind (arith, past h))
      by_place (no h) =
          let o = field-value _ _ f e in
          rw (add-one i, take-suc-set vs i f.value free, with_snoc (take i vs) f.value _, ← o.1, numbers_parted (omega arith), o.0)

module _ (widths : List Width) (bs vs : List ℕ) (i at : ℕ) (all : length widths ≤ i) where
  pub numbers-end : length vs ≤ i → length bs < at → Some vs ≡ numbers_going widths bs vs i at
  unfolding numbers_going numbers
  numbers-end whole h = rw (drop_of_length-le widths all, fields-from_past bs at h, take_all i vs whole, append-nil vs)

  -- more fields than widths
  pub numbers-left : at ≤ length bs → None ≡ numbers_going widths bs vs i at
  unfolding numbers_going numbers
  numbers-left h = rw (drop_of_length-le widths all, fields-from-first bs at h)
