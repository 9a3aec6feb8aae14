-- The fields of a line, from its first byte on, and from place to place.
--   fields-blank, fields_other  a blank ends the first field; any other byte is its first
--   first-blank, first_other    the same of the first field alone
--   fields-from_past            after the line's end there are none
--   fields-from-first           the field that starts at a place, and those after it
--   value-after_grows           more digits make no number less
-- Assumes nothing.
use Prim.Native.Nat.{ℕ, zero, suc, ◌+◌, ◌-◌, ◌*◌, ◌<◌, ◌≤◌}
use mathlib.Core.Path.{◌≡◌, refl, sym, ◌∙◌}
use mathlib.Core.List.{List, [], ◌∷◌}
use native.Mathlib.Nat.{le_refl, le_trans, zero-add, suc-add, add_assoc}
use native.Mathlib.Decide.{ℕ_discrete}
use native.Mathlib.Omega.{arith}
use borrow.Author.Tests.{eq-eqb, ne_eqb, le-leb, lt-leb}
use lib.Dec.{leb-suc-suc}
use lib.ListN.{length, get_or, drop}
use Rattle.text.specs.Ascii.{blank}
use Rattle.text.specs.Decimal.{value_after, zero_digit}
use Rattle.text.specs.Fields.{fields, with_first}
use Rattle.text.specs.Scan.{first_field, fields_from}

pub fields-blank : (b : ℕ) (bs : List ℕ) → b ≡ blank → fields (b ∷ bs) ≡ [] ∷ fields bs
unfolding fields
fields-blank b bs e = rw (eq-eqb b blank e)

pub fields_other : (b : ℕ) (bs : List ℕ) → (b ≡ blank → ⊥) → fields (b ∷ bs) ≡ with_first b (fields bs)
unfolding fields
fields_other b bs h = rw (ne_eqb b blank h)

pub first-blank : (b : ℕ) (bs : List ℕ) → b ≡ blank → first_field (b ∷ bs) ≡ []
first-blank b bs e = rw (fields-blank b bs e)

with_first_lem : (b : ℕ) (fs : List (List ℕ)) → get_or (with_first b fs) 0 [] ≡ b ∷ get_or fs 0 []
with_first_lem b [] = refl
with_first_lem b (f ∷ fs) = refl

pub first_other : (b : ℕ) (bs : List ℕ) → (b ≡ blank → ⊥) → first_field (b ∷ bs) ≡ b ∷ first_field bs
first_other b bs h = rw (fields_other b bs h) (with_first_lem b (fields bs))

fields-from_shift : (b : ℕ) (bs : List ℕ) (n : ℕ) → fields_from (b ∷ bs) (suc n) ≡ fields_from bs n
unfolding fields_from
fields-from_shift b bs n = rw (leb-suc-suc n (length bs))

fields-from-drop : (at : ℕ) (bs : List ℕ) (n : ℕ) → at ≤ length bs → fields_from (drop at bs) n ≡ fields_from bs (at + n)
fields-from-drop zero bs n h = rw (zero-add n)
fields-from-drop (suc at) [] n h = absurd (omega arith)
fields-from-drop (suc at) (b ∷ bs) n h = fields-from-drop at bs n (omega arith) ∙ sym (rw (suc-add at n) (fields-from_shift b bs (at + n)))

-- a first field, and what comes after it
Parted : List ℕ → Type 0
Parted bs = fields bs ≡ first_field bs ∷ fields_from bs (length (first_field bs) + 1)

parted_blank : (b : ℕ) (bs : List ℕ) → b ≡ blank → Parted (b ∷ bs)
unfolding Parted fields_from
parted_blank b bs e = rw (fields-blank b bs e, le-leb 1 (suc (length bs)) (omega arith))

parted_other : (b : ℕ) (bs : List ℕ) → (b ≡ blank → ⊥) → Parted bs → Parted (b ∷ bs)
unfolding Parted
parted_other b bs h e = rw (fields_other b bs h, e) (rw (suc-add (length (first_field bs)) 1, fields-from_shift b bs (length (first_field bs) + 1)))

parted_by : (b : ℕ) (bs : List ℕ) → Dec (b ≡ blank) → Parted bs → Parted (b ∷ bs)
parted_by b bs (yes e) p = parted_blank b bs e
parted_by b bs (no h) p = parted_other b bs h p

fields_parted : (bs : List ℕ) → Parted bs
unfolding Parted fields fields_from
fields_parted [] = refl
fields_parted (b ∷ bs) = parted_by b bs (ℕ_discrete b blank) (fields_parted bs)

pub fields-from_past : (bs : List ℕ) (at : ℕ) → length bs < at → fields_from bs at ≡ []
unfolding fields_from
fields-from_past bs at h = rw (lt-leb at (length bs) h)

fields-from-within : (bs : List ℕ) (at : ℕ) → at ≤ length bs → fields_from bs at ≡ fields (drop at bs)
unfolding fields_from
fields-from-within bs at h = rw (le-leb at (length bs) h)

pub fields-from-first : (bs : List ℕ) (at : ℕ) → at ≤ length bs
    → fields_from bs at ≡ first_field (drop at bs) ∷ fields_from bs (at + length (first_field (drop at bs)) + 1)
unfolding Parted
fields-from-first bs at h =
    let n = length (first_field (drop at bs)) in
    fields-from-within bs at h ∙ fields_parted (drop at bs) ∙ rw (fields-from-drop at bs (n + 1) h, add_assoc at n 1)

pub value-after_grows : (v : ℕ) (bs : List ℕ) → v ≤ value_after v bs
unfolding value_after
value-after_grows v [] = le_refl v
value-after_grows v (b ∷ bs) = le_trans (omega arith) (value-after_grows (v * 10 + (b - zero_digit)) bs)
