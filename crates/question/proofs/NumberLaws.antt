-- A number that is a whole text, read as a line of one number (specs/Number).
--   one_number               the only number of a line is that of its whole text
--   number_none, number_some so it is the first of the numbers read
--   fields_from_start        from the first place on, they are all fields
-- Assumes nothing.
use Prim.Native.Nat.{ℕ, zero-le}
use mathlib.Core.Path.{◌≡◌, refl, ◌∙◌}
use mathlib.Core.Bool.{false, and-false}
use mathlib.Core.List.{List, [], ◌∷◌}
use Rattle.std.proofs.Common.{Option, None, Some}
use native.Mathlib.Decide.{ℕ_discrete}
use borrow.Author.Tests.{le-leb}
use lib.ListN.{length, get_or}
use Rattle.lists.specs.Tests.{every}
use Rattle.model.specs.Values.{word_values}
use Rattle.text.specs.declared.Width.TheVariants.{Word}
use Rattle.text.specs.Ascii.{blank}
use Rattle.text.specs.Decimal.{is_digit, is_number, decimal}
use Rattle.text.specs.Fields.{fields}
use Rattle.text.specs.Numbers.{numbers, value_and}
use Rattle.text.specs.Scan.{fields_from}
use Rattle.text.proofs.FieldLaws.{fields-blank, fields_other}
use Rattle.question.specs.Number.{typed_number}

-- a text is one field, or has two or more and isn't all digits
data Fielded (bs : List ℕ) : Type 0 where
  whole : fields bs ≡ bs ∷ [] → Fielded bs
  parted : (f g : List ℕ) (fs : List (List ℕ)) → fields bs ≡ f ∷ g ∷ fs → every is_digit bs ≡ false → Fielded bs

fielded_blank : (b : ℕ) (bs : List ℕ) → b ≡ blank → Fielded bs → Fielded (b ∷ bs)
unfolding every
fielded_blank b bs e (whole p) = parted [] bs [] (fields-blank b bs e ∙ rw p) (rw e)
fielded_blank b bs e (parted f g fs p n) = parted [] f (g ∷ fs) (fields-blank b bs e ∙ rw p) (rw e)

fielded_other : (b : ℕ) (bs : List ℕ) → (b ≡ blank → ⊥) → Fielded bs → Fielded (b ∷ bs)
unfolding every
fielded_other b bs h (whole p) = whole (fields_other b bs h ∙ rw p)
fielded_other b bs h (parted f g fs p n) = parted (b ∷ f) g fs (fields_other b bs h ∙ rw p) (rw (n, and-false (is_digit b)))

fielded_by : (b : ℕ) (bs : List ℕ) → Dec (b ≡ blank) → Fielded bs → Fielded (b ∷ bs)
fielded_by b bs (yes e) r = fielded_blank b bs e r
fielded_by b bs (no h) r = fielded_other b bs h r

fielded : (bs : List ℕ) → Fielded bs
unfolding fields
fielded [] = whole refl
fielded (b ∷ bs) = fielded_by b bs (ℕ_discrete b blank) (fielded bs)

-- the first of the numbers read
abbrev first_number : Option (List ℕ) → Option ℕ
first_number None = None
first_number (Some vs) = Some (get_or vs 0 0)

not-number : (bs : List ℕ) → every is_digit bs ≡ false → is_number bs ≡ false
unfolding is_number
not-number [] n = refl
not-number (b ∷ bs) n = n

alone : (o : Option ℕ) → o ≡ first_number (value_and o (Some []))
alone None = refl
alone (Some v) = refl

among : (o : Option ℕ) → None ≡ first_number (value_and o None)
among None = refl
among (Some v) = refl

pub one_number : (bs : List ℕ) → typed_number bs ≡ first_number (numbers (Word ∷ []) (fields bs))
unfolding typed_number numbers decimal
one_number bs = by-fields (fielded bs)
  where
    by-fields : Fielded bs → typed_number bs ≡ first_number (numbers (Word ∷ []) (fields bs))
    by-fields (whole p) = rw p (alone (decimal word_values bs))
    by-fields (parted f g fs p n) = rw (p, not-number bs n) (among (decimal word_values f))

pub fields_from_start : (bs : List ℕ) → fields_from bs 0 ≡ fields bs
unfolding fields_from
fields_from_start bs = rw (le-leb 0 (length bs) zero-le)

module _ (bs : List ℕ) where
  number_read : (o : Option (List ℕ)) → o ≡ numbers (Word ∷ []) (fields_from bs 0) → first_number o ≡ typed_number bs
  number_read o e = rw (e, fields_from_start bs, one_number bs)

  pub number_none : None ≡ numbers (Word ∷ []) (fields_from bs 0) → None ≡ typed_number bs
  number_none = number_read None

  pub number_some : (vs : List ℕ) → Some vs ≡ numbers (Word ∷ []) (fields_from bs 0) → Some (get_or vs 0 0) ≡ typed_number bs
  number_some vs = number_read (Some vs)
