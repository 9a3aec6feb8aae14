-- One step of the reading of a field, as `reading::read_field` makes it.
--   field_going w bs at v   the field where its digits so far make v and the rest of the line is bs, from the place at on
--   field_end, field_blank, field_starts   what the field is by its first byte
--   going-..               what it is by its next byte
-- Assumes nothing.
use Prim.Native.Nat.{ℕ, suc, ◌+◌, ◌-◌, ◌*◌, ◌<◌, ◌≤◌}
use mathlib.Core.Path.{◌≡◌, refl, ◌∙◌}
use mathlib.Core.Logic.{◌⊎◌, inl, inr}
use mathlib.Core.Bool.{false, cond, ◌&&◌, and-false}
use mathlib.Core.List.{List, ◌∷◌}
use Rattle.std.proofs.Common.{Option, None, Some}
use native.Mathlib.Nat.{add-zero, le_trans}
use native.Mathlib.Numerals.{add-one}
use native.Mathlib.Omega.{arith}
use borrow.Author.Tests.{le-ltb, le-leb, lt-leb}
use lib.Dec.{ltb, leb}
use lib.ListN.{length, get_or, drop, drop_of_length-le}
use lib.Seq.{drop-cons}
use Rattle.lists.specs.Tests.{every}
use Rattle.text.specs.declared.Width.{Width}
use Rattle.text.specs.declared.Width.TheVariants.{Byte, Word}
use Rattle.text.specs.declared.reading.Field.{Field}
use Rattle.text.specs.Ascii.{blank}
use Rattle.text.specs.Width.{values_of}
use Rattle.text.specs.Decimal.{is_digit, is_number, value_after, decimal, zero_digit, nine_digit}
use Rattle.text.specs.Fields.{fields}
use Rattle.text.specs.Scan.{first_field, field_by, field_at}
use Rattle.text.proofs.FieldLaws.{first-blank, first_other, value-after_grows}

-- the field whose other bytes are f
abbrev going_on : Width → List ℕ → ℕ → ℕ → Option Field
going_on w f at v =
    field_by (cond (every is_digit f && ltb (value_after v f) (values_of w)) (Some (value_after v f)) None) (at + length f + 1)

unfoldable pub field_going : Width → List ℕ → ℕ → ℕ → Option Field
field_going w bs at v = going_on w (first_field bs) at v

-- the same, as the definition says it
going-decimal : (w : Width) (f : List ℕ) (at : ℕ) → is_number f ≡ every is_digit f
    → going_on w f at 0 ≡ field_by (decimal (values_of w) f) (at + length f + 1)
unfolding decimal
going-decimal w f at e = rw e

one_later : (at n : ℕ) → suc at + n + 1 ≡ at + suc n + 1
one_later at n = omega arith

values-few : (w : Width) → values_of w ≤ 65536
values-few Byte = omega arith
values-few Word = omega arith

-- a field is empty at the line's end and before a blank
pub field_end : (w : Width) (l : List ℕ) (at : ℕ) → length l ≤ at → None ≡ field_at w l at
unfolding field_at decimal is_number fields
field_end w l at h = rw (drop_of_length-le l h)

pub field_blank : (w : Width) (l : List ℕ) (at : ℕ) → at < length l → get_or l at 0 ≡ blank → None ≡ field_at w l at
unfolding field_at decimal is_number
field_blank w l at h e = rw (drop-cons l at 0 h, first-blank (get_or l at 0) (drop (suc at) l) e)

pub field_starts : (w : Width) (l : List ℕ) (at : ℕ) → at < length l → (get_or l at 0 ≡ blank → ⊥) → field_going w (drop at l) at 0 ≡ field_at w l at
unfolding field_going field_at is_number
field_starts w l at h e = rw (drop-cons l at 0 h, first_other (get_or l at 0) (drop (suc at) l) e) (going-decimal w _ at refl)

module _ (w : Width) (l : List ℕ) (at v : ℕ) where
  pub going_end : length l ≡ at → field_by (cond (ltb v (values_of w)) (Some v) None) (length l + 1) ≡ field_going w (drop at l) at v
  unfolding field_going fields every value_after
  going_end h = rw (drop_of_length-le l {i = at} (omega arith), h, add-zero at)

  module _ (b : ℕ) (h : at < length l) (e : b ≡ get_or l at 0) where
    parted : drop at l ≡ b ∷ drop (suc at) l
    parted = drop-cons l at 0 h ∙ rw e

    pub going-blank : b ≡ blank → field_by (cond (ltb v (values_of w)) (Some v) None) (at + 1) ≡ field_going w (drop at l) at v
    unfolding field_going every value_after
    going-blank p = rw (parted, first-blank b (drop (suc at) l) p, add-zero at)

    not_digit : is_digit b ≡ false → (b ≡ blank → ⊥) → None ≡ field_going w (drop at l) at v
    unfolding field_going every
    not_digit n p = rw (parted, first_other b (drop (suc at) l) p, n)

    pub going_other : (b ≡ blank → ⊥) → b < zero_digit ⊎ nine_digit < b → None ≡ field_going w (drop at l) at v
    going_other p (inl q) = not_digit (rw (lt-leb zero_digit b q)) p
    going_other p (inr q) = not_digit (rw (lt-leb b nine_digit q, and-false (leb zero_digit b))) p

    pub going-digit : (b ≡ blank → ⊥) → zero_digit ≤ b → b ≤ nine_digit
        → field_going w (drop (at + 1) l) (at + 1) (v * 10 + (b - zero_digit)) ≡ field_going w (drop at l) at v
    unfolding field_going every value_after
    going-digit p q r =
        rw (parted, first_other b (drop (suc at) l) p, le-leb zero_digit b q, le-leb b nine_digit r, add-one at)
        (rw (one_later at (length (first_field (drop (suc at) l)))))

    pub going_wide : (b ≡ blank → ⊥) → zero_digit ≤ b → b ≤ nine_digit → 65535 < v * 10 + (b - zero_digit)
        → None ≡ field_going w (drop at l) at v
    unfolding field_going every value_after
    going_wide p q r s =
        let f = first_field (drop (suc at) l) in
        rw (parted, first_other b (drop (suc at) l) p, le-leb zero_digit b q, le-leb b nine_digit r, too_wide f, and-false (every is_digit f))
      where
        too_wide : (f : List ℕ) → ltb (value_after (v * 10 + (b - zero_digit)) f) (values_of w) ≡ false
        too_wide f = le-ltb _ _ (le_trans (values-few w) (le_trans s (value-after_grows _ f)))
