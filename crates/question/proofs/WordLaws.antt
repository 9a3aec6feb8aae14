-- A word at the start of a text (specs/Word), as the library's slices tell it.
--   starts             a text begins with a word where as many bytes of it as the word has are the word
--   same_pointwise     two lists are the same where each number of the one is that of the other
--   empty_same         a list is the empty one where it has no length
-- Assumes nothing.
use Prim.Native.Nat.{ℕ}
use mathlib.Core.Path.{◌≡◌, refl, sym, ◌∙◌}
use mathlib.Core.Bool.{Bool}
use mathlib.Core.List.{List, [], ◌∷◌}
use native.Mathlib.Omega.{arith}
use borrow.Author.Tests.{ne_eqb}
use lib.Dec.{eqb}
use lib.Pointwise.{pointwise}
use lib.ListN.{length, take}
use Rattle.lists.specs.Tests.{same_numbers}
use Rattle.question.specs.Word.{begins}

begins_prefix : (ws bs : List ℕ) → begins ws bs ≡ pointwise eqb (take (length ws) bs) ws
unfolding begins
begins_prefix [] bs = refl
begins_prefix (w ∷ ws) [] = refl
begins_prefix (w ∷ ws) (b ∷ bs) = rw (begins_prefix ws bs)

pub starts : (ws bs : List ℕ) {t : Bool} → pointwise eqb (take (length ws) bs) ws ≡ t → begins ws bs ≡ t
starts ws bs e = begins_prefix ws bs ∙ e

pub same_pointwise : (ms ns : List ℕ) → same_numbers ms ns ≡ pointwise eqb ms ns
unfolding same_numbers
same_pointwise [] [] = refl
same_pointwise [] (n ∷ ns) = refl
same_pointwise (m ∷ ms) [] = refl
same_pointwise (m ∷ ms) (n ∷ ns) = rw (same_pointwise ms ns)

pub empty_same : (bs : List ℕ) → same_numbers bs [] ≡ eqb (length bs) 0
unfolding same_numbers
empty_same [] = refl
empty_same (b ∷ bs) = sym (ne_eqb (length (b ∷ bs)) 0 (λ e. omega arith))
