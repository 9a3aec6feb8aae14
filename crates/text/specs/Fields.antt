-- The fields of a line (document 01, "Marked cases": one blank between them).
--   fields bs         the line split at each blank
--   with_first b fs    the fields with one byte more at the start of the first
-- A blank at either end, or two together, part off an empty field, which is no number and no letter; any other byte belongs to a field,
-- so that a tab or a carriage return makes one that is no number.
-- Assumes nothing: these are definitions.
use Rattle.std.specs.Prelude.{ℕ, cond, List, [], ◌∷◌, eqb}
use Rattle.text.specs.Ascii.{blank}

abbrev pub with_first : ℕ → List (List ℕ) → List (List ℕ)
with_first b [] = (b ∷ []) ∷ []
with_first b (f ∷ fs) = (b ∷ f) ∷ fs

unfoldable pub fields : List ℕ → List (List ℕ)
fields [] = [] ∷ []
fields (b ∷ bs) = cond (eqb b blank) ([] ∷ fields bs) (with_first b (fields bs))
