-- The numbers in the fields of a line, one for each width that is asked for.
--   numbers ws fs    the values of the fields fs, one for each width of ws; none if a field is no number, too wide, missing or too many
-- Assumes nothing: these are definitions.
use Rattle.std.specs.Prelude.{ℕ, List, [], ◌∷◌, Option, None, Some}
use Rattle.text.specs.declared.Width.{Width}
use Rattle.text.specs.Width.{values_of}
use Rattle.text.specs.Decimal.{decimal}

-- a value and those after it, where all are there
abbrev pub value_and : Option ℕ → Option (List ℕ) → Option (List ℕ)
value_and None vs = None
value_and (Some v) None = None
value_and (Some v) (Some vs) = Some (v ∷ vs)

unfoldable pub numbers : List Width → List (List ℕ) → Option (List ℕ)
numbers [] [] = Some []
numbers [] (f ∷ fs) = None
numbers (w ∷ ws) [] = None
numbers (w ∷ ws) (f ∷ fs) = value_and (decimal (values_of w) f) (numbers ws fs)
