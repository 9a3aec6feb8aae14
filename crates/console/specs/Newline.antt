-- Where a line ends (document 01, "Marked cases": a slip a line).
--   is_newline b          the byte that ends a line
--   before_newline bs     the bytes before the first newline, all where there is none
-- Assumes nothing: these are definitions.
use Rattle.std.specs.Prelude.{ℕ, Bool, cond, List, [], ◌∷◌, eqb}
use Prim.Native.Char.{code}

abbrev pub is_newline : ℕ → Bool
is_newline b = eqb b (code "\n")

unfoldable pub before_newline : List ℕ → List ℕ
before_newline [] = []
before_newline (b ∷ bs) = cond (is_newline b) [] (b ∷ before_newline bs)
