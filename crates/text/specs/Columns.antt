-- Numbers right-aligned in the columns of a line.
--   blanks n       so many blanks
--   aligned n      a number at the right end of a column of 8; a number of 16 bits has at most 5 digits
--   columns ns     one after the other
-- Assumes nothing: these are definitions.
use Rattle.std.specs.Prelude.{ℕ, ◌-◌, List, [], ◌∷◌, ◌++◌, length, replicate}
use Rattle.text.specs.Ascii.{blank}
use Rattle.text.specs.Numeral.{numeral}

abbrev pub column_bytes : ℕ
column_bytes = 8

abbrev pub blanks : ℕ → List ℕ
blanks n = replicate n blank

unfoldable pub aligned : ℕ → List ℕ
aligned n = blanks (column_bytes - length (numeral n)) ++ numeral n

unfoldable pub columns : List ℕ → List ℕ
columns [] = []
columns (n ∷ ns) = aligned n ++ columns ns
