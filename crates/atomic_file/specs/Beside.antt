-- The name of a new file beside the one whose place it will take: `.new` and a digit behind that one's.
--   longest_path             the longest path that it is made for
--   beside_name path digit   none where a path is too long for it
-- Assumes nothing: these are definitions.
use Rattle.std.specs.Prelude.{ℕ, cond, List, [], ◌∷◌, ◌++◌, ltb, length}
use Rattle.text.specs.Ascii.{ascii}

abbrev pub longest_path : ℕ
longest_path = 4000

abbrev pub beside_name : List ℕ → ℕ → List ℕ
beside_name path digit = cond (ltb longest_path (length path)) [] (path ++ ascii ".new" ++ digit ∷ [])
