-- Text as bytes: the number of each of its characters.
--   ascii t           the bytes of a text
--   blank, newline    the byte between two fields, and the one that ends a line
--   line t            a line: its text and then the newline
-- Assumes nothing: these are definitions.
use Rattle.std.specs.Prelude.{ℕ, List, [], ◌∷◌, ◌++◌}
use Prim.Native.Char.{code}
use Prim.Native.String as text

abbrev pub ascii : text.String → List ℕ
ascii text.[] = []
ascii (text.◌∷◌ c cs) = code c ∷ ascii cs

abbrev pub blank : ℕ
blank = code " "

abbrev pub newline : ℕ
newline = code "\n"

-- a line, with the newline that ends it
abbrev pub line : List ℕ → List ℕ
line t = t ++ newline ∷ []
