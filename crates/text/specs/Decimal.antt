-- The value of a decimal field (document 01, "Marked cases": fields are decimal; a value too wide for its field makes the line bad).
--   is_digit b           the byte is one of 0 to 9
--   is_number bs         one or more digits, and nothing else
--   value_after v bs     the number that goes on from v with the digits bs
--   decimal values bs   the field's value, if it is a number below `values`
-- Document 01 leaves leading zeros open: any number of them is allowed, so 007 is 7. Assumes nothing: these are definitions.
use Rattle.std.specs.Prelude.{ℕ, ◌+◌, ◌-◌, ◌*◌, Bool, false, cond, ◌&&◌, List, [], ◌∷◌, leb, ltb, Option, None, Some}
use Prim.Native.Char.{code}
use Rattle.lists.specs.Tests.{every}

-- the byte of the digit 0
abbrev pub zero_digit : ℕ
zero_digit = code "0"

abbrev pub nine_digit : ℕ
nine_digit = code "9"

abbrev pub is_digit : ℕ → Bool
is_digit b = leb zero_digit b && leb b nine_digit

unfoldable pub is_number : List ℕ → Bool
is_number [] = false
is_number (b ∷ bs) = every is_digit (b ∷ bs)

unfoldable pub value_after : ℕ → List ℕ → ℕ
value_after v [] = v
value_after v (b ∷ bs) = value_after (v * 10 + (b - zero_digit)) bs

unfoldable pub decimal : ℕ → List ℕ → Option ℕ
decimal values bs = cond (is_number bs && ltb (value_after 0 bs) values) (Some (value_after 0 bs)) None
