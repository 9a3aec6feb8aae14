-- A number as it is typed: decimal, 0 to 65535, and nothing beside it.
--   typed_number bs     the number that is the whole text; None for any other text, an empty one too
-- Assumes nothing: these are definitions.
use Rattle.std.specs.Prelude.{ℕ, List, Option}
use Rattle.model.specs.Values.{word_values}
use Rattle.text.specs.Decimal.{decimal}

unfoldable pub typed_number : List ℕ → Option ℕ
typed_number bs = decimal word_values bs
