-- How many values a field has (document 01: all fields are unsigned 16-bit except rank and kind, 8-bit).
-- Assumes nothing: these are definitions.
use Rattle.std.specs.Prelude.{ℕ}
use Rattle.model.specs.Values.{word_values, byte_values}
use Rattle.text.specs.declared.Width.{Width}
use Rattle.text.specs.declared.Width.TheVariants.{Byte, Word}

abbrev pub values_of : Width → ℕ
values_of Byte = byte_values
values_of Word = word_values
