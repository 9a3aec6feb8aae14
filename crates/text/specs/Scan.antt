-- How the program goes through a line: place by place, a field at a time. The contracts of its steps cite these; no claim does.
--   first_field bs       the bytes before the first blank, or all
--   field_at w bs at     the field that starts at a place: its number, if it has one of that width, and the place after the byte that ends it
--   fields_from bs at    the fields from a place on; none at the place after the line's end
-- Assumes nothing: these are definitions.
use Rattle.std.specs.Prelude.{ℕ, ◌+◌, cond, List, [], leb, length, get_or, drop, Option, None, Some}
use Rattle.text.specs.declared.Width.{Width}
use Rattle.text.specs.declared.reading.Field.{Field}
use Rattle.text.specs.Width.{values_of}
use Rattle.text.specs.Decimal.{decimal}
use Rattle.text.specs.Fields.{fields}

abbrev pub first_field : List ℕ → List ℕ
first_field bs = get_or (fields bs) 0 []

abbrev pub field_by : Option ℕ → ℕ → Option Field
field_by None next = None
field_by (Some v) next = Some (record { value = v; next = next })

unfoldable pub field_at : Width → List ℕ → ℕ → Option Field
field_at w bs at = let f = first_field (drop at bs) in field_by (decimal (values_of w) f) (at + length f + 1)

unfoldable pub fields_from : List ℕ → ℕ → List (List ℕ)
fields_from bs at = cond (leb at (length bs)) (fields (drop at bs)) []
