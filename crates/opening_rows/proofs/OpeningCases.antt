-- Openings as lines, computed: the example of docs/MANUAL.md, "Openings".
--   opening_cases    the fifth entry, with the base day and without; the last entry of the longest record, with the highest values
-- Assumes nothing.
use Prim.Native.Nat.{ℕ}
use Prim.Native.String.{String}
use mathlib.Core.Path.{◌≡◌, refl}
use mathlib.Core.List.{List}
use Rattle.std.proofs.Common.{Option, Some, None}
use Rattle.text.specs.Ascii.{ascii, line}
use Rattle.text.specs.Numeral.{numeral, digits_by}
use Rattle.calendar.specs.Calendar.{leap_year, month_days, next_day, date_after}
use Rattle.calendar.specs.declared.Date.{Date}
use Rattle.calendar.specs.Note.{shown_base}
use Rattle.openings.specs.declared.Opening.{Opening}
use Rattle.opening_rows.specs.OpeningRow.{opening_row}

abbrev base : Option Date
base = Some (record { year = 2026; month = 1; day = 1 })

abbrev opening : ℕ → ℕ → ℕ → Opening
opening d q s = record { door = d; quarter = q; staff = s }

abbrev text : String → List ℕ
text t = line (ascii t)

pub opening_cases : (opening_row base 5 (opening 12 88 300) ≡ text "  entry 5: door 12, quarter 88 (2026-01-01 22:00), staff 300")
    × (opening_row None 5 (opening 12 88 300) ≡ text "  entry 5: door 12, quarter 88, staff 300")
    × (opening_row None 4096 (opening 65535 65535 4294967295) ≡ text "  entry 4096: door 65535, quarter 65535, staff 4294967295")
unfolding shown_base numeral digits_by date_after next_day month_days leap_year
opening_cases = (refl, refl, refl)
