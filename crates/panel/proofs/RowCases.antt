-- Rows computed: grant 7, for staff 100 to 199 at door 12, until quarter 64 of a day.
--   row_cases         its row in the table of grants, and where it touches a door
--   moment_cases      its times, and one of its quarters; no base day, and one whose year is too long
-- Assumes nothing.
use Prim.Native.Nat.{ℕ}
use Prim.Native.String.{String}
use mathlib.Core.Path.{◌≡◌, refl}
use mathlib.Core.List.{List, []}
use Rattle.std.proofs.Common.{Option, None, Some}
use Rattle.model.specs.declared.Kind.TheVariants.{Opens}
use Rattle.model.specs.declared.Grant.{Grant}
use Rattle.text.specs.Ascii.{ascii}
use Rattle.text.specs.Numeral.{numeral, digits_by}
use Rattle.precedence.specs.declared.Precedence.TheVariants as precedence
use Rattle.calendar.specs.Calendar.{leap_year, month_days, next_day, date_after}
use Rattle.calendar.specs.declared.Date.{Date}
use Rattle.calendar.specs.Note.{shown_base, moment_note}
use Rattle.text.specs.Columns.{aligned, columns}
use Rattle.panel.specs.Rows.{grant_row, touching_row, times_row}

abbrev on : ℕ → Option Date
on y = Some (record { year = y; month = 3; day = 1 })

-- until a quarter
abbrev seven : ℕ → Grant
seven until =
    record {
      number = 7;
      rank = 10;
      kind = Opens;
      bounds =
          record {
            staff_from = 100;
            staff_to = 199;
            door_from = 12;
            door_to = 12;
            quarter_from = 32;
            quarter_to = until;
          };
    }

abbrev Reads : List ℕ → String → Type 0
Reads t s = t ≡ ascii s

pub row_cases : Reads (grant_row (seven 64)) "       7      10     100     199      12      12      32      64  opens\n"
    × Reads (touching_row (seven 64) precedence.Whole (on 2027)) "       7      10     100     199      64  2027-03-01 16:00  opens\n"
    × Reads (touching_row (seven 65535) precedence.Partial (on 2027)) "       7      10     100     199   65535  2029-01-11 15:45  opens, in part\n"
    × Reads (touching_row (seven 64) precedence.None None) "       7      10     100     199      64  -                 opens, OVERRIDDEN\n"
unfolding shown_base aligned columns numeral digits_by date_after next_day month_days leap_year
row_cases = (refl, refl, refl, refl)

pub moment_cases : Reads (times_row (seven 96) (on 2027)) "from 2027-03-01 08:00 until 2027-03-02 00:00\n"
    × Reads (moment_note (on 2027) 63) " (2027-03-01 15:45)"
    × (times_row (seven 96) None ≡ [])
    × (moment_note (on 10000) 63 ≡ [])
unfolding shown_base date_after next_day month_days leap_year
moment_cases = (refl, refl, refl, refl)
