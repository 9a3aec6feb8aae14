-- Answers to `may`, computed: the night shift of docs/MANUAL.md.
--   may_cases    staff 120 and 150 at door 12, quarter 40, with the base day; none for staff 300; no base day; a refusal's line
-- Assumes nothing.
use Prim.Native.Nat.{ℕ}
use Prim.Native.String.{String}
use mathlib.Core.Path.{◌≡◌, refl}
use mathlib.Core.List.{List, ◌++◌}
use Rattle.std.proofs.Common.{Option, None, Some, Result, Ok, Err}
use Rattle.model.specs.declared.Kind.TheVariants as kind
use Rattle.model.specs.declared.Box.{Box}
use Rattle.model.specs.declared.Grant.{Grant}
use Rattle.model.specs.declared.Fault.TheVariants.{BrokenLinks}
use Rattle.model.specs.declared.Decision.{Decision}
use Rattle.model.specs.declared.Decision.TheVariants as decision
use Rattle.model.specs.declared.Fault.{Fault}
use Rattle.text.specs.Ascii.{ascii, line}
use Rattle.text.specs.Numeral.{numeral, digits_by}
use Rattle.text.specs.Columns.{aligned, columns}
use Rattle.calendar.specs.Calendar.{leap_year, month_days, next_day, date_after}
use Rattle.calendar.specs.declared.Date.{Date}
use Rattle.calendar.specs.Note.{shown_base}
use Rattle.panel.specs.Rows.{grant_heads}
use Rattle.may_answer.specs.MayText.{may_text}

abbrev base : Option Date
base = Some (record { year = 2026; month = 1; day = 1 })

abbrev box : ℕ → ℕ → ℕ → ℕ → ℕ → ℕ → Box
box a b c d e f =
    record { staff_from = a; staff_to = b; door_from = c; door_to = d; quarter_from = e; quarter_to = f }

abbrev seven : Grant
seven = record { number = 7; rank = 10; kind = kind.Opens; bounds = box 100 199 1 40 32 64 }

abbrev three : Grant
three = record { number = 3; rank = 20; kind = kind.Bars; bounds = box 150 150 12 12 0 65535 }

-- door 12 at quarter 40
abbrev asked : ℕ → Option Date → Result Decision Fault → List ℕ
asked staff on decided = may_text staff 12 40 on decided

abbrev text : String → List ℕ
text t = line (ascii t)

pub may_cases : (
    asked 120 base (Ok (decision.Opens seven))
    ≡ text "staff 120, door 12, quarter 40 (2026-01-01 10:00): OPENS, by grant 7"
    ++ grant_heads
    ++ text "       7      10     100     199       1      40      32      64  opens"
    ++ text "from 2026-01-01 08:00 until 2026-01-01 16:00"
    ++ text ""
    )
    × (
    asked 150 base (Ok (decision.Barred three))
    ≡ text "staff 150, door 12, quarter 40 (2026-01-01 10:00): BARRED, by grant 3"
    ++ grant_heads
    ++ text "       3      20     150     150      12      12       0   65535  bars"
    ++ text "from 2026-01-01 00:00 until 2027-11-14 15:45"
    ++ text ""
    )
    × (asked 300 base (Ok decision.None) ≡ text "staff 300, door 12, quarter 40 (2026-01-01 10:00): NO GRANT, do not open" ++ text "")
    × (asked 300 None (Ok decision.None) ≡ text "staff 300, door 12, quarter 40: NO GRANT, do not open" ++ text "")
    × (asked 300 None (Err BrokenLinks) ≡ text "staff 300, door 12, quarter 40")
unfolding shown_base aligned columns numeral digits_by date_after next_day month_days leap_year
may_cases = (refl, refl, refl, refl, refl)
