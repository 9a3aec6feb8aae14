-- Document 01's slips, line by line, with lines of another form, and the answers that document 01 prints for them.
--   marked_lines     the call of each of its input lines
--   bad_lines_lem        two blanks, a blank at either end, a tab, a carriage return, lower case, a sign, a field too many or too few, a value too
--                    wide by one, in a word and in a byte, or by any number of digits, no line at all
--   taken_lines      leading zeros; the highest values; a kind that grant refuses
--   marked-answers   each of its output lines
-- Assumes nothing.
use Prim.Native.Nat.{ℕ}
use Prim.Native.String.{String}
use mathlib.Core.Path.{◌≡◌, refl}
use mathlib.Core.Bool.{Bool, true, false}
use mathlib.Core.List.{List, [], ◌∷◌}
use Rattle.std.proofs.Common.{Option, None, Some, Ok, Err}
use Rattle.lists.specs.Tests.{every}
use Rattle.model.specs.declared.Box.{Box}
use Rattle.model.specs.declared.Grant.{Grant}
use Rattle.model.specs.declared.Kind.{Kind}
use Rattle.model.specs.declared.Kind.TheVariants.{Bars, Opens}
use Rattle.model.specs.declared.Fault.TheVariants.{AlreadyLive}
use Rattle.model.specs.declared.Decision.TheVariants as decision
use Rattle.slip_session.specs.declared.Slip.{Slip}
use Rattle.slip_session.specs.declared.Slip.TheVariants as slip
use Rattle.text.specs.Ascii.{ascii}
use Rattle.text.specs.Decimal.{is_number, value_after, decimal}
use Rattle.text.specs.Fields.{fields}
use Rattle.text.specs.Numeral.{numeral, digits_by}
use Rattle.slip_session.specs.Slip.{letter_slip, fields_slip, parse_line, box_at}
use Rattle.text.specs.Numbers.{numbers}
use Rattle.slip_session.specs.Text.{each_after_blank, outcome_text, listed_text, decision_text, counted_text, bad_text}

abbrev Means : String → Slip → Type 0
Means t s = parse_line (ascii t) ≡ Some s

abbrev box_of : ℕ → ℕ → ℕ → ℕ → ℕ → ℕ → Box
box_of a b c d e f = box_at 0 (a ∷ b ∷ c ∷ d ∷ e ∷ f ∷ [])

pub marked_lines : Means "G 7 10 1 100 199 1 40 32 63" (slip.Grant 7 10 1 (box_of 100 199 1 40 32 63))
    × Means "G 3 20 0 150 150 12 12 0 65535" (slip.Grant 3 20 0 (box_of 150 150 12 12 0 65535))
    × Means "G 7 1 1 0 0 0 0 0 0" (slip.Grant 7 1 1 (box_of 0 0 0 0 0 0))
    × Means "L 150 150 1 20 40 40" (slip.List (box_of 150 150 1 20 40 40))
    × Means "D 150 12 40" (slip.Decide 150 12 40)
    × Means "D 200 12 40" (slip.Decide 200 12 40)
    × Means "R 3" (slip.Revoke 3)
    × Means "C" slip.Count
unfolding parse_line fields_slip letter_slip numbers fields decimal is_number value_after every
marked_lines = (refl, refl, refl, refl, refl, refl, refl, refl)

pub taken_lines : Means "R 0003" (slip.Revoke 3)
    × Means "R 0000000000000000000000000" (slip.Revoke 0)
    × Means "R 65535" (slip.Revoke 65535)
    × Means "G 1 255 255 0 0 0 0 0 0" (slip.Grant 1 255 255 (box_of 0 0 0 0 0 0))
unfolding parse_line fields_slip letter_slip numbers fields decimal is_number value_after every
taken_lines = (refl, refl, refl, refl)

abbrev is_bad : Option Slip → Bool
is_bad (Some slip) = false
is_bad None = true

abbrev bad_lines : List String
bad_lines =
    "" ∷ " " ∷ "C " ∷ " C" ∷ "c" ∷ "CC" ∷ "C\r" ∷ "X" ∷ "C 1" ∷ "3 R" ∷ "r 3" ∷ "RR 3" ∷ "R3" ∷ "R" ∷ "R "
    ∷ "R  3" ∷ "R\t3" ∷ "R 3 " ∷ "R 3 4" ∷ "R 3\r" ∷ "R +3" ∷ "R -3" ∷ "R 3a" ∷ "R 65536" ∷ "R 18446744073709551619"
    ∷ "R 99999999999999999999999999999999999999999999999999" ∷ "G 1 256 0 0 0 0 0 0 0" ∷ "G 1 0 256 0 0 0 0 0 0"
    ∷ "G 1 0 0 0 0 0 0 0" ∷ "G 1 0 0 0 0 0 0 0 0 0" ∷ "L 0 0 0 0 0" ∷ "L 0 0 0 0 0 65536" ∷ "D 1 2" ∷ "D 1 2 3 4" ∷ []

pub bad_lines_lem : every (λ t. is_bad (parse_line (ascii t))) bad_lines ≡ true
unfolding parse_line fields_slip letter_slip numbers fields decimal is_number value_after every
bad_lines_lem = refl

abbrev grant_by : ℕ → Kind → Grant
grant_by n k = record { number = n; rank = 0; kind = k; bounds = box_of 0 0 0 0 0 0 }

pub marked-answers : (outcome_text (Ok tt) ≡ ascii "ok\n")
    × (outcome_text (Err AlreadyLive) ≡ ascii "refused 5\n")
    × (listed_text (Ok 2) (3 ∷ 7 ∷ 0 ∷ []) ≡ ascii "list 2 3 7\n")
    × (listed_text (Ok 0) [] ≡ ascii "list 0\n")
    × (decision_text (Ok (decision.Barred (grant_by 3 Bars))) ≡ ascii "barred 3\n")
    × (decision_text (Ok decision.None) ≡ ascii "none\n")
    × (decision_text (Ok (decision.Opens (grant_by 7 Opens))) ≡ ascii "opens 7\n")
    × (counted_text (Ok (record { live = 1; free = 2047 })) ≡ ascii "count 1 2047\n")
    × (bad_text ≡ ascii "bad\n")
unfolding numeral digits_by each_after_blank
marked-answers = (refl, refl, refl, refl, refl, refl, refl, refl, refl)
