-- The meaning of a line (document 01, "Marked cases": the slip program).
--   grant_slip .. count_slip    the call of a letter's values
--   letter_slip b fs       the call of the letter b with the fields fs after it
--   parse_line bs          the call of a line, without its newline; None for a line of any other form, an empty one too
-- Assumes nothing: these are definitions.
use Rattle.std.specs.Prelude.{ℕ, ◌+◌, cond, List, [], ◌∷◌, eqb, get_or, Option, None, Some}
use Prim.Native.Char.{code}
use Rattle.model.specs.declared.Box.{Box}
use Rattle.slip_session.specs.declared.Slip.{Slip}
use Rattle.slip_session.specs.declared.Slip.TheVariants as slip
use Rattle.text.specs.declared.Width.{Width}
use Rattle.text.specs.declared.Width.TheVariants.{Byte, Word}
use Rattle.text.specs.Numbers.{numbers}
use Rattle.text.specs.Fields.{fields}

-- staff, doors and quarters, each from and to
abbrev pub box_widths : List Width
box_widths = Word ∷ Word ∷ Word ∷ Word ∷ Word ∷ Word ∷ []

-- number, rank, kind, then the box
abbrev pub grant_widths : List Width
grant_widths = Word ∷ Byte ∷ Byte ∷ box_widths

abbrev pub revoke_widths : List Width
revoke_widths = Word ∷ []

-- staff, door, quarter
abbrev pub decide_widths : List Width
decide_widths = Word ∷ Word ∷ Word ∷ []

-- the box of the six values from the place k on
abbrev pub box_at : ℕ → List ℕ → Box
box_at k vs =
    record {
      staff_from = get_or vs k 0;
      staff_to = get_or vs (k + 1) 0;
      door_from = get_or vs (k + 2) 0;
      door_to = get_or vs (k + 3) 0;
      quarter_from = get_or vs (k + 4) 0;
      quarter_to = get_or vs (k + 5) 0;
    }

abbrev pub grant_slip : List ℕ → Slip
grant_slip vs = slip.Grant (get_or vs 0 0) (get_or vs 1 0) (get_or vs 2 0) (box_at 3 vs)

abbrev pub revoke_slip : List ℕ → Slip
revoke_slip vs = slip.Revoke (get_or vs 0 0)

abbrev pub list_slip : List ℕ → Slip
list_slip vs = slip.List (box_at 0 vs)

abbrev pub decide_slip : List ℕ → Slip
decide_slip vs = slip.Decide (get_or vs 0 0) (get_or vs 1 0) (get_or vs 2 0)

abbrev pub count_slip : List ℕ → Slip
count_slip vs = slip.Count

-- the call that the values make, None where there are none
abbrev pub slip_by : (List ℕ → Slip) → Option (List ℕ) → Option Slip
slip_by call None = None
slip_by call (Some vs) = Some (call vs)

unfoldable pub letter_slip : ℕ → List (List ℕ) → Option Slip
letter_slip b fs =
    cond (eqb b (code "G")) (slip_by grant_slip (numbers grant_widths fs))
    (cond (eqb b (code "R")) (slip_by revoke_slip (numbers revoke_widths fs))
    (cond (eqb b (code "L")) (slip_by list_slip (numbers box_widths fs))
    (cond (eqb b (code "D")) (slip_by decide_slip (numbers decide_widths fs))
    (cond (eqb b (code "C")) (slip_by count_slip (numbers [] fs)) None))))

-- the first field is exactly one letter
unfoldable pub fields_slip : List (List ℕ) → Option Slip
fields_slip [] = None
fields_slip ([] ∷ fs) = None
fields_slip ((b ∷ []) ∷ fs) = letter_slip b fs
fields_slip ((b ∷ (c ∷ bs)) ∷ fs) = None

unfoldable pub parse_line : List ℕ → Option Slip
parse_line bs = fields_slip (fields bs)
