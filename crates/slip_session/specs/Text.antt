-- What the slip program prints for an answer (document 01, "Marked cases": list: how many, then numbers; opens or barred: the grant's
-- number; refused: the fault; count: live, free). Each is one line, with its newline.
--   ok_text, refused_text n, list_text n lent, opens_text n, barred_text n, none_text, count_text live free
--                           the lines, by document 01's numbers; bad_text for a line that is no slip
--   refusal_text f           what is printed for a refusal
--   outcome_text o           for what grant and revoke answer
--   listed_text a lent       for what list answers, with the list that was lent to it
--   decision_text d          for what decide answers
--   counted_text a           for what count answers
-- Assumes nothing: these are definitions.
use Rattle.std.specs.Prelude.{ℕ, List, [], ◌∷◌, ◌++◌, take, Result, Ok, Err, ⊤}
use Rattle.model.specs.Fault.{fault_number}
use Rattle.model.specs.declared.Fault.{Fault}
use Rattle.model.specs.declared.Cells.{Cells}
use Rattle.model.specs.declared.Decision.{Decision}
use Rattle.model.specs.declared.Decision.TheVariants as decision
use Rattle.text.specs.Ascii.{ascii, blank, line}
use Rattle.text.specs.Numeral.{numeral}

-- each number after a blank
unfoldable pub each_after_blank : List ℕ → List ℕ
each_after_blank [] = []
each_after_blank (n ∷ ns) = blank ∷ numeral n ++ each_after_blank ns

abbrev pub ok_text : List ℕ
ok_text = line (ascii "ok")

abbrev pub refused_text : ℕ → List ℕ
refused_text fault = line (ascii "refused " ++ numeral fault)

-- the numbers from the start of the list, as many as were written
abbrev pub list_text : ℕ → List ℕ → List ℕ
list_text n lent = line (ascii "list " ++ numeral n ++ each_after_blank (take n lent))

abbrev pub opens_text : ℕ → List ℕ
opens_text number = line (ascii "opens " ++ numeral number)

abbrev pub barred_text : ℕ → List ℕ
barred_text number = line (ascii "barred " ++ numeral number)

abbrev pub none_text : List ℕ
none_text = line (ascii "none")

abbrev pub count_text : ℕ → ℕ → List ℕ
count_text live free = line (ascii "count " ++ numeral live ++ blank ∷ numeral free)

abbrev pub bad_text : List ℕ
bad_text = line (ascii "bad")

abbrev pub refusal_text : Fault → List ℕ
refusal_text f = refused_text (fault_number f)

abbrev pub outcome_text : Result ⊤ Fault → List ℕ
outcome_text (Ok done) = ok_text
outcome_text (Err f) = refusal_text f

abbrev pub listed_text : Result ℕ Fault → List ℕ → List ℕ
listed_text (Ok n) lent = list_text n lent
listed_text (Err f) lent = refusal_text f

abbrev pub decision_text : Result Decision Fault → List ℕ
decision_text (Ok (decision.Opens g)) = opens_text g.number
decision_text (Ok (decision.Barred g)) = barred_text g.number
decision_text (Ok decision.None) = none_text
decision_text (Err f) = refusal_text f

abbrev pub counted_text : Result Cells Fault → List ℕ
counted_text (Ok c) = count_text c.live c.free
counted_text (Err f) = refusal_text f
