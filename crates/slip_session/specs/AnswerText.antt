-- The line that is printed for an answer in document 01's numbers (document 01, "Marked cases": list: how many, then numbers; opens or
-- barred: the grant's number; refused: the fault; count: live, free).
--   decided_text how number           of what decide answers
--   accepted_text call values lent    of an accepted call, by its values (model/specs/Answer) and the lent list after it
--   answer_text call answer lent      of any answer; of a refusal only the fault's number is printed
-- The words are those of Text, the numerals those of text/specs/Numeral. Assumes nothing: these are definitions.
use Rattle.std.specs.Prelude.{ℕ, cond, List, eqb, get_or}
use Rattle.model.specs.Call.{Call, grant, revoke, list, decide, count}
use Rattle.model.specs.Answer.{Answer, accepted, refused}
use Rattle.slip_session.specs.Text.{ok_text, refused_text, list_text, opens_text, barred_text, none_text, count_text}

-- 0 none, 1 opens, 2 barred; then the grant's number
abbrev pub decided_text : ℕ → ℕ → List ℕ
decided_text how number = cond (eqb how 0) none_text (cond (eqb how 1) (opens_text number) (barred_text number))

abbrev pub accepted_text : Call → List ℕ → List ℕ → List ℕ
accepted_text (grant r) values lent = ok_text
accepted_text (revoke n) values lent = ok_text
accepted_text (list q choice before) values lent = list_text (get_or values 0 0) lent
accepted_text (decide staff door quarter) values lent = decided_text (get_or values 0 0) (get_or values 1 0)
accepted_text count values lent = count_text (get_or values 0 0) (get_or values 1 0)

abbrev pub answer_text : Call → Answer → List ℕ → List ℕ
answer_text call (accepted values) lent = accepted_text call values lent
answer_text call (refused fault values) lent = refused_text fault
