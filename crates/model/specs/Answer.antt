-- An answer in document 01's numbers, and that of each call's result.
-- Contracts, the C interface and the claims speak of answers through these; proofs/AnswerLaws shows each one-to-one.
--   accepted values          the call went through; its values
--   refused number values    the fault's number in document 01's table, and the values beside it
--   answer_of values r       the answer of a call's result: the values of what it gives, or the refusal
--   outcome_answer, listed_answer, decision_answer, counted_answer, written_answer, matched_answer   that of each call
-- Assumes nothing: these are definitions.
use Rattle.std.specs.Prelude.{ℕ, List, [], ◌∷◌, Option, None, Some, Result, Ok, Err, ⊤}
use Rattle.model.specs.declared.Fault.{Fault}
use Rattle.model.specs.declared.Cells.{Cells}
use Rattle.model.specs.declared.Decision.{Decision}
use Rattle.model.specs.declared.Decision.TheVariants as decision
use Rattle.model.specs.Fault.{fault_number, fault_values}
use Rattle.model.specs.Grant.{grant_values}

pub data Answer : Type 0 where
  accepted : List ℕ → Answer
  refused : ℕ → List ℕ → Answer

abbrev pub refusal : Fault → Answer
refusal f = refused (fault_number f) (fault_values f)

abbrev pub answer_of : {T : Type 0} → (T → List ℕ) → Result T Fault → Answer
answer_of values (Ok x) = accepted (values x)
answer_of values (Err f) = refusal f

-- start, grant, revoke, load and block read's verdict tell nothing more
abbrev pub outcome_answer : Result ⊤ Fault → Answer
outcome_answer = answer_of (λ done. [])

-- how many numbers were written
abbrev pub listed_answer : Result ℕ Fault → Answer
listed_answer = answer_of (λ n. n ∷ [])

-- 0 none; 1 opens and 2 barred, with the whole grant
abbrev pub decision_values : Decision → List ℕ
decision_values decision.None = 0 ∷ []
decision_values (decision.Opens g) = 1 ∷ grant_values g
decision_values (decision.Barred g) = 2 ∷ grant_values g

abbrev pub decision_answer : Result Decision Fault → Answer
decision_answer = answer_of decision_values

-- live grants, and C less live
abbrev pub counted_answer : Result Cells Fault → Answer
counted_answer = answer_of (λ c. c.live ∷ c.free ∷ [])

-- the file's length
abbrev pub written_answer : Result ℕ Fault → Answer
written_answer = answer_of (λ n. n ∷ [])

-- nothing where equal, else the lowest number that differs
abbrev pub matched_values : Option ℕ → List ℕ
matched_values None = []
matched_values (Some n) = n ∷ []

abbrev pub matched_answer : Result (Option ℕ) Fault → Answer
matched_answer = answer_of matched_values
