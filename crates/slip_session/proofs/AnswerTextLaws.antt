-- The line printed for a call's result is that of its answer in document 01's numbers (specs/AnswerText).
--   granted_text, revoked_text, listed_text_lem, decided_text_lem, counted_text_lem
-- Assumes nothing.
use Prim.Native.Nat.{ℕ}
use mathlib.Core.Path.{◌≡◌, refl}
use mathlib.Core.List.{List}
use Rattle.std.proofs.Common.{Result, Ok, Err}
use Rattle.std.specs.Bool.{⊤}
use Rattle.model.specs.declared.Box.{Box}
use Rattle.model.specs.declared.Cells.{Cells}
use Rattle.model.specs.declared.Choice.{Choice}
use Rattle.model.specs.declared.Decision.{Decision}
use Rattle.model.specs.declared.Decision.TheVariants as decision
use Rattle.model.specs.declared.Fault.{Fault}
use Rattle.model.specs.Call.{Request, grant, revoke, list, decide, count}
use Rattle.model.specs.Answer.{outcome_answer, listed_answer, decision_answer, counted_answer}
use Rattle.slip_session.specs.Text.{outcome_text, listed_text, decision_text, counted_text}
use Rattle.slip_session.specs.AnswerText.{answer_text}

module _ (lent : List ℕ) where
  pub granted_text : (r : Request) (a : Result ⊤ Fault) → outcome_text a ≡ answer_text (grant r) (outcome_answer a) lent
  granted_text r (Ok done) = refl
  granted_text r (Err f) = refl

  pub revoked_text : (n : ℕ) (a : Result ⊤ Fault) → outcome_text a ≡ answer_text (revoke n) (outcome_answer a) lent
  revoked_text n (Ok done) = refl
  revoked_text n (Err f) = refl

  pub listed_text_lem : (q : Box) (choice : Choice) (before : List ℕ) (a : Result ℕ Fault)
      → listed_text a lent ≡ answer_text (list q choice before) (listed_answer a) lent
  listed_text_lem q choice before (Ok n) = refl
  listed_text_lem q choice before (Err f) = refl

  pub decided_text_lem : (staff door quarter : ℕ) (a : Result Decision Fault)
      → decision_text a ≡ answer_text (decide staff door quarter) (decision_answer a) lent
  decided_text_lem staff door quarter (Ok (decision.Opens g)) = refl
  decided_text_lem staff door quarter (Ok (decision.Barred g)) = refl
  decided_text_lem staff door quarter (Ok decision.None) = refl
  decided_text_lem staff door quarter (Err f) = refl

  pub counted_text_lem : (a : Result Cells Fault) → counted_text a ≡ answer_text count (counted_answer a) lent
  counted_text_lem (Ok c) = refl
  counted_text_lem (Err f) = refl
