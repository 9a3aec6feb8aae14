-- What replaying does, over any state and any calls on it.
--   LineResult                       what a line comes to: its call was made, with this answer; or it was a question, or no slip
--   replay_result r                 the same of an answer of `replay_line`, in document 01's numbers
--   JournalStep                the state after a line, and what it comes to
--   journal_step step s line    of one line's bytes
--   line_results step s lines        what each line of a journal comes to, each from the state that the one before left
--   replayed step s lines      the state after the journal
-- With index's words_step these are the code, with the model's book_step the plain book. Assumes nothing: these are definitions.
use Rattle.std.specs.Prelude.{ℕ, List, [], ◌∷◌, Result, Ok, Err, ⊤}
use Rattle.model.specs.Answer.{Answer, outcome_answer}
use Rattle.model.specs.Call.{Call}
use Rattle.model.specs.Refusal.{Step}
use Rattle.model.specs.declared.Fault.{Fault}
use Rattle.slip_session.specs.declared.journal.NotReplayed.{NotReplayed}
use Rattle.slip_session.specs.declared.journal.NotReplayed.TheVariants.{Question, NotASlip}
use Rattle.slip_session.specs.Meaning.{Meaning, makes, asks, nothing, line_meaning}

pub data LineResult : Type 0 where
  made : Answer → LineResult
  question : LineResult
  no_slip : LineResult

abbrev pub replay_result : Result (Result ⊤ Fault) NotReplayed → LineResult
replay_result (Ok answer) = made (outcome_answer answer)
replay_result (Err Question) = question
replay_result (Err NotASlip) = no_slip

pub record JournalStep (S : Type 0) : Type 0 where
  pub state : S
  pub result : LineResult

module _ {S : Type 0} (step : S → Call → Step S) where
  -- only a call changes the state
  abbrev pub meaning_step : S → Meaning → JournalStep S
  meaning_step s (makes call) = record { state = (step s call).state; result = made (step s call).answer }
  meaning_step s asks = record { state = s; result = question }
  meaning_step s nothing = record { state = s; result = no_slip }

  unfoldable pub journal_step : S → List ℕ → JournalStep S
  journal_step s line = meaning_step s (line_meaning line)

  unfoldable pub line_results : S → List (List ℕ) → List LineResult
  line_results s [] = []
  line_results s (line ∷ lines) = (journal_step s line).result ∷ line_results (journal_step s line).state lines

  unfoldable pub replayed : S → List (List ℕ) → S
  replayed s [] = s
  replayed s (line ∷ lines) = replayed (journal_step s line).state lines
