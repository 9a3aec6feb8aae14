-- What lines do, over any state and any calls on it (document 01, "Marked cases": the slip program prints one line per slip; "The plain
-- book": each call gets what the one before left).
--   LineStep                         the state, the lent list and the text after a line
--   lent_after call before given      the lent list after a call
--   answered call lent r             the line's step where its call gave r
--   line_step step s lent line        of one line's bytes, from the state s and the lent list as they are
--   session_text step s lent lines    what a list of lines prints, each line's text after the one before
-- With index's words_step these are the slip program, with the model's book_step the plain book. Assumes nothing: these are definitions.
use Rattle.std.specs.Prelude.{ℕ, List, [], ◌∷◌, ◌++◌, Option, None, Some}
use Rattle.model.specs.Call.{Call, grant, revoke, list, decide, count}
use Rattle.model.specs.Refusal.{Step}
use Rattle.slip_session.specs.Text.{bad_text}
use Rattle.slip_session.specs.Longest.{slip_of}
use Rattle.slip_session.specs.SlipCall.{call_of}
use Rattle.slip_session.specs.AnswerText.{answer_text}

pub record LineStep (S : Type 0) : Type 0 where
  pub state : S
  pub lent : List ℕ
  pub text : List ℕ

-- list leaves the lent list that its step gives, every other call the one that there was
abbrev pub lent_after : Call → List ℕ → List ℕ → List ℕ
lent_after (grant r) before given = before
lent_after (revoke n) before given = before
lent_after (list q choice l) before given = given
lent_after (decide staff door quarter) before given = before
lent_after count before given = before

abbrev pub answered : {S : Type 0} → Call → List ℕ → Step S → LineStep S
answered call lent r =
    let after = lent_after call lent r.lent in
    record { state = r.state; lent = after; text = answer_text call r.answer after }

module _ {S : Type 0} (step : S → Call → Step S) where
  -- a line that is no slip changes nothing
  abbrev pub call_step : S → List ℕ → Option Call → LineStep S
  call_step s lent None = record { state = s; lent = lent; text = bad_text }
  call_step s lent (Some call) = answered call lent (step s call)

  unfoldable pub line_step : S → List ℕ → List ℕ → LineStep S
  line_step s lent line = call_step s lent (call_of (slip_of line) lent)

  unfoldable pub session_text : S → List ℕ → List (List ℕ) → List ℕ
  session_text s lent [] = []
  session_text s lent (line ∷ lines) =
      let r = line_step s lent line in
      r.text ++ session_text r.state r.lent lines
