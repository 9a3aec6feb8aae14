-- Lists of calls, over any state (document 01, "The plain book": each call gets the pool that the one before left).
--   Response            document 01's answer in demand 3: what the call returns, with the lent list after it
--   responses step s cs  the responses to a list of calls, from the state s on
--   after step s cs the state after it
-- Assumes nothing: these are definitions.
use Rattle.std.specs.Prelude.{ℕ, List, [], ◌∷◌}
use Rattle.model.specs.Answer.{Answer}
use Rattle.model.specs.Refusal.{Step}
use Rattle.model.specs.Call.{Call}

pub record Response : Type 0 where
  pub answer : Answer
  pub lent : List ℕ

abbrev pub response_of : {S : Type 0} → Step S → Response
response_of r = record { answer = r.answer; lent = r.lent }

module _ {S : Type 0} (step : S → Call → Step S) where
  unfoldable pub responses : S → List Call → List Response
  responses s [] = []
  responses s (c ∷ cs) = response_of (step s c) ∷ responses (step s c).state cs

  unfoldable pub after : S → List Call → S
  after s [] = s
  after s (c ∷ cs) = after (step s c).state cs
