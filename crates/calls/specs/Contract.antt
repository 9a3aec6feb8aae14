-- How an entry point's contract says that the code did what the definition of its call gives: one equation for the answer, one for each
-- lent memory. Memory lent with no right to change it stays by itself.
--   Leaves answer pool r    a call that may change the pool
--   Lends answer lent r     a call that is lent a list or bytes
-- Assumes nothing: these are definitions.
use Rattle.std.specs.Prelude.{ℕ, ◌≡◌, List}
use Rattle.model.specs.Answer.{Answer}
use Rattle.model.specs.Refusal.{Step}

pub record Leaves (answer : Answer) (pool : List ℕ) (r : Step (List ℕ)) : Type 0 where
  pub answered : answer ≡ r.answer
  pub left : pool ≡ r.state

pub record Lends (answer : Answer) (lent : List ℕ) (r : Step (List ℕ)) : Type 0 where
  pub answered : answer ≡ r.answer
  pub left : lent ≡ r.lent
