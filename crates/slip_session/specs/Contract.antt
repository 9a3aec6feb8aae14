-- How the contract of `answer` says that the code did what the definition of a line gives: one equation for the pool, one for the lent
-- list, one for the bytes printed. Assumes nothing: this is a definition.
--   Prints pool lent text r
use Rattle.std.specs.Prelude.{ℕ, ◌≡◌, List}
use Rattle.slip_session.specs.LineStep.{LineStep}

pub record Prints (pool lent text : List ℕ) (r : LineStep (List ℕ)) : Type 0 where
  pub left : pool ≡ r.state
  pub lends : lent ≡ r.lent
  pub printed : text ≡ r.text
