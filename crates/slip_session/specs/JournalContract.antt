-- How the contract of `replay_line` says that the code did what the definition of a line gives: one equation for what the line comes to, one
-- for the pool. Assumes nothing: this is a definition.
--   Replays result pool r
use Rattle.std.specs.Prelude.{ℕ, ◌≡◌, List}
use Rattle.slip_session.specs.JournalStep.{LineResult, JournalStep}

pub record Replays (result : LineResult) (pool : List ℕ) (r : JournalStep (List ℕ)) : Type 0 where
  pub comes : result ≡ r.result
  pub left : pool ≡ r.state
