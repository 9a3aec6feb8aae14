-- The bytes read are no more than were lent. Of what they are no contract can speak: they come from outside.
--   ReadWithin room r
-- Assumes nothing: this is a definition.
use Rattle.std.specs.Prelude.{ℕ, ◌≤◌, Result, Ok, Err}
use Rattle.console.specs.declared.errors.Failure.{Failure}

abbrev pub ReadWithin : ℕ → Result ℕ Failure → Type 0
ReadWithin room (Ok n) = n ≤ room
ReadWithin room (Err failure) = Unit {0}
