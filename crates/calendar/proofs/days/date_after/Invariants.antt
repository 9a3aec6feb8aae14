-- `days::date_after` meets its contract. The invariant: the date is the one after so many days as are passed. Assumes nothing.
use mathlib.Core.Path.{◌≡◌}
use Rattle.calendar.specs.Calendar.{date_after}
use Rattle.calendar.proofs.days.date_after.Given as goal

abbrev pub invariant-loop : goal.invariant-loop
invariant-loop l = l.date ≡ date_after l.fn.base l.counter
