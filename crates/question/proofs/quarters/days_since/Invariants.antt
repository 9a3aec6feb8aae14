-- `quarters::days_since` meets its contract. The invariant: the date is so many days after the base day, and those passed are not the day.
-- Assumes nothing.
use Prim.Native.Nat.{◌-◌}
use mathlib.Core.Path.{◌≡◌}
use Rattle.calendar.specs.Calendar.{date_after}
use Rattle.question.specs.Quarter.{days_from, days_since, days_limit}
use Rattle.question.proofs.quarters.days_since.Given as goal

abbrev pub invariant-loop-n : goal.invariant-loop-n
invariant-loop-n l =
    (l.date ≡ date_after l.fn.base l.n) × (days_from (days_limit - l.n) l.n l.fn.base l.fn.day ≡ days_since l.fn.base l.fn.day)
