-- What rounding a day and time to a quarter means, in minutes (specs/Quarter).
--   minutes_since m     how many minutes the day and time that were read come after the base day's start
--   down_holds         rounded down: the quarter that holds them, from its first minute to before the next quarter's
--   up_first           rounded up: the quarter begins at them or later, and is the first that does
--   covers_minutes     quarters from one rounded down to before one rounded up hold every minute from the one day and time to before the other
-- Assumes nothing.
use Prim.Native.Nat.{ℕ, ◌+◌, ◌*◌, ◌/◌, ◌<◌, ◌≤◌}
use mathlib.Core.List.{List}
use native.Mathlib.Omega.{arith}
use Rattle.calendar.specs.declared.Date.{Date}
use Rattle.question.specs.declared.Rounding.{Rounding}
use Rattle.question.specs.declared.Rounding.TheVariants as rounding
use Rattle.question.proofs.MomentLaws.{MomentRead}

abbrev pub minutes_since : {r : Rounding} {base : Date} {q : ℕ} {bs : List ℕ} → MomentRead r base q bs → ℕ
minutes_since m = 1440 * m.days + 60 * m.hour + m.minute

module _ {base : Date} {q : ℕ} {bs : List ℕ} where
  pub down_holds : (m : MomentRead rounding.Down base q bs) → (15 * q ≤ minutes_since m) × (minutes_since m < 15 * (q + 1))
  down_holds m = (omega (arith, m.rounded), omega (arith, m.rounded))

  pub up_first : (m : MomentRead rounding.Up base q bs) → (minutes_since m ≤ 15 * q) × ((p : ℕ) → minutes_since m ≤ 15 * p → q ≤ p)
  up_first m = (omega (arith, m.rounded), λ p h. omega (arith, m.rounded))

pub covers_minutes : {base : Date} {from to : ℕ} {xs ys : List ℕ} (a : MomentRead rounding.Down base from xs) (b : MomentRead rounding.Up base to ys)
    (t : ℕ) → minutes_since a ≤ t → t < minutes_since b → (from ≤ t / 15) × (t / 15 < to)
covers_minutes a b t first last = (omega (arith, (down_holds a).0), omega (arith, (up_first b).0))
