-- `defects::order_defect` meets its contract. The invariant: `before` is the quarter before `place`, or 0 at the first place, and the first fall
-- from `place` on is the first of all. Assumes nothing.
use Prim.Native.Nat.{◌-◌, ◌<◌}
use mathlib.Core.Path.{◌≡◌}
use Rattle.openings.specs.First.{first_passing}
use Rattle.openings.specs.Entry.{entry_quarter, entries_in, entry_at}
use Rattle.openings.specs.Record.{falls_at}
use Rattle.openings.specs.Defects.{first_fall}
use Rattle.openings.proofs.defects.order_defect.Given as goal

abbrev pub invariant-loop-place : goal.invariant-loop-place
invariant-loop-place l =
    (l.place ≡ 0 → l.before ≡ 0)
    × (0 < l.place → l.before ≡ entry_quarter (entry_at l.bytes (l.place - 1)))
    × (0 < l.place → first_passing (falls_at l.bytes) l.place (entries_in l.bytes - l.place) ≡ first_fall l.bytes)
