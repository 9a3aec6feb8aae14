-- `left::left_from` meets its contract. The invariant: the first entry left from `place` on is the first from `from` on. Assumes nothing.
use Prim.Native.Nat.{◌-◌}
use mathlib.Core.Path.{◌≡◌}
use Rattle.multisets.specs.Agreement.{is_left}
use Rattle.openings.specs.First.{first_passing}
use Rattle.openings.specs.Entry.{entries_in, entries_of}
use Rattle.openings.specs.Left.{next_left}
use Rattle.openings.proofs.left.left_from.Given as goal

abbrev pub invariant-loop-place : goal.invariant-loop-place
invariant-loop-place l =
    first_passing (is_left (entries_of l.bytes) (entries_of l.other)) l.place (entries_in l.bytes - l.place) ≡ next_left l.bytes l.other l.from
