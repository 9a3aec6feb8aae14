-- `agreeing::count_agreeing` meets its contract: what was counted, and what agrees of the entries that are still to go, make up all that
-- agree. Assumes nothing.
use Prim.Native.Nat.{◌+◌, ◌-◌, ◌≤◌}
use mathlib.Core.Path.{◌≡◌}
use lib.ListN.{length}
use Rattle.multisets.specs.Agreement.{agree}
use Rattle.openings.specs.Entry.{entries_of}
use Rattle.openings.proofs.SortedLaws.{to_go}
use Rattle.openings.proofs.agreeing.count_agreeing.Given as goal

abbrev pub invariant-loop-i : goal.invariant-loop-i
invariant-loop-i l =
    (l.i ≤ length l.door_places) × (l.j ≤ length l.panel_places) × (l.agreeing + to_go l.door l.i l.panel l.j ≡ agree (entries_of l.door) (entries_of l.panel))

abbrev pub decreases-loop-i : goal.decreases-loop-i
decreases-loop-i l = (length l.door_places - l.i) + (length l.panel_places - l.j)
