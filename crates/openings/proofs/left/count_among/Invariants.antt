-- `left::count_among` meets its contract: the loop has counted the first i. Assumes nothing.
use Prim.Native.Nat.{◌≤◌}
use mathlib.Core.Path.{◌≡◌}
use lib.ListN.{take}
use Rattle.multisets.specs.Multiplicity.{count}
use Rattle.openings.specs.Entry.{entries_of}
use Rattle.openings.proofs.left.count_among.Given as goal

abbrev pub invariant-loop-i : goal.invariant-loop-i
invariant-loop-i l = (l.found ≤ l.i) × (l.found ≡ count l.entry (take l.i (entries_of l.bytes)))
