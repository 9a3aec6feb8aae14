-- `read_on` ends with its turns. The invariant: what is held is a part of the line. Assumes nothing.
use Prim.Native.Nat.{◌≤◌}
use mathlib.Core.Path.{◌≡◌}
use lib.ListN.{length, take}
use Rattle.console.proofs.lines.read_on.Given as goal

abbrev pub invariant-loop : goal.invariant-loop
invariant-loop g l =
    (l.so_far ≤ length l.line) × (length l.line ≡ length l.initial.line) × (length l.input ≡ length l.initial.input) × (l.held ≤ l.so_far)
    × (take l.held l.line ≡ take l.held l.initial.line)
