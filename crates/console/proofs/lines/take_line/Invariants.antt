-- `take_line` ends with the bytes that were read. The invariant: the bytes held, with those still to be taken, are the bytes of the line.
-- Assumes nothing.
use Rattle.console.specs.Taken.{Taking}
use Rattle.console.proofs.TakeLaws.{Ahead}
use Rattle.console.proofs.lines.take_line.Given as goal

abbrev pub invariant-loop-i : goal.invariant-loop-i
invariant-loop-i l = Taking l.input l.at l.end l.initial.line l.held × Ahead l.input l.at l.end l.initial.line l.held l.line l.so_far l.i
