-- Assumes nothing.
use borrow.Author.Rules.{rules}
use borrow.Author.Tests.{eq-eqb, ne_eqb}
use Rattle.console.proofs.TakeLaws.{ahead_byte, takes-newline, takes-end}
use Rattle.console.proofs.lines.take_line.Goals as goal

pub returns-then-byte-eq10 : goal.returns-then-byte-eq10
returns-then-byte-eq10 c =
    let l = c.loop-i.invariant in takes-newline _ _ _ _ _ l.0.read _ _ _ l.1 l.0.room
    c.loop-i-test.true (eq-eqb _ _ c.if-byte-eq10.true)

pub loop-i-preserved : goal.loop-i-preserved
loop-i-preserved c =
    let l = c.loop-i.invariant in (
      l.0,
      ahead_byte _ _ _ _ _ l.0.read _ _ _ l.1 c.loop-i-test.true (ne_eqb _ _ c.if-byte-eq10.false) _ _ (search rules) c.hold-so_far.ensures,
    )

pub returns : goal.returns
returns c = let l = c.loop-i.invariant in takes-end _ _ _ _ _ l.0.read _ _ _ l.1 l.0.room (search rules)
