-- Assumes nothing.
use borrow.Author.Rules.{rules}
use Rattle.console.proofs.PullLaws.{safe-taken, takes_go_on}
use Rattle.console.proofs.lines.read_on.Goals as goal

pub returns-then-taken : goal.returns-then-taken
returns-then-taken g c =
    let l = c.loop.invariant in
    let t = c.take_line-taken.ensures in (
      safe-taken _ _ _ _ _ _ _ (search rules) (search rules) t c.if-taken.true,
      takes_go_on _ _ _ _ _ _ _ _ _ l.3 (search rules) l.4 t,
    )

pub loop-preserved : goal.loop-preserved
loop-preserved g c =
    let l = c.loop.invariant in
    let more = takes_go_on _ _ _ _ _ _ _ _ _ l.3 (search rules) l.4 c.take_line-taken.ensures in
    (search rules, search rules, search rules, more.0, more.1)
