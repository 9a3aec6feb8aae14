-- Assumes nothing.
use borrow.Author.Rules.{rules}
use Rattle.console.proofs.PullLaws.{pulls_taken}
use Rattle.console.proofs.lines.next_line.Goals as goal

pub returns-then-taken : goal.returns-then-taken
returns-then-taken g c = pulls_taken _ _ c.args.cursor _ _ (search rules) (search rules) c.take_line-taken.ensures c.if-taken.true
