-- `report::say_contents` is safe: a file in which nothing is wrong is accepted. Assumes nothing.
use Rattle.file_contents.proofs.ContentsSteps.{taken}
use Rattle.commands.proofs.report.say_contents.Goals as goal

pub say_holdings-requires : goal.say_holdings-requires
say_holdings-requires c = taken _ c.validate.ensures c.in-Ok.is
