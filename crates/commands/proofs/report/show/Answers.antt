-- `report::show` is safe: a file in which nothing is wrong is accepted. Assumes nothing.
use Rattle.file_contents.proofs.ContentsSteps.{taken}
use Rattle.commands.proofs.report.show.Goals as goal

pub say_table-requires : goal.say_table-requires
say_table-requires c = taken _ c.validate.ensures c.in-Ok.is
