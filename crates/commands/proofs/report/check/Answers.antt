-- `report::check` is safe: a file in which nothing is wrong is accepted. Assumes nothing.
use Rattle.file_contents.proofs.ContentsSteps.{taken}
use Rattle.commands.proofs.report.check.Goals as goal

pub say_sound-requires : goal.say_sound-requires
say_sound-requires c = taken _ c.validate.ensures c.in-Ok.is
