-- `report::say_table` is safe: an accepted file has a block. Assumes nothing.
use Rattle.grants_file.proofs.GrantSteps.{accepted-whole}
use Rattle.commands.proofs.report.say_table.Goals as goal

pub total_in-i-end-requires : goal.total_in-i-end-requires
total_in-i-end-requires c = (accepted-whole _ c.requires).some
