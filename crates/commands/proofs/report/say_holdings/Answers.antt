-- `report::say_holdings` is safe: an accepted file has a block. Assumes nothing.
use Rattle.grants_file.proofs.GrantSteps.{accepted-whole}
use Rattle.commands.proofs.report.say_holdings.Goals as goal

pub doors_in-doors-requires : goal.doors_in-doors-requires
doors_in-doors-requires c = (accepted-whole _ c.requires).some

pub total_in-requires : goal.total_in-requires
total_in-requires c = (accepted-whole _ c.requires).some
