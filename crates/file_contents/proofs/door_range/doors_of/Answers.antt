-- `door_range::doors_of` is safe: a file in which nothing is wrong has a block. Assumes nothing.
use mathlib.Core.Path.{sym, ◌∙◌}
use Rattle.file_contents.proofs.ContentsSteps.{ok_some, taken-front}
use Rattle.file_contents.proofs.door_range.doors_of.Goals as goal

pub doors_in-requires : goal.doors_in-requires
doors_in-requires c = taken-front _ c.validate.ensures (ok_some (sym c.ok.ensures.value ∙ c.in_ok-ok.was))
