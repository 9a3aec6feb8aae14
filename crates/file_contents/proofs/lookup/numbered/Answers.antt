-- `lookup::numbered` is safe: a file in which nothing is wrong is accepted. Assumes nothing.
use mathlib.Core.Path.{sym, ◌∙◌}
use Rattle.file_contents.proofs.ContentsSteps.{ok_some, taken}
use Rattle.file_contents.proofs.lookup.numbered.Goals as goal

pub find_number-requires : goal.find_number-requires
find_number-requires c = taken _ c.validate.ensures (ok_some (sym c.ok.ensures.value ∙ c.in_ok-ok.was))
