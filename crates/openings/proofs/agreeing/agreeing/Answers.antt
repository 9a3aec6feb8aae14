-- `agreeing::agreeing` meets its contract. Assumes nothing.
use mathlib.Core.Path.{◌∙◌}
use native.Mathlib.Omega.{arith}
use Rattle.lists.proofs.ListLaws.{length-take-replicate}
use Rattle.openings.proofs.SortedLaws.{sorted_places-room}
use Rattle.openings.proofs.agreeing.agreeing.Goals as goal

pub count_agreeing-requires : goal.count_agreeing-requires
count_agreeing-requires c = (
  sorted_places-room _ _ _ (length-take-replicate 4096 _ 0 (omega arith) ∙ c.entries_in.ensures) c.sort_places.ensures,
  sorted_places-room _ _ _ (length-take-replicate 4096 _ 0 (omega arith) ∙ c.entries_in-2.ensures) c.sort_places-2.ensures,
)
