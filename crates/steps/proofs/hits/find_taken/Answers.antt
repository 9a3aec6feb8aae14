-- `hits::find_taken` meets its contract: the search for the box's range. Assumes nothing.
use Rattle.geometry.proofs.SearchRangeLaws.{box_one_sided}
use Rattle.steps.proofs.hits.find_taken.Goals as goal

pub find_hits-requires : goal.find_hits-requires
find_hits-requires c =
    let p = c.requires in
    record { sized = p.sized; one_sided = rw c.range_of_box-range.ensures (box_one_sided _); room = p.room }

pub returns : goal.returns
returns c = rw (← c.range_of_box-range.ensures) c.find_hits.ensures
