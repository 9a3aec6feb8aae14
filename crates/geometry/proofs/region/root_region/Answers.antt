-- `region::root_region` meets its contract by computation. Assumes nothing.
use mathlib.Core.Path.{refl}
use Rattle.lists.specs.Ranges.{count_from}
use Rattle.geometry.specs.Region.{root_region}
use Rattle.geometry.proofs.region.root_region.Goals as goal

pub returns : goal.returns
unfolding root_region count_from
returns c = refl
