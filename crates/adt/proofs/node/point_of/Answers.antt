-- `node::point_of` meets its contract by computation. Assumes nothing.
use Rattle.geometry.specs.Point.{point_of}
use mathlib.Core.Path.{refl}
use Rattle.adt.proofs.node.point_of.Goals as goal

pub returns : goal.returns
unfolding point_of
returns c = refl
