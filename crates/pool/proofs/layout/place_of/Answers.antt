-- `layout::place_of` meets its contract: the place is that of specs/Layout, and lies within the cells up to this one. Assumes nothing.
use Rattle.pool.specs.Layout.{place}
use native.Mathlib.Omega.{arith}
use Rattle.pool.proofs.layout.place_of.Goals as goal

pub returns : goal.returns
unfolding place
returns c = (rw c.offset_of.ensures.0, omega (arith, c.offset_of.ensures.1))
