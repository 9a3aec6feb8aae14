-- `cell::store_cell` meets its contract: its words take the place of the cell's. Assumes nothing.
use native.Mathlib.Omega.{arith}
use Rattle.pool.specs.Layout.{place}
use Rattle.pool.proofs.StoreLaws.{cell_stored}
use Rattle.pool.proofs.cell.store_cell.Goals as goal

pub slice_bounds-copy_from_slice-end : goal.slice_bounds-copy_from_slice-end
unfolding place
slice_bounds-copy_from_slice-end c = omega (arith, c.place_of-at.ensures.0, c.requires.0.some, c.requires.0.long)

pub returns : goal.returns
unfolding place
returns c =
    let at = c.place_of-at.ensures.0 in
    rw c.copy_from_slice.ensures.after
    (cell_stored c.args.pool.now c.args.words c.args.cell _ _ at c.requires.1 (omega arith) (omega (arith, at, c.requires.0.some, c.requires.0.long)))
