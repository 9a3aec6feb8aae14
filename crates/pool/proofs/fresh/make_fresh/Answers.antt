-- `fresh::make_fresh` meets its contract: the header, then the cells. Assumes nothing.
use Rattle.pool.proofs.FreshSteps.{fresh-whole, header_stored}
use Rattle.pool.proofs.FreshLaws.{length-fresh_pool}
use lib.ListN.{length, length-set}
use native.Mathlib.Omega.{arith}
use mathlib.Core.Path.{sym, ap, ◌∙◌}
use Rattle.pool.proofs.fresh.make_fresh.Goals as goal

pub bounds-pool-1 : goal.bounds-pool-1
bounds-pool-1 c = simp length-set (omega (arith, c.requires.long))

pub bounds-pool-2 : goal.bounds-pool-2
bounds-pool-2 c = simp length-set (omega (arith, c.requires.long))

pub shape_of-pool : goal.shape_of-pool
shape_of-pool c =
    let e = c.free_all.ensures in
    let header = header_stored c.args.pool.now c.args.cells (omega (arith, c.requires.long)) in
    let whole = fresh-whole c.args.cells c.free_all.new.pool (e.1 ∙ header) e.0 in
    ap length whole ∙ length-fresh_pool c.args.cells ∙ sym c.requires.long

pub returns : goal.returns
returns c =
    let e = c.free_all.ensures in
    let header = header_stored c.args.pool.now c.args.cells (omega (arith, c.requires.long)) in
    fresh-whole c.args.cells _ (e.1 ∙ header) e.0
