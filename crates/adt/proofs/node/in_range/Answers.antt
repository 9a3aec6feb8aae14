-- `node::in_range` meets its contract, comparison by comparison. Assumes nothing.
use lib.Dec.{lit<}
use native.Mathlib.Omega.{arith}
use mathlib.Core.Path.{refl, sym}
use Rattle.geometry.specs.Point.{point_of}
use Rattle.geometry.proofs.SearchRangeLaws.{hit_axes}
use Rattle.pool.specs.Cell.{grant_at}
use Rattle.adt.specs.Node.{point_at}
use Rattle.adt.proofs.HitTest.{beyond, short}
use Rattle.adt.proofs.node.in_range.Goals as goal

pub returns-then-number-range : goal.returns-then-number-range
unfolding point_of grant_at
returns-then-number-range c = short _ _ 6 (lit< tt) c.field-number.ensures refl c.if-number-range.true

pub returns-then-range-number : goal.returns-then-range-number
unfolding point_of grant_at
returns-then-range-number c = beyond _ _ 6 (lit< tt) c.field-number.ensures c.if-range-number.true

pub returns-then-range-field : goal.returns-then-range-field
unfolding point_of grant_at
returns-then-range-field c = beyond _ _ 0 (lit< tt) c.field.ensures c.if-range-field.true

pub returns-then-field-range : goal.returns-then-field-range
unfolding point_of grant_at
returns-then-field-range c = short _ _ 3 (lit< tt) c.field-2.ensures refl c.if-field-range.true

pub returns-then-range-field-2 : goal.returns-then-range-field-2
unfolding point_of grant_at
returns-then-range-field-2 c = beyond _ _ 1 (lit< tt) c.field-3.ensures c.if-range-field-2.true

pub returns-then-field-range-2 : goal.returns-then-field-range-2
unfolding point_of grant_at
returns-then-field-range-2 c = short _ _ 4 (lit< tt) c.field-4.ensures refl c.if-field-range-2.true

pub returns-then-range-field-3 : goal.returns-then-range-field-3
unfolding point_of grant_at
returns-then-range-field-3 c = beyond _ _ 2 (lit< tt) c.field-5.ensures c.if-range-field-3.true

pub returns-then-field-range-3 : goal.returns-then-field-range-3
unfolding point_of grant_at
returns-then-field-range-3 c = short _ _ 5 (lit< tt) c.field-6.ensures refl c.if-field-range-3.true

pub returns : goal.returns
unfolding point_of grant_at
returns c =
    let number = c.field-number.ensures in
    sym (hit_axes (point_at c.args.pool.now c.args.cell) c.requires.1
    (omega (arith, c.if-number-range.false, number)) (omega (arith, c.if-range-number.false, number))
    (omega (arith, c.if-range-field.false, c.field.ensures))
    (omega (arith, c.if-range-field-2.false, c.field-3.ensures))
    (omega (arith, c.if-range-field-3.false, c.field-5.ensures))
    (omega (arith, c.if-field-range.false, c.field-2.ensures))
    (omega (arith, c.field-2.type_inv, c.field-2.ensures))
    (omega (arith, c.if-field-range-2.false, c.field-4.ensures))
    (omega (arith, c.field-4.type_inv, c.field-4.ensures))
    (omega (arith, c.if-field-range-3.false, c.field-6.ensures))
    (omega (arith, c.field-6.type_inv, c.field-6.ensures)))
