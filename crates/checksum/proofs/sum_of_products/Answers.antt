use mathlib.Core.Path.{◌≡◌}
use Prim.Native.Nat.{◌+◌, ◌-◌}
use native.Mathlib.Omega.{arith}
use lib.ListN.{length}
use borrow.Author.Rules.{rules}
use Rattle.checksum.proofs.PowerTableLaws.{table_powers, entry_lt}
use Rattle.checksum.proofs.SumLaws.{products_start, products_turn, products_end}
use Rattle.checksum.proofs.sum_of_products.Goals as goal

pub loop-at-init : goal.loop-at-init
loop-at-init c = (search rules, products_start c.args.bytes.now (length c.args.bytes.now + c.args.behind - 0))

pub product-sum-requires : goal.product-sum-requires
product-sum-requires c =
    entry_lt c.args.powers.now _ c.requires.rule (omega (arith, c.requires.inside))

pub loop-at-preserved : goal.loop-at-preserved
loop-at-preserved c =
    let l = c.loop-at in
    let bytes = c.args.bytes.now in
    let exponent = length bytes + c.args.behind - l.at in
    let next = length bytes + c.args.behind - (l.at + 1) in
    let before : length bytes + c.args.behind - 1 - l.at ≡ next = omega arith in
    let is-power = table_powers c.args.powers.now next c.requires.rule (omega (arith, c.requires.inside)) in (
      omega (arith, c.product-sum.ensures.1),
      rw (c.product-sum.ensures.0, before)
          (products_turn bytes l.at l.sum _ exponent next (omega arith) (omega arith) l.invariant.1 is-power),
    )

pub returns : goal.returns
returns c =
    let l = c.loop-at in
    let bytes = c.args.bytes.now in
    products_end bytes l.at l.sum (length bytes + c.args.behind - l.at) c.args.behind (omega arith) (omega arith) l.invariant.1
