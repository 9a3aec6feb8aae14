use Rattle.std.proofs.Common.{arith, length-set}
use Rattle.queries.proofs.NumberLaws.{numbers_more}
use Rattle.queries.proofs.list.copy_numbers.Goals as goal

pub loop-i-preserved : goal.loop-i-preserved
loop-i-preserved c =
    let l = c.loop-i in (
      simp length-set l.invariant.0,
      numbers_more c.args.pool.now c.args.hits.now l.list l.i (omega (arith, c.loop-i-test.true, l.invariant.0)) (omega (arith, c.loop-i-test.true))
          c.from.ensures c.field.ensures l.invariant.1,
    )
