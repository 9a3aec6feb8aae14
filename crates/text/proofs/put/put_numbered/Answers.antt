-- `put::put_numbered` meets its contract. Assumes nothing.
use Rattle.std.proofs.Common.{arith, rules}
use Rattle.text.proofs.NumeralLaws.{numeral-few}
use Rattle.text.proofs.put.put_numbered.Goals as goal

pub put_number-requires : goal.put_number-requires
put_number-requires g c =
    (search rules, omega (arith, c.requires, c.put_text.ensures.len, numeral-few 19 c.args.n (omega (arith, c.ranges.n.fits))))

pub returns-clause-len : goal.returns-clause-len
returns-clause-len g c =
    omega (arith, c.put_text.ensures.len, c.put_number.ensures.len, numeral-few 19 c.args.n (omega (arith, c.ranges.n.fits)))
