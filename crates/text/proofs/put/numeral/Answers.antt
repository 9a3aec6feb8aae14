-- `put::numeral` meets its contract. Assumes nothing.
use Rattle.std.proofs.Common.{arith}
use Rattle.text.proofs.NumeralLaws.{numeral-few}
use Rattle.text.proofs.put.numeral.Goals as goal

pub push_digits-requires : goal.push_digits-requires
push_digits-requires c = rw c.new-digits.ensures (omega (arith, numeral-few 19 c.args.n (omega (arith, c.ranges.n.fits))))
