-- `printing::put_item` meets its contract. Assumes nothing.
use Rattle.std.proofs.Common.{arith, rules, [], ◌∷◌, ◌∙◌, append_assoc}
use Rattle.text.specs.Ascii.{blank}
use Rattle.text.specs.Numeral.{numeral}
use Rattle.text.proofs.NumeralLaws.{numeral-few}
use Rattle.slip_session.proofs.printing.put_item.Goals as goal

pub put_number-requires : goal.put_number-requires
put_number-requires g c =
    (search rules, rw c.from.ensures (omega (arith, c.requires, numeral-few 4 c.args.n (omega (arith, c.ranges.n.fits)), c.put_byte.ensures.len)))

pub returns-clause-items : goal.returns-clause-items
returns-clause-items g c =
    let n = rw c.from.ensures at c.put_number.ensures.items in
    n ∙ rw (c.put_byte.ensures.items, append_assoc c.args.line.now.items (blank ∷ []) (numeral c.args.n))

pub returns-clause-len : goal.returns-clause-len
returns-clause-len g c =
    let n = rw c.from.ensures at c.put_number.ensures.len in
    omega (arith, numeral-few 4 c.args.n (omega (arith, c.ranges.n.fits)), c.put_byte.ensures.len, n)
