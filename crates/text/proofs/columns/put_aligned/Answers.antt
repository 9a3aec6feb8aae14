-- `columns::put_aligned` meets its contract: blanks, then the number. Assumes nothing.
use Rattle.std.proofs.Common.{arith, rules, ap, length}
use Rattle.text.proofs.ColumnLaws.{digits_fit, put_aligned-whole}
use Rattle.text.proofs.columns.put_aligned.Goals as goal

pub overflow_sub-len : goal.overflow_sub-len
overflow_sub-len g c =
    rw c.len.ensures.value (digits_fit c.args.n (omega (arith, c.ranges.n.fits)) (rw c.from.ensures at c.numeral-digits.ensures))

pub put_text-requires : goal.put_text-requires
put_text-requires g c =
    let fit = digits_fit c.args.n (omega (arith, c.ranges.n.fits)) (rw c.from.ensures at c.numeral-digits.ensures) in
    (search rules, omega (arith, c.requires, c.put_blanks.ensures.len, c.len.ensures.value, ap length c.as_slice.ensures.value, fit))

pub returns-clause-items : goal.returns-clause-items
returns-clause-items g c =
    put_aligned-whole c.args.n c.args.line.now.items
    (rw c.len.ensures.value at c.put_blanks.ensures.items)
    (rw c.from.ensures at c.numeral-digits.ensures)
    (rw c.as_slice.ensures.value at c.put_text.ensures.items)

pub returns-clause-len : goal.returns-clause-len
returns-clause-len g c =
    let fit = digits_fit c.args.n (omega (arith, c.ranges.n.fits)) (rw c.from.ensures at c.numeral-digits.ensures) in
    omega (arith, c.put_text.ensures.len, c.put_blanks.ensures.len, c.len.ensures.value, ap length c.as_slice.ensures.value, fit)
