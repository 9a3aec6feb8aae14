-- `put::push_digits` meets its contract: all digits but the last, then the last. Assumes nothing.
use Rattle.std.proofs.Common.{arith, rules, ◌∙◌, ◌∷◌, [], ◌/◌, ◌%◌, append_assoc}
use Rattle.text.specs.Numeral.{digit, numeral}
use Rattle.text.proofs.NumeralLaws.{numeral-digit, numeral_more, length-numeral-digit, length-numeral_more}
use Rattle.text.proofs.put.+push_digits.Goals as goal
use Rattle.text.proofs.put.+push_digits.Goals.{then-n-ge10, else-n-ge10}

pub push_digits-requires : goal.push_digits-requires
push_digits-requires t c =
    let more = length-numeral_more c.args.n c.if-n-ge10.true in
    (omega (arith, c.decreases, c.if-n-ge10.true), omega (arith, c.requires, more))

pub push-requires : goal.push-requires
push-requires t c = (
  search rules,
  elim c.if-n-ge10.branch [
    | then-n-ge10 w ↦
        rw w.digits-is
        (omega (arith, c.requires, w.push_digits.ensures.len, length-numeral_more c.args.n w.if-n-ge10.true))
    | else-n-ge10 w ↦ rw w.digits-is (omega (arith, c.requires, length-numeral-digit c.args.n w.if-n-ge10.false))
  ],
)

pub returns-clause-items : goal.returns-clause-items
returns-clause-items t c =
    c.push.ensures.items ∙ elim c.if-n-ge10.branch [
      | then-n-ge10 w ↦
          rw (w.digits-is, w.push_digits.ensures.items, numeral_more c.args.n w.if-n-ge10.true)
          (append_assoc c.args.digits.now.items (numeral (c.args.n / 10)) (digit (c.args.n % 10) ∷ []))
      | else-n-ge10 w ↦ rw (w.digits-is, numeral-digit c.args.n w.if-n-ge10.false) (search rules)
    ]

pub returns-clause-len : goal.returns-clause-len
returns-clause-len t c =
    c.push.ensures.len ∙ elim c.if-n-ge10.branch [
      | then-n-ge10 w ↦ rw w.digits-is (omega (arith, w.push_digits.ensures.len, length-numeral_more c.args.n w.if-n-ge10.true))
      | else-n-ge10 w ↦ rw w.digits-is (omega (arith, length-numeral-digit c.args.n w.if-n-ge10.false))
    ]
