use mathlib.Core.Path.{sym, ◌∙◌}
use borrow.Author.Rules.{rules}
use native.Mathlib.Omega.{arith}
use lib.ListN.{length-set, length-replicate}
use Rattle.text.specs.declared.Width.TheVariants.{Byte}
use Rattle.text.proofs.NumberSteps.{numbers-start, numbers_bad, numbers_more, numbers-end, numbers-left}
use Rattle.text.proofs.reading.read_numbers.Goals as goal

pub loop-i-init : goal.loop-i-init
loop-i-init g c = (length-replicate g.row.N 0, search rules, numbers-start _ _ _ _)

pub returns-in_err-field : goal.returns-in_err-field
returns-in_err-field g c =
    let l = c.loop-i in
    c.from_residual.ensures ∙ numbers_bad _ _ l.values _ _ Byte (omega arith) (sym c.read_field.ensures ∙ c.in_err-field.was) ∙ l.invariant.2

pub loop-i-preserved : goal.loop-i-preserved
loop-i-preserved g c =
    let l = c.loop-i in (
      simp length-set l.invariant.0,
      l.invariant.1,
      numbers_more _ _ l.values _ _ Byte (omega arith) _ (omega arith) (sym c.read_field.ensures ∙ c.in_ok-field.was) ∙ l.invariant.2,
    )

pub returns-then-at-line : goal.returns-then-at-line
returns-then-at-line g c =
    let l = c.loop-i in
    numbers-left _ _ l.values _ _ (omega arith) c.if-at-line.true ∙ l.invariant.2

pub returns : goal.returns
returns g c =
    let l = c.loop-i in
    numbers-end _ _ l.values _ _ (omega arith) (omega arith) c.if-at-line.false ∙ l.invariant.2
