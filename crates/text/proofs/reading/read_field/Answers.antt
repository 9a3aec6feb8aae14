use borrow.Author.Rules.{rules}
use mathlib.Core.Path.{refl, ◌∙◌}
use native.Mathlib.Omega.{arith}
use Rattle.text.proofs.FieldSteps.{field_starts, going_end, going-blank, going_other, going_wide}
use Rattle.text.proofs.FieldSteps.{going-digit}
use Rattle.text.proofs.reading.read_field.Goals as goal

pub loop-at-init : goal.loop-at-init
loop-at-init c = (search rules, field_starts _ _ _ (omega arith) (λ e. omega arith))

pub returns-then-b-eq-BLANK : goal.returns-then-b-eq-BLANK
returns-then-b-eq-BLANK c =
    let l = c.loop-at in
    c.within.ensures ∙ going-blank _ _ _ l.value _ c.loop-at-test.true refl c.if-b-eq-BLANK.true ∙ l.invariant.1

pub returns-then-not-is_ascii_digit : goal.returns-then-not-is_ascii_digit
returns-then-not-is_ascii_digit c =
    let l = c.loop-at in
    going_other _ _ _ l.value _ c.loop-at-test.true refl c.if-b-eq-BLANK.false c.if-not-is_ascii_digit.ensures.cases ∙ l.invariant.1

pub returns-then-value-gt-HIGHEST : goal.returns-then-value-gt-HIGHEST
returns-then-value-gt-HIGHEST c =
    let l = c.loop-at in
    let d = c.if-not-is_ascii_digit.ensures.cases in
    going_wide _ _ _ l.value _ c.loop-at-test.true refl c.if-b-eq-BLANK.false d.0 d.1 (rw c.from.ensures at c.if-value-gt-HIGHEST.true) ∙ l.invariant.1

pub loop-at-preserved : goal.loop-at-preserved
loop-at-preserved c =
    let l = c.loop-at in
    let d = c.if-not-is_ascii_digit.ensures.cases in
    (omega arith, rw c.from.ensures (going-digit _ _ _ l.value _ c.loop-at-test.true refl c.if-b-eq-BLANK.false d.0 d.1 ∙ l.invariant.1))

pub returns : goal.returns
returns c =
    let l = c.loop-at in
    c.within-2.ensures ∙ going_end c.args.w c.args.line.now l.at l.value (omega arith) ∙ l.invariant.1
