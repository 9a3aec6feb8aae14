-- `remove::find_terminal` meets its contract, test by test. Assumes nothing.
use mathlib.Core.Path.{sym, ◌∙◌}
use Rattle.adt.proofs.DescentSteps.{follow-terminal, follow-deep, follow-above, follow_full, follow_parent, follow-next}
use Rattle.adt.proofs.remove.+find_terminal.Goals as goal

pub returns-then-next-eq0 : goal.returns-then-next-eq0
returns-then-next-eq0 t c = follow-terminal _ _ _ _ _ _ _ _ c.next_link-at.ensures.0 c.from-next.ensures c.if-next-eq0.true

pub returns-then-below-eq0 : goal.returns-then-below-eq0
returns-then-below-eq0 t c =
    follow-deep _ _ _ _ _ _ _ _ c.next_link-at.ensures.0 c.from-next.ensures c.if-next-eq0.false c.if-below-eq0.true

pub returns-then-cells-next : goal.returns-then-cells-next
returns-then-cells-next t c =
    follow-above _ _ _ _ _ _ _ _ c.next_link-at.ensures.0 c.from-next.ensures
    c.if-next-eq0.false c.if-below-eq0.false c.if-cells-next.true

pub returns-then-cells-met : goal.returns-then-cells-met
returns-then-cells-met t c =
    follow_full _ _ _ _ _ _ _ _ c.next_link-at.ensures.0 c.from-next.ensures
    c.if-next-eq0.false c.if-below-eq0.false c.if-cells-next.false c.if-cells-met.true

pub returns-then-from-k : goal.returns-then-from-k
returns-then-from-k t c =
    follow_parent _ _ _ _ _ _ _ _ c.next_link-at.ensures.0 c.from-next.ensures
    c.if-next-eq0.false c.if-below-eq0.false c.if-cells-next.false c.if-cells-met.false
    (λ e. c.if-from-k.true (c.from.ensures ∙ c.field.ensures ∙ e))

pub returns : goal.returns
returns t c =
    let named = sym (c.from.ensures ∙ c.field.ensures) ∙ c.if-from-k.false in
    c.find_terminal.ensures
    ∙ follow-next _ _ _ _ _ _ _ _ c.next_link-at.ensures.0 c.from-next.ensures
    c.if-next-eq0.false c.if-below-eq0.false c.if-cells-next.false c.if-cells-met.false named
