use mathlib.Core.Path.{◌≡◌, sym, ◌∙◌}
use mathlib.Core.Bool.{true, false}
use borrow.Author.Tests.{not-false, not-true}
use Rattle.model.specs.Grant.{same_grant}
use Rattle.model.proofs.GrantLaws.{eq-same_grant}
use Rattle.file_calls.proofs.DifferenceLaws.{both_end, theirs_left, ours_left, unequal_here, equal_here}
use Rattle.file_calls.proofs.matching.first_difference.Goals as goal

pub loop-theirs-preserved : goal.loop-theirs-preserved
loop-theirs-preserved c =
    let both = c.in-Some-Some in
    let equal : same_grant both.ours both.theirs ≡ true =
    sym (eq-same_grant both.ours both.theirs) ∙ not-false _ (sym c.ne.ensures ∙ c.if-ne.false) in
    equal_here _ _ c.loop-theirs.i (sym c.ours_at.ensures ∙ both.is-0) (sym c.theirs_at.ensures ∙ both.is-1) equal ∙ c.loop-theirs.invariant

pub returns-in-None-None : goal.returns-in-None-None
returns-in-None-None c =
    let none = c.in-None-None in
    both_end _ _ c.loop-theirs.i (sym c.ours_at.ensures ∙ none.is-0) (sym c.theirs_at.ensures ∙ none.is-1) ∙ c.loop-theirs.invariant

pub returns-in-None-Some : goal.returns-in-None-Some
returns-in-None-Some c =
    let one = c.in-None-Some in
    theirs_left _ _ c.loop-theirs.i (sym c.ours_at.ensures ∙ one.is-0) (sym c.theirs_at.ensures ∙ one.is-1) ∙ c.loop-theirs.invariant

pub returns-in-Some-None : goal.returns-in-Some-None
returns-in-Some-None c =
    let one = c.in-Some-None in
    ours_left _ _ c.loop-theirs.i (sym c.ours_at.ensures ∙ one.is-0) (sym c.theirs_at.ensures ∙ one.is-1) ∙ c.loop-theirs.invariant

pub returns-then-ne : goal.returns-then-ne
returns-then-ne c =
    let both = c.in-Some-Some in
    let unequal : same_grant both.ours both.theirs ≡ false =
    sym (eq-same_grant both.ours both.theirs) ∙ not-true _ (sym c.ne.ensures ∙ c.if-ne.true) in
    rw c.min.ensures
    (unequal_here _ _ c.loop-theirs.i (sym c.ours_at.ensures ∙ both.is-0) (sym c.theirs_at.ensures ∙ both.is-1) unequal ∙ c.loop-theirs.invariant)
