use mathlib.Core.Path.{refl, sym, ◌∙◌}
use borrow.Author.Tests.{lt-leb, le-leb}
use Rattle.lists.proofs.EachLaws.{each_fails, each-passes, each-end, and_false}
use Rattle.geometry.specs.Region.{meets}
use borrow.Author.Rules.{rules}
use Rattle.geometry.proofs.region.meets_range.Goals as goal
use Rattle.geometry.proofs.region.meets_range.Goals.{then-region-n-via-then-region-n, then-region-n-via-else-region-n+then-range-n}

pub loop-n-init : goal.loop-n-init
unfolding meets
loop-n-init c = (search rules, refl)

pub returns-then-region-n : goal.returns-then-region-n
returns-then-region-n c =
    sym (c.loop-n.invariant.1 ∙ each_fails _ _ c.loop-n-test.true (
    elim c.then-region-n.branch [
      | then-region-n-via-then-region-n w ↦ rw (lt-leb _ _ w.if-region-n.true)
      | then-region-n-via-else-region-n+then-range-n w ↦ simp (lt-leb _ _ w.if-range-n.true, and_false)
    ]
    ))

pub loop-n-preserved : goal.loop-n-preserved
loop-n-preserved c =
    let first = c.if-region-n.false in
    (search rules, c.loop-n.invariant.1 ∙ each-passes _ _ c.loop-n-test.true (rw (le-leb _ _ first, le-leb _ _ c.if-range-n.false)))

pub returns : goal.returns
returns c = sym (c.loop-n.invariant.1 ∙ each-end _ _ c.loop-n-test.false)
