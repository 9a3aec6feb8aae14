use Prim.Native.Nat.{ℕ, zero, suc, ◌+◌, ◌-◌, ◌<◌, ◌≤◌}
use mathlib.Core.Path.{◌≡◌, refl, ap, ◌∙◌}
use mathlib.Core.Bool.{true}
use mathlib.Core.List.{List}
use native.Mathlib.Omega.{arith}
use borrow.Author.Tests.{lt-ltb, le-ltb}
use Rattle.openings.specs.Entry.{entry_quarter, entries_in, entry_at}
use Rattle.openings.specs.First.{first_passing}
use Rattle.openings.specs.Record.{falls_at}
use Rattle.openings.specs.Defects.{first_fall, order_defect}
use Rattle.openings.proofs.FirstLaws.{first_here, first_next, first-end}
use Rattle.openings.proofs.DefectLaws.{order_sound, order_falls}
use Rattle.openings.proofs.defects.order_defect.Goals as goal

-- no quarter is below the 0 that stands before the first
not-first : (place before quarter : ℕ) → (place ≡ 0 → before ≡ 0) → quarter < before → 0 < place
not-first zero before quarter e h = absurd (omega (arith, e refl))
not-first (suc n) before quarter e h = omega arith

-- the first fall from the next place on
next : (r : List ℕ) (place before quarter : ℕ) → place < entries_in r → quarter ≡ entry_quarter (entry_at r place) → before ≤ quarter
    → (0 < place → before ≡ entry_quarter (entry_at r (place - 1)))
    → (0 < place → first_passing (falls_at r) place (entries_in r - place) ≡ first_fall r)
    → first_passing (falls_at r) (place + 1) (entries_in r - (place + 1)) ≡ first_fall r
next r zero before quarter h e l p q = refl
next r (suc n) before quarter h e l p q =
    first_next (falls_at r) _ _ _ (q (omega arith)) h refl (le-ltb _ _ (omega (arith, e, l, p (omega arith))))

-- behind the last place
end : (r : List ℕ) (place : ℕ) → entries_in r ≤ place → (0 < place → first_passing (falls_at r) place (entries_in r - place) ≡ first_fall r)
    → entries_in r ≤ first_fall r
end r zero h q = omega arith
end r (suc n) h q = omega (arith, first-end (falls_at r) _ _ _ (q (omega arith)) h)

pub returns-then-quarter-before : goal.returns-then-quarter-before
returns-then-quarter-before c =
    let bytes = c.args.bytes.now in
    let l = c.loop-place in
    let later = not-first l.place l.before c.quarter_of-quarter.result l.invariant.0 c.if-quarter-before.true in
    let before = l.invariant.1 later in
    let quarter = c.quarter_of-quarter.ensures ∙ ap entry_quarter c.entry_at.ensures in
    let falls : falls_at bytes l.place ≡ true = lt-ltb _ _ (omega (arith, before, quarter, c.if-quarter-before.true)) in
    let here = first_here (falls_at bytes) _ _ _ (l.invariant.2 later) (omega arith) refl falls in
    rw (before, quarter) (order_falls bytes l.place (omega arith) ∙ ap (order_defect bytes) here)

pub loop-place-preserved : goal.loop-place-preserved
loop-place-preserved c =
    let bytes = c.args.bytes.now in
    let l = c.loop-place in
    let quarter = c.quarter_of-quarter.ensures ∙ ap entry_quarter c.entry_at.ensures in
    let back : l.place + 1 - 1 ≡ l.place = omega arith in (
      λ e. absurd (omega arith),
      λ h. rw back quarter,
      λ h. next bytes l.place l.before _ (omega arith) quarter c.if-quarter-before.false l.invariant.1 l.invariant.2,
    )

pub returns : goal.returns
returns c =
    let bytes = c.args.bytes.now in
    order_sound bytes (first_fall bytes) (end bytes c.loop-place.place (omega arith) c.loop-place.invariant.2)
