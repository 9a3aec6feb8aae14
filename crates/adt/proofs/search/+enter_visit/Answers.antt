-- `search::enter` and `search::visit` meet their contracts, in one proof, since they call each other. Assumes nothing.
use native.Mathlib.Omega.{arith}
use borrow.Author.Tests.{le-leb}
use mathlib.Core.Path.{◌≡◌, refl, sym, ap, ◌∙◌}
use mathlib.Core.List.{List}
use lib.ListN.{get_or, set}
use Prim.Native.Nat.{ℕ}
use Rattle.geometry.specs.declared.Side.{Side}
use Rattle.geometry.specs.declared.Side.TheVariants.{Left, Right}
use Rattle.geometry.specs.Levels.{levels}
use Rattle.geometry.specs.Region.{Region}
use Rattle.pool.specs.Layout.{field_of}
use Rattle.std.proofs.Common.{Ok}
use Rattle.std.proofs.lemmas.Result.{err_from_is_err_and}
use Rattle.adt.specs.declared.search.Counters.{Counters}
use Rattle.adt.specs.Node.{link_place}
use Rattle.adt.specs.Predicate.{test_of}
use Rattle.adt.specs.SearchMemory.{Counted, Encodes, Visiting, Entering}
use Rattle.adt.proofs.EnterSteps.{ChildAt, child_meets, child_half, child_root, child_deep, child_apart, child_past, child_other, child_visited}
use Rattle.adt.proofs.EnterSteps.{encodes_as, subtree, subtree_blank, subtree_entered, visit_cut, visit_left_cut, visit_whole}
use Rattle.adt.proofs.search.+enter_visit.Goals as goal
use Rattle.adt.proofs.search.+enter_visit.Goals.{enter-then-below-le-LEVELS+else-not-half_meets, enter-else-below-le-LEVELS}
use Rattle.adt.proofs.search.+enter_visit.Goals.{visit-then-left-ne0+in_ok-enter, visit-else-left-ne0}

pub enter-returns-then-below-eq0 : goal.enter-returns-then-below-eq0
enter-returns-then-below-eq0 t c = child_deep _ _ _ _ c.requires c.if-below-eq0.true

pub enter-returns-then-not-half_meets : goal.enter-returns-then-not-half_meets
enter-returns-then-not-half_meets t c =
    let a = c.args in
    child_apart _ _ _ _ c.requires c.if-below-eq0.false
    (child_meets a.walk.now.range.now _ a.parent a.side _ c.if-below-le-LEVELS.true c.axis_of-axis.ensures.0 c.half_meets.ensures
    ∙ c.if-not-half_meets.true)

pub enter-returns-then-walk-child : goal.enter-returns-then-walk-child
enter-returns-then-walk-child t c =
    let a = c.args in
    let p = c.requires in
    let joined = c.if-below-le-LEVELS in
    -- where the ways meet: the link and the region that are gone on with
    let child : ChildAt a.walk.now.range.now a.below a.parent a.side a.region joined.region joined.link =
    elim joined.branch [
      | enter-then-below-le-LEVELS+else-not-half_meets w ↦
          child_half a.walk.now.range.now a.below a.parent a.side a.region w.if-below-le-LEVELS.true w.axis_of-axis.ensures.0 w.half_meets.ensures
          w.axis_of-axis.ensures.1 p.shape w.if-not-half_meets.false
          (w.region-is ∙ ap (set a.region w.axis_of-axis.result) w.half_of.ensures) (w.link-is ∙ w.link_place-link.ensures.0)
      | enter-else-below-le-LEVELS w ↦
          child_root a.walk.now.range.now a.below a.parent a.side a.region w.if-below-le-LEVELS.false p.shape p.meeting w.region-is w.link-is
    ] in
    child_past _ _ _ _ p c.if-below-eq0.false child c.if-walk-child.true

pub enter-returns-then-from-parent : goal.enter-returns-then-from-parent
enter-returns-then-from-parent t c =
    let a = c.args in
    let p = c.requires in
    let joined = c.if-below-le-LEVELS in
    -- where the ways meet: the link and the region that are gone on with
    let child : ChildAt a.walk.now.range.now a.below a.parent a.side a.region joined.region joined.link =
    elim joined.branch [
      | enter-then-below-le-LEVELS+else-not-half_meets w ↦
          child_half a.walk.now.range.now a.below a.parent a.side a.region w.if-below-le-LEVELS.true w.axis_of-axis.ensures.0 w.half_meets.ensures
          w.axis_of-axis.ensures.1 p.shape w.if-not-half_meets.false
          (w.region-is ∙ ap (set a.region w.axis_of-axis.result) w.half_of.ensures) (w.link-is ∙ w.link_place-link.ensures.0)
      | enter-else-below-le-LEVELS w ↦
          child_root a.walk.now.range.now a.below a.parent a.side a.region w.if-below-le-LEVELS.false p.shape p.meeting w.region-is w.link-is
    ] in
    let named = c.from.ensures ∙ c.field.ensures in
    child_other _ _ _ _ p c.if-below-eq0.false child c.if-walk-child.false (λ e. c.if-from-parent.true (named ∙ e))

pub enter-visit-requires : goal.enter-visit-requires
enter-visit-requires t c =
    let a = c.args in
    let p = c.requires in
    let joined = c.if-below-le-LEVELS in
    -- where the ways meet: the link and the region that are gone on with
    let child : ChildAt a.walk.now.range.now a.below a.parent a.side a.region joined.region joined.link =
    elim joined.branch [
      | enter-then-below-le-LEVELS+else-not-half_meets w ↦
          child_half a.walk.now.range.now a.below a.parent a.side a.region w.if-below-le-LEVELS.true w.axis_of-axis.ensures.0 w.half_meets.ensures
          w.axis_of-axis.ensures.1 p.shape w.if-not-half_meets.false
          (w.region-is ∙ ap (set a.region w.axis_of-axis.result) w.half_of.ensures) (w.link-is ∙ w.link_place-link.ensures.0)
      | enter-else-below-le-LEVELS w ↦
          child_root a.walk.now.range.now a.below a.parent a.side a.region w.if-below-le-LEVELS.false p.shape p.meeting w.region-is w.link-is
    ] in (
      omega arith,
      record {
        testing = record { ready = p.ready; some = p.some; in_cells = c.if-walk-child.false; one_sided = p.one_sided };
        in_levels = omega (arith, p.in_levels);
        shape = child.shape;
        meeting = child.meeting;
      },
    )

pub enter-returns : goal.enter-returns
enter-returns t c =
    let a = c.args in
    let p = c.requires in
    let joined = c.if-below-le-LEVELS in
    -- where the ways meet: the link and the region that are gone on with
    let child : ChildAt a.walk.now.range.now a.below a.parent a.side a.region joined.region joined.link =
    elim joined.branch [
      | enter-then-below-le-LEVELS+else-not-half_meets w ↦
          child_half a.walk.now.range.now a.below a.parent a.side a.region w.if-below-le-LEVELS.true w.axis_of-axis.ensures.0 w.half_meets.ensures
          w.axis_of-axis.ensures.1 p.shape w.if-not-half_meets.false
          (w.region-is ∙ ap (set a.region w.axis_of-axis.result) w.half_of.ensures) (w.link-is ∙ w.link_place-link.ensures.0)
      | enter-else-below-le-LEVELS w ↦
          child_root a.walk.now.range.now a.below a.parent a.side a.region w.if-below-le-LEVELS.false p.shape p.meeting w.region-is w.link-is
    ] in
    let named = c.from.ensures ∙ c.field.ensures in
    child_visited _ _ _ _ p c.if-below-eq0.false child c.if-walk-child.false
    (sym named ∙ c.if-from-parent.false) c.visit.ensures

pub visit-returns-in_err-test : goal.visit-returns-in_err-test
visit-returns-in_err-test t c =
    let a = c.args in
    let p = err_from_is_err_and c.from_residual.result c.from_residual.ensures.1 in
    rw p.1
    (visit_cut a.walk.now.pool.now _ a.walk.now.range.now _ a.below a.link a.k a.region a.hits.now a.counters.now
    c.test.ensures c.in_err-test.was)

-- what `enter` goes by, from what the visit goes by and the memory that the step before left
entering : {w : List ℕ} {c : ℕ} {q : Region} {h h' : List ℕ} {t t' : Counters} {k n j : ℕ} {g : Region} (s : Side) → Visiting w c q h t k n g → Counted c h' t'
    → j ≡ get_or w (link_place k s) 0 → ¬ (j ≡ 0) → Entering w c q h' t' n k s j g
entering s v counted leads nz =
    let before = v.testing in
    record {
      ready = record { few = before.ready.few; long = before.ready.long; counted = counted };
      cell = λ few. (before.some, before.in_cells);
      leads = rw (le-leb _ levels v.in_levels) leads;
      some = omega (arith, nz);
      in_levels = omega (arith, v.in_levels);
      one_sided = before.one_sided;
      shape = v.shape;
      meeting = v.meeting;
    }

pub visit-enter-requires : goal.visit-enter-requires
unfolding field_of
visit-enter-requires t c =
    (omega arith, entering Left c.requires c.test.ensures.counted (c.from-left.ensures ∙ c.field.ensures) c.if-left-ne0.true)

pub visit-returns-in_err-enter : goal.visit-returns-in_err-enter
visit-returns-in_err-enter t c =
    let a = c.args in
    let p = err_from_is_err_and c.from_residual-in_err-enter.result c.from_residual-in_err-enter.ensures.1 in
    rw p.1
    (visit_left_cut a.walk.now.pool.now _ a.walk.now.range.now _ a.below a.link a.k a.region a.hits.now a.counters.now
    c.test.ensures c.in_ok-test.was
    (subtree_entered a.walk.now.pool.now _ a.walk.now.range.now _ a.below a.k Left a.region c.test.new.hits c.test.new.counters c.requires.in_levels c.enter.ensures) c.in_err-enter.was)

pub visit-returns-then-right-eq0 : goal.visit-returns-then-right-eq0
unfolding field_of
visit-returns-then-right-eq0 t c =
    let a = c.args in
    let v = c.requires in
    let test = test_of a.walk.now.predicate.now a.walk.now.range.now in
    let joined = c.if-left-ne0 in
    -- where the ways meet: the left subtree was entered, or nothing hangs there
    let left : Encodes a.walk.now.cells (Ok tt) joined.hits joined.counters
    (subtree a.walk.now.pool.now a.walk.now.cells a.walk.now.range.now test a.below a.k Left a.region c.test.new.hits c.test.new.counters) =
    elim joined.branch [
      | visit-then-left-ne0+in_ok-enter w ↦
          encodes_as
          (subtree_entered a.walk.now.pool.now _ a.walk.now.range.now _ a.below a.k Left a.region c.test.new.hits c.test.new.counters v.in_levels w.enter.ensures)
          w.in_ok-enter.was w.hits-is w.counters-is
      | visit-else-left-ne0 w ↦
          encodes_as
          (subtree_blank a.walk.now.pool.now _ a.walk.now.range.now _ a.below a.k Left a.region c.test.new.hits c.test.new.counters
          (sym (c.from-left.ensures ∙ c.field.ensures) ∙ w.if-left-ne0.false) c.test.ensures.counted) refl w.hits-is w.counters-is
    ] in
    visit_whole a.walk.now.pool.now _ a.walk.now.range.now _ a.below a.link a.k a.region a.hits.now a.counters.now
    c.test.ensures c.in_ok-test.was left refl
    (subtree_blank a.walk.now.pool.now _ a.walk.now.range.now _ a.below a.k Right a.region joined.hits joined.counters
    (sym (c.from-right.ensures ∙ c.field-2.ensures) ∙ c.if-right-eq0.true) left.counted)

pub visit-enter-requires-2 : goal.visit-enter-requires-2
unfolding field_of
visit-enter-requires-2 t c =
    let a = c.args in
    let v = c.requires in
    let test = test_of a.walk.now.predicate.now a.walk.now.range.now in
    let joined = c.if-left-ne0 in
    -- where the ways meet: the left subtree was entered, or nothing hangs there
    let left : Encodes a.walk.now.cells (Ok tt) joined.hits joined.counters
    (subtree a.walk.now.pool.now a.walk.now.cells a.walk.now.range.now test a.below a.k Left a.region c.test.new.hits c.test.new.counters) =
    elim joined.branch [
      | visit-then-left-ne0+in_ok-enter w ↦
          encodes_as
          (subtree_entered a.walk.now.pool.now _ a.walk.now.range.now _ a.below a.k Left a.region c.test.new.hits c.test.new.counters v.in_levels w.enter.ensures)
          w.in_ok-enter.was w.hits-is w.counters-is
      | visit-else-left-ne0 w ↦
          encodes_as
          (subtree_blank a.walk.now.pool.now _ a.walk.now.range.now _ a.below a.k Left a.region c.test.new.hits c.test.new.counters
          (sym (c.from-left.ensures ∙ c.field.ensures) ∙ w.if-left-ne0.false) c.test.ensures.counted) refl w.hits-is w.counters-is
    ] in
    (omega arith, entering Right v left.counted (c.from-right.ensures ∙ c.field-2.ensures) c.if-right-eq0.false)

pub visit-returns : goal.visit-returns
unfolding field_of
visit-returns t c =
    let a = c.args in
    let v = c.requires in
    let test = test_of a.walk.now.predicate.now a.walk.now.range.now in
    let joined = c.if-left-ne0 in
    -- where the ways meet: the left subtree was entered, or nothing hangs there
    let left : Encodes a.walk.now.cells (Ok tt) joined.hits joined.counters
    (subtree a.walk.now.pool.now a.walk.now.cells a.walk.now.range.now test a.below a.k Left a.region c.test.new.hits c.test.new.counters) =
    elim joined.branch [
      | visit-then-left-ne0+in_ok-enter w ↦
          encodes_as
          (subtree_entered a.walk.now.pool.now _ a.walk.now.range.now _ a.below a.k Left a.region c.test.new.hits c.test.new.counters v.in_levels w.enter.ensures)
          w.in_ok-enter.was w.hits-is w.counters-is
      | visit-else-left-ne0 w ↦
          encodes_as
          (subtree_blank a.walk.now.pool.now _ a.walk.now.range.now _ a.below a.k Left a.region c.test.new.hits c.test.new.counters
          (sym (c.from-left.ensures ∙ c.field.ensures) ∙ w.if-left-ne0.false) c.test.ensures.counted) refl w.hits-is w.counters-is
    ] in
    visit_whole a.walk.now.pool.now _ a.walk.now.range.now _ a.below a.link a.k a.region a.hits.now a.counters.now
    c.test.ensures c.in_ok-test.was left refl
    (subtree_entered a.walk.now.pool.now _ a.walk.now.range.now _ a.below a.k Right a.region joined.hits joined.counters
    v.in_levels c.enter-2.ensures)
