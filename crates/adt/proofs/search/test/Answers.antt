-- `search::test` meets its contract, case by case. Assumes nothing.
use mathlib.Core.Path.{sym, ◌∙◌}
use native.Mathlib.Omega.{arith}
use Rattle.adt.proofs.SearchSteps.{test_full, test_outside, test_later, test_first}
use Rattle.adt.specs.Search.{Spot}
use Rattle.adt.proofs.search.test.Goals as goal

pub returns-then-walk-counters : goal.returns-then-walk-counters
returns-then-walk-counters c =
    let a = c.args in
    let here : Spot = record { level = a.level; link = a.link } in
    test_full a.walk.now.pool.now _ a.walk.now.range.now _ here a.k a.hits.now c.requires.ready.few
    a.counters.now c.requires.ready.counted c.if-walk-counters.true

pub returns-then-not-is_hit : goal.returns-then-not-is_hit
returns-then-not-is_hit c =
    let a = c.args in
    let here : Spot = record { level = a.level; link = a.link } in
    let outside = sym c.is_hit.ensures ∙ c.if-not-is_hit.true in
    test_outside a.walk.now.pool.now _ a.walk.now.range.now _ here a.k a.hits.now c.requires.ready.few
    a.counters.now c.requires.ready.counted c.if-walk-counters.false outside

pub returns-then-found-eq0 : goal.returns-then-found-eq0
returns-then-found-eq0 c =
    let a = c.args in
    let here : Spot = record { level = a.level; link = a.link } in
    let hit = sym c.is_hit.ensures ∙ c.if-not-is_hit.false in
    test_first a.walk.now.pool.now _ a.walk.now.range.now _ here a.k a.hits.now c.requires.ready.few
    a.counters.now c.requires.ready.counted c.if-walk-counters.false hit c.if-found-eq0.true

pub returns-else-found-eq0 : goal.returns-else-found-eq0
returns-else-found-eq0 c =
    let a = c.args in
    let here : Spot = record { level = a.level; link = a.link } in
    let hit = sym c.is_hit.ensures ∙ c.if-not-is_hit.false in
    test_later a.walk.now.pool.now _ a.walk.now.range.now _ here a.k a.hits.now c.requires.ready.few
    a.counters.now c.requires.ready.counted c.if-walk-counters.false hit (omega (arith, c.if-found-eq0.false))
