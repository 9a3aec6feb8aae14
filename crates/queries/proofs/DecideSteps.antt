-- What decide answers, test by test.
--   decide_bad, decide_late, decide-broken, decide_done    the pool is refused; no grant covers the quarter; the search is broken; the grants
--                                                          hit decide
-- Assumes nothing.
use Prim.Native.Nat.{ℕ}
use mathlib.Core.Path.{◌≡◌, refl, sym, ap, ◌∙◌}
use mathlib.Core.Bool.{true, false}
use mathlib.Core.List.{List, map}
use lib.ListN.{take}
use Rattle.std.proofs.Common.{Option, None, Some, Result, Ok, Err}
use Rattle.adt.specs.declared.Broken.{Broken}
use Rattle.model.specs.declared.Box.{Box}
use Rattle.model.specs.declared.Choice.TheVariants.{Touching}
use Rattle.model.specs.declared.Decision.{Decision}
use Rattle.model.specs.declared.Decision.TheVariants as decision
use Rattle.model.specs.declared.Fault.TheVariants.{BadPool, BrokenLinks}
use Rattle.model.specs.Quarters.{coverable}
use Rattle.model.specs.Box.{point_box}
use Rattle.model.specs.Answer.{decision_answer, refusal}
use Rattle.model.specs.Decide.{decide_among}
use Rattle.pool.specs.Capacity.{pool_capacity}
use Rattle.pool.specs.Cell.{grant_at}
use Rattle.steps.specs.Hits.{TakenFound, grants_at}
use Rattle.calls.specs.Walks.{is_broken}
use Rattle.calls.specs.Calls.{decide_call}
use Rattle.steps.proofs.HitsLaws.{taken-broken, taken-hits}
use Rattle.queries.proofs.LookSteps.{look_bad, look_broken, look_done}

module _ (w : List ℕ) (staff door quarter : ℕ) {o : Option ℕ} (e : o ≡ pool_capacity w) where
  pub decide_bad : o ≡ None → refusal BadPool ≡ (decide_call w staff door quarter).answer
  unfolding decide_call
  decide_bad z = look_bad w _ _ e z

  pub decide_late : {c : ℕ} → o ≡ Some c → coverable quarter ≡ false → decision_answer (Ok decision.None) ≡ (decide_call w staff door quarter).answer
  unfolding decide_call decide_among
  decide_late n late = rw late (look_done w false _ e n refl)

  module _ {c : ℕ} (n : o ≡ Some c) (early : coverable quarter ≡ true) {b : Box} (point : b ≡ point_box staff door quarter) (h : List ℕ)
      {r : Result ℕ Broken} (f : TakenFound w b Touching h r) where
    pub decide-broken : {d : Broken} → r ≡ Err d → refusal BrokenLinks ≡ (decide_call w staff door quarter).answer
    unfolding decide_call
    decide-broken i = rw early (look_broken w _ _ e n (ap is_broken (taken-broken w Touching point h f i)))

    pub decide_done : {found : ℕ} → r ≡ Ok found → {d : Decision} → d ≡ decide_among (grants_at w (take found h))
        → decision_answer (Ok d) ≡ (decide_call w staff door quarter).answer
    unfolding decide_call
    decide_done i decided =
        let hits = taken-hits w Touching point h f i in
        rw early
        (ap (λ (x : Decision). decision_answer (Ok x)) (decided ∙ ap (λ (ks : List ℕ). decide_among (map (grant_at w) ks)) (sym hits.found))
        ∙ look_done w _ _ e n hits.unbroken)
