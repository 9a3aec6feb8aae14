-- What count answers, test by test.
--   count_bad, count-broken, count_done    the pool is refused; the search is broken; its hits are counted
--   count-few                              no more are live than there are cells
-- Assumes nothing.
use Prim.Native.Nat.{ℕ, ◌-◌, ◌≤◌}
use mathlib.Core.Path.{◌≡◌, ap}
use mathlib.Core.List.{List, [], ◌∷◌}
use native.Mathlib.Omega.{arith}
use lib.ListN.{length}
use Rattle.std.proofs.Common.{Option, None, Some, Result, Ok, Err}
use Rattle.adt.specs.declared.Broken.{Broken}
use Rattle.model.specs.declared.Fault.TheVariants.{BadPool, BrokenLinks}
use Rattle.model.specs.Answer.{accepted, refusal}
use Rattle.geometry.specs.Region.{Region}
use Rattle.geometry.specs.SearchRange.{range_of_all}
use Rattle.geometry.specs.Point.{in_range}
use Rattle.pool.specs.Capacity.{pool_capacity}
use Rattle.calls.specs.Walks.{full_search, is_broken, hits_of}
use Rattle.steps.specs.Hits.{HitsFound}
use Rattle.calls.specs.Calls.{count_call}
use Rattle.steps.proofs.HitsLaws.{broken-search, found-hits, length-hits}
use Rattle.calls.proofs.RefusalSteps.{pool_taken}
use Rattle.queries.proofs.LookSteps.{look_bad, look_broken, look_done}

module _ (w : List ℕ) {o : Option ℕ} (e : o ≡ pool_capacity w) where
  pub count_bad : o ≡ None → refusal BadPool ≡ (count_call w).answer
  unfolding count_call
  count_bad z = look_bad w _ _ e z

  module _ {c : ℕ} (n : o ≡ Some c) {q : Region} (all : q ≡ range_of_all) (h : List ℕ) {r : Result ℕ Broken} (f : HitsFound w q (in_range q) h r) where
    pub count-broken : {b : Broken} → r ≡ Err b → refusal BrokenLinks ≡ (count_call w).answer
    unfolding count_call
    count-broken met = look_broken w _ _ e n (ap is_broken (broken-search w in_range all h f met))

    module _ {live : ℕ} (b : r ≡ Ok live) where
      pub count-few : live ≤ c
      count-few = omega (arith, (found-hits w in_range all h f b).few, (pool_taken w e n).capacity)

      pub count_done : accepted (live ∷ (c - live) ∷ []) ≡ (count_call w).answer
      unfolding count_call
      count_done =
          let long : length (hits_of (full_search w)) ≡ live = length-hits w range_of_all _ h (found-hits w in_range all h f b) in
          rw (← long, ← (pool_taken w e n).capacity) (look_done w _ _ e n (found-hits w in_range all h f b).unbroken)
