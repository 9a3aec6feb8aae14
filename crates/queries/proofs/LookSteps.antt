-- What decide and count answer, test by test: their order line is one, and each makes one search at most.
--   look_bad, look_broken, look_done    the pool is refused; the search is broken; no cause holds
-- Assumes nothing.
use Prim.Native.Nat.{ℕ}
use mathlib.Core.Path.{◌≡◌, ◌∙◌}
use mathlib.Core.Bool.{Bool, true, false}
use mathlib.Core.List.{List, []}
use Rattle.std.proofs.Common.{Option, None, Some}
use Rattle.model.specs.declared.Fault.TheVariants.{BadPool, BrokenLinks}
use Rattle.model.specs.Answer.{Answer, refusal}
use Rattle.model.specs.Refusal.{Step, refusing}
use Rattle.pool.specs.Capacity.{pool_capacity}
use Rattle.calls.specs.Order.{look_order}
use Rattle.calls.proofs.RefusalSteps.{first_holds, first_fails, none_left, leaves_as, pool_refused, pool_taken}

-- a call that gives `done` where it is not refused, and whose search met a cause of 9 or not
module _ (w : List ℕ) (broken : Bool) (done : Step (List ℕ)) {o : Option ℕ} (e : o ≡ pool_capacity w) where
  abbrev answer : Answer
  answer = (refusing (look_order w broken) w [] done).answer

  pub look_bad : o ≡ None → refusal BadPool ≡ answer
  unfolding look_order
  look_bad z = (leaves_as (first_holds w [] done _ _ (pool_refused w e z))).answered

  module _ {c : ℕ} (n : o ≡ Some c) where
    pub look_broken : broken ≡ true → refusal BrokenLinks ≡ answer
    unfolding look_order
    look_broken met = (leaves_as (first_fails w [] done _ _ (pool_taken w e n).right ∙ first_holds w [] done _ _ met)).answered

    pub look_done : broken ≡ false → done.answer ≡ answer
    unfolding look_order
    look_done unmet =
        (leaves_as (first_fails w [] done _ _ (pool_taken w e n).right ∙ first_fails w [] done _ _ unmet ∙ none_left w [] done)).answered
