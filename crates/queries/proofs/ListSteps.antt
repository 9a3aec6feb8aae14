-- What list answers and leaves in the lent list, test by test.
--   list_bad, list-reversed, list-broken, list_short    the refusals, in their order
--   list_done                                           the sorted numbers at the start of the lent list
-- Assumes nothing.
use Prim.Native.Nat.{ℕ, ◌<◌, ◌≤◌}
use mathlib.Core.Path.{◌≡◌, refl, sym, ap, ◌∙◌}
use mathlib.Core.Bool.{Bool, true, false}
use mathlib.Core.List.{List, [], ◌∷◌, ◌++◌}
use native.Mathlib.Omega.{arith}
use lib.ListN.{length, take, drop}
use borrow.Author.Tests.{lt-ltb, le-ltb}
use Rattle.lists.specs.Sort.{sort_by}
use Rattle.lists.specs.Overwrite.{overwrite}
use Rattle.lists.proofs.SortLaws.{length-sort_by}
use Rattle.std.proofs.Common.{Option, None, Some, Result, Ok, Err}
use Rattle.adt.specs.declared.Broken.{Broken}
use Rattle.model.specs.declared.Box.{Box}
use Rattle.model.specs.declared.Choice.{Choice}
use Rattle.model.specs.declared.Fault.TheVariants.{BadPool, Reversed, BrokenLinks, ListTooShort}
use Rattle.model.specs.Answer.{accepted, refusal}
use Rattle.model.specs.Refusal.{Step}
use Rattle.model.specs.Arguments.{reversed_box}
use Rattle.model.specs.Relation.{taken}
use Rattle.geometry.specs.SearchRange.{range_of_box}
use Rattle.pool.specs.Capacity.{wrong_pool, pool_capacity}
use Rattle.adt.specs.Search.{Search}
use Rattle.calls.specs.Walks.{box_search, hits_of, is_broken}
use Rattle.steps.specs.Hits.{numbers_at, HitsAt, TakenFound}
use Rattle.calls.specs.Order.{list_order}
use Rattle.calls.specs.Calls.{list_call}
use Rattle.calls.specs.Contract.{Lends}
use Rattle.steps.proofs.HitsLaws.{taken-broken, taken-hits, length-hits}
use Rattle.queries.proofs.NumberLaws.{length-numbers_at}
use Rattle.calls.proofs.RefusalSteps.{refused_by, first_holds, first_fails, none_left, lends_as, pool_refused, pool_taken}

-- a write of n elements at the start leaves the others
overwrite-by : (part lent : List ℕ) {xs : List ℕ} {n : ℕ} → part ≡ xs → length part ≡ n → part ++ drop n lent ≡ overwrite xs lent
unfolding overwrite
overwrite-by part lent same long = rw (← long, ← same)

module _ (w : List ℕ) (q : Box) (choice : Choice) (lent : List ℕ) where
  abbrev s : Search
  s = box_search w q choice

  -- what an accepted list gives
  abbrev listed : Step (List ℕ)
  listed = record { state = w; answer = accepted (length (hits_of s) ∷ []); lent = overwrite (sort_by (λ n. n) (numbers_at w (hits_of s))) lent }

  module _ (right : wrong_pool w ≡ false) where
    reversed_step : reversed_box q ≡ true → list_call w q choice lent ≡ refused_by Reversed w lent
    unfolding list_call list_order
    reversed_step v = first_fails w lent listed _ _ right ∙ first_holds w lent listed _ _ v

    module _ (forward : reversed_box q ≡ false) where
      broken_step : is_broken s ≡ true → list_call w q choice lent ≡ refused_by BrokenLinks w lent
      unfolding list_call list_order
      broken_step met = first_fails w lent listed _ _ right ∙ first_fails w lent listed _ _ forward ∙ first_holds w lent listed _ _ met

      module _ (unmet : is_broken s ≡ false) where
        short_step : length lent < length (hits_of s) → list_call w q choice lent ≡ refused_by (ListTooShort (length (hits_of s))) w lent
        unfolding list_call list_order
        short_step short =
            first_fails w lent listed _ _ right
            ∙ first_fails w lent listed _ _ forward
            ∙ first_fails w lent listed _ _ unmet
            ∙ first_holds w lent listed _ _ (lt-ltb _ _ short)

        done_step : length (hits_of s) ≤ length lent → list_call w q choice lent ≡ listed
        unfolding list_call list_order
        done_step room =
            first_fails w lent listed _ _ right
            ∙ first_fails w lent listed _ _ forward
            ∙ first_fails w lent listed _ _ unmet
            ∙ first_fails w lent listed _ _ (le-ltb _ _ room)
            ∙ none_left w lent listed

  module _ {o : Option ℕ} (e : o ≡ pool_capacity w) where
    pub list_bad : o ≡ None → Lends (refusal BadPool) lent (list_call w q choice lent)
    unfolding list_call list_order
    list_bad z = lends_as (first_holds w lent listed _ _ (pool_refused w e z))

    module _ {c : ℕ} (n : o ≡ Some c) {reversed : Bool} (v : reversed ≡ reversed_box q) where
      right : wrong_pool w ≡ false
      right = (pool_taken w e n).right

      pub list-reversed : reversed ≡ true → Lends (refusal Reversed) lent (list_call w q choice lent)
      list-reversed r = lends_as (reversed_step right (sym v ∙ r))

      module _ (forward : reversed ≡ false) (h : List ℕ) {r : Result ℕ Broken} (f : TakenFound w q choice h r) where
        pub list-broken : {d : Broken} → r ≡ Err d → Lends (refusal BrokenLinks) lent (list_call w q choice lent)
        list-broken b = lends_as (broken_step right (sym v ∙ forward) (ap is_broken (taken-broken w choice refl h f b)))

        module _ {found : ℕ} (b : r ≡ Ok found) where
          at : HitsAt w (range_of_box q) (taken choice q) h found
          at = taken-hits w choice refl h f b

          long : length (hits_of s) ≡ found
          long = length-hits w (range_of_box q) (taken choice q) h at

          pub list_short : length lent < found → Lends (refusal (ListTooShort found)) lent (list_call w q choice lent)
          list_short short = rw (← long) (lends_as (short_step right (sym v ∙ forward) at.unbroken (omega (arith, long))))

          pub list_done : found ≤ length lent → {part : List ℕ} → part ≡ sort_by (λ n. n) (numbers_at w (take found h))
              → Lends (accepted (found ∷ [])) (part ++ drop found lent) (list_call w q choice lent)
          list_done room {part} sorted =
              let numbers : part ≡ sort_by (λ n. n) (numbers_at w (hits_of s)) = sorted ∙ rw at.found in
              let done = lends_as (done_step right (sym v ∙ forward) at.unbroken (omega (arith, long))) in
              let count : length part ≡ found = ap length numbers ∙ length-sort_by _ _ ∙ length-numbers_at w (hits_of s) ∙ long in
              record {
                answered = ap (λ (k : ℕ). accepted (k ∷ [])) (sym long) ∙ done.answered;
                left = overwrite-by part lent numbers count ∙ done.left;
              }
