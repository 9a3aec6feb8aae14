-- What write answers and leaves in the lent bytes, test by test.
--   write_bad, write-reversed, write-broken, write_short    the refusals, in their order
--   write_done                                              the file at the start of the lent bytes
-- Assumes nothing.
use Prim.Native.Nat.{ℕ, ◌*◌, ◌<◌, ◌≤◌}
use mathlib.Core.Path.{◌≡◌, sym, ap, ◌∙◌}
use mathlib.Core.Bool.{true, false}
use mathlib.Core.List.{List, [], ◌∷◌}
use Rattle.std.proofs.Common.{Option, None, Some, Result, Ok, Err}
use native.Mathlib.Omega.{arith}
use lib.ListN.{length, take}
use borrow.Author.Tests.{lt-ltb, le-ltb}
use Rattle.lists.specs.Sort.{sort_by}
use Rattle.lists.specs.Overwrite.{overwrite}
use Rattle.model.specs.declared.Grant.{Grant}
use Rattle.model.specs.declared.Fault.TheVariants.{BadPool, Reversed, BrokenLinks, BufferTooShort}
use Rattle.model.specs.declared.Interval.{Interval}
use Rattle.model.specs.Answer.{accepted, refusal}
use Rattle.model.specs.Refusal.{Step}
use Rattle.model.specs.Arguments.{reversed_doors}
use Rattle.geometry.specs.Region.{Region}
use Rattle.geometry.specs.SearchRange.{range_of_doors}
use Rattle.geometry.specs.Point.{in_range}
use Rattle.pool.specs.Capacity.{wrong_pool, pool_capacity}
use Rattle.adt.specs.Search.{Search}
use Rattle.grants_file.specs.Layout.{block_bytes}
use Rattle.grants_file.specs.File.{blocks_for, file_of}
use Rattle.adt.specs.declared.Broken.{Broken}
use Rattle.calls.specs.Walks.{door_search, hits_of, is_broken}
use Rattle.calls.specs.Causes.{length_needed}
use Rattle.steps.specs.Hits.{HitsAt, HitsFound, grants_at}
use Rattle.calls.specs.Order.{write_order}
use Rattle.calls.specs.FileCalls.{touching_grants, write_call}
use Rattle.steps.specs.SortKeys.{number_in}
use Rattle.calls.specs.Contract.{Lends}
use Rattle.steps.proofs.HitsLaws.{broken-search, found-hits, length-hits}
use Rattle.steps.proofs.SortedCellLaws.{touching-sorted}
use Rattle.calls.proofs.RefusalSteps.{refused_by, first_holds, first_fails, none_left, lends_as, pool_refused, pool_taken}

module _ (w : List ℕ) (doors : Interval) (lent : List ℕ) where
  abbrev s : Search
  s = door_search w doors

  -- what an accepted write gives
  abbrev written : Step (List ℕ)
  written = record { state = w; answer = accepted (length_needed (hits_of s) ∷ []); lent = overwrite (file_of doors (touching_grants w doors)) lent }

  module _ (right : wrong_pool w ≡ false) where
    reversed_step : reversed_doors doors ≡ true → write_call w doors lent ≡ refused_by Reversed w lent
    unfolding write_call write_order
    reversed_step v = first_fails w lent written _ _ right ∙ first_holds w lent written _ _ v

    module _ (forward : reversed_doors doors ≡ false) where
      broken_step : is_broken s ≡ true → write_call w doors lent ≡ refused_by BrokenLinks w lent
      unfolding write_call write_order
      broken_step met = first_fails w lent written _ _ right ∙ first_fails w lent written _ _ forward ∙ first_holds w lent written _ _ met

      module _ (unmet : is_broken s ≡ false) where
        short_step : length lent < length_needed (hits_of s) → write_call w doors lent ≡ refused_by (BufferTooShort (length_needed (hits_of s))) w lent
        unfolding write_call write_order
        short_step short =
            first_fails w lent written _ _ right
            ∙ first_fails w lent written _ _ forward
            ∙ first_fails w lent written _ _ unmet
            ∙ first_holds w lent written _ _ (lt-ltb _ _ short)

        done_step : length_needed (hits_of s) ≤ length lent → write_call w doors lent ≡ written
        unfolding write_call write_order
        done_step room =
            first_fails w lent written _ _ right
            ∙ first_fails w lent written _ _ forward
            ∙ first_fails w lent written _ _ unmet
            ∙ first_fails w lent written _ _ (le-ltb _ _ room)
            ∙ none_left w lent written

  module _ {o : Option ℕ} (e : o ≡ pool_capacity w) where
    pub write_bad : o ≡ None → Lends (refusal BadPool) lent (write_call w doors lent)
    unfolding write_call write_order
    write_bad z = lends_as (first_holds w lent written _ _ (pool_refused w e z))

    module _ {c : ℕ} (n : o ≡ Some c) where
      right : wrong_pool w ≡ false
      right = (pool_taken w e n).right

      pub write-reversed : doors.to < doors.from → Lends (refusal Reversed) lent (write_call w doors lent)
      write-reversed r = lends_as (reversed_step right (lt-ltb _ _ r))

      module _ (forward : doors.from ≤ doors.to) {range : Region} (a : range ≡ range_of_doors doors) (h : List ℕ)
          {r : Result ℕ Broken} (f : HitsFound w range (in_range range) h r) where
        pub write-broken : {b : Broken} → r ≡ Err b → Lends (refusal BrokenLinks) lent (write_call w doors lent)
        write-broken b = lends_as (broken_step right (le-ltb _ _ forward) (ap is_broken (broken-search w in_range a h f b)))

        module _ {found : ℕ} (b : r ≡ Ok found) {needed : ℕ} (size : needed ≡ block_bytes * blocks_for found) where
          at : HitsAt w (range_of_doors doors) (in_range (range_of_doors doors)) h found
          at = found-hits w in_range a h f b

          long : length (hits_of s) ≡ found
          long = length-hits w (range_of_doors doors) _ h at

          exact : length_needed (hits_of s) ≡ needed
          exact = ap (λ (k : ℕ). block_bytes * blocks_for k) long ∙ sym size

          pub write_short : length lent < needed → Lends (refusal (BufferTooShort needed)) lent (write_call w doors lent)
          write_short short = rw (← exact) (lends_as (short_step right (le-ltb _ _ forward) at.unbroken (omega (arith, exact))))

          pub write_done : needed ≤ length lent → {cells bytes : List ℕ} → cells ≡ sort_by (number_in w) (take found h)
              → bytes ≡ overwrite (file_of doors (grants_at w cells)) lent
              → Lends (accepted (needed ∷ [])) bytes (write_call w doors lent)
          write_done room sorted file =
              let grants = touching-sorted w doors h at sorted in
              let done = lends_as (done_step right (le-ltb _ _ forward) at.unbroken (omega (arith, exact))) in
              record {
                answered = ap (λ (k : ℕ). accepted (k ∷ [])) (sym exact) ∙ done.answered;
                left = file ∙ ap (λ (gs : List Grant). overwrite (file_of doors gs) lent) grants ∙ done.left;
              }
