-- What load answers and leaves, test by test.
--   added_more, added_all_lem                     one more grant of the file is added; all are
--   load_bad, load_file, load_full          the refusals, in their order
--   load_done                               start's words with the file's grants
-- Assumes nothing.
use Prim.Native.Nat.{ℕ, suc, ◌+◌, ◌<◌, ◌≤◌}
use mathlib.Core.Path.{◌≡◌, sym, ap, ◌∙◌}
use mathlib.Core.Bool.{false}
use mathlib.Core.List.Memᴰ
use mathlib.Core.List.{List, [], ◌∷◌, ◌++◌}
use Rattle.std.specs.Bool.{⊤}
use Rattle.std.proofs.Common.{Option, None, Some, Result, Ok, Err}
use native.Mathlib.Omega.{arith}
use lib.ListN.{drop, get_or, drop_of_length-le}
use borrow.Author.Tests.{lt-ltb, le-ltb}
use Rattle.model.specs.declared.Grant.{Grant}
use Rattle.model.specs.declared.Fault.{Fault}
use Rattle.model.specs.declared.Fault.TheVariants.{BadPool, Full}
use Rattle.model.specs.Values.{byte_values, Below}
use Rattle.model.specs.Answer.{accepted, refusal, outcome_answer}
use Rattle.model.specs.Refusal.{Cause, ◌if◌, Step, first_fault, refusing}
use Rattle.model.specs.Call.{request_of}
use Rattle.model.proofs.JudgedLaws.{none_of_iff}
use Rattle.model.proofs.RefusalLaws.{first_fault-append, first_fault-front}
use Rattle.pool.specs.Capacity.{capacity_of, wrong_length, length_capacity}
use Rattle.pool.specs.Fresh.{fresh_pool}
use Rattle.grants_file.specs.File.{total_in, grants_in}
use Rattle.grants_file.specs.Verdict.{file_causes, judging}
use Rattle.grants_file.specs.FileSets.{Accepted}
use Rattle.grants_file.proofs.FileLaws.{length-grants_in}
use Rattle.grants_file.proofs.GrantSteps.{answer-accepted, answer-refused}
use Rattle.calls.specs.Causes.{too_many_grants}
use Rattle.calls.specs.Order.{load_order}
use Rattle.calls.specs.FileCalls.{grant_all, load_call}
use Rattle.steps.specs.Insertions.{added, added_all}
use Rattle.calls.specs.Contract.{Leaves}
use Rattle.file_calls.proofs.AddedLaws.{file_added}
use Rattle.calls.proofs.RefusalSteps.{refused_by, first_holds, first_fails, none_left, leaves_as, length-refused, length_taken}

-- the grants from the i-th on
module _ (f : List ℕ) where
  pub added_more : (w : List ℕ) {left : List ℕ} (g : Grant) (i : ℕ) → drop i (grants_in f) ≡ g ∷ drop (i + 1) (grants_in f)
      → left ≡ added w (request_of g) → added_all left (drop (i + 1) (grants_in f)) ≡ added_all w (drop i (grants_in f))
  unfolding added_all
  added_more w g i e s = rw (e, s)

  pub added_all_lem : (w : List ℕ) (i : ℕ) → total_in f ≤ i → added_all w (drop i (grants_in f)) ≡ w
  unfolding added_all
  added_all_lem w i h = rw (drop_of_length-le (grants_in f) {i = i} (omega (arith, length-grants_in f)))

-- the bytes of a slice are below 256
bytes_below : (f : List ℕ) → ((i : ℕ) → get_or f i 0 < byte_values) → Below byte_values f
bytes_below [] h y x3 = elim x3 [ ]
bytes_below (x ∷ f) h y (Memᴰ.head e) = rw e (h 0)
bytes_below (x ∷ f) h y (Memᴰ.tail m) = bytes_below f (λ i. h (suc i)) y m

module _ {S : Type 0} (s : S) (lent : List ℕ) (done : Step S) (cs ds : List Cause) where
  row_holds : {f : Fault} → first_fault cs ≡ Some f → refusing (cs ++ ds) s lent done ≡ refused_by f s lent
  unfolding refusing
  row_holds e = rw (first_fault-front cs ds _ e)

  row_fails : first_fault cs ≡ None → refusing (cs ++ ds) s lent done ≡ refusing ds s lent done
  unfolding refusing
  row_fails e = rw (first_fault-append cs ds e)

module _ (w f : List ℕ) where
  -- what an accepted load gives
  abbrev loaded : Step (List ℕ)
  loaded = record { state = grant_all (fresh_pool (capacity_of w)) (grants_in f); answer = accepted []; lent = [] }

  abbrev last_cause : Cause
  last_cause = Full if too_many_grants w f

  module _ {o : Option ℕ} (e : o ≡ length_capacity w) where
    pub load_bad : o ≡ None → Leaves (refusal BadPool) w (load_call w f)
    unfolding load_call load_order
    load_bad z = leaves_as (first_holds w [] loaded _ _ (length-refused w e z))

    module _ {c : ℕ} (n : o ≡ Some c) where
      right : wrong_length w ≡ false
      right = (length_taken w e n).right

      module _ {v : Result ⊤ Fault} (verdict : outcome_answer v ≡ (judging (file_causes f) f).answer) where
        pub load_file : {x : Fault} → v ≡ Err x → Leaves (refusal x) w (load_call w f)
        unfolding load_call load_order
        load_file {x} r =
            let cause = answer-refused f x (sym verdict ∙ ap outcome_answer r) in
            leaves_as (first_fails w [] loaded _ _ right ∙ row_holds w [] loaded (file_causes f) _ cause)

        module _ (d : v ≡ Ok tt) where
          pub load-accepted : Accepted f
          load-accepted = answer-accepted f (sym verdict ∙ ap outcome_answer d)

          module _ {total : ℕ} (t : total ≡ total_in f) where
            pub load_full : c < total → Leaves (refusal Full) w (load_call w f)
            unfolding load_call load_order
            load_full many =
                let cells = (length_taken w e n).capacity in
                leaves_as
                (first_fails w [] loaded _ _ right
                ∙ row_fails w [] loaded (file_causes f) (last_cause ∷ []) ((none_of_iff (file_causes f)).0 load-accepted)
                ∙ first_holds w [] loaded _ _ (lt-ltb (capacity_of w) (total_in f) (omega (arith, cells, t, many))))

            pub load_done : total ≤ c → ((i : ℕ) → get_or f i 0 < byte_values) → {left : List ℕ} → left ≡ added_all (fresh_pool c) (grants_in f)
                → Leaves (accepted []) left (load_call w f)
            unfolding load_call load_order
            load_done few bytes made =
                let cells = (length_taken w e n).capacity in
                let taken = length_taken w e n in
                let same = file_added f (bytes_below f bytes) load-accepted c taken.sized.some taken.sized.few (omega (arith, t, few)) in
                rw (made, ← same, ← cells)
                (leaves_as
                (first_fails w [] loaded _ _ right
                ∙ row_fails w [] loaded (file_causes f) (last_cause ∷ []) ((none_of_iff (file_causes f)).0 load-accepted)
                ∙ first_fails w [] loaded _ _ (le-ltb (capacity_of w) (total_in f) (omega (arith, cells, t, few)))
                ∙ none_left w [] loaded))
