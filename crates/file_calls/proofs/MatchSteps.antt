-- What match answers, test by test.
--   file_taken                             a file whose verdict is that it is done is accepted
--   match_bad, match_file, match_broken    the refusals, in their order: the pool's, the file's, the search's
--   match_done                             equal, or where the sorted grants of the hits and the file's differ first
-- Assumes nothing.
use Prim.Native.Nat.{ℕ}
use mathlib.Core.Path.{◌≡◌, sym, ap, ◌∙◌}
use mathlib.Core.List.{List, [], ◌∷◌}
use Rattle.std.specs.Bool.{⊤}
use Rattle.std.proofs.Common.{Option, None, Some, Result, Ok, Err}
use lib.ListN.{take}
use Rattle.lists.specs.Sort.{sort_by}
use Rattle.model.specs.declared.Grant.{Grant}
use Rattle.model.specs.declared.Fault.{Fault}
use Rattle.model.specs.declared.Fault.TheVariants.{BadPool, BrokenLinks}
use Rattle.model.specs.declared.Interval.{Interval}
use Rattle.adt.specs.declared.Broken.{Broken}
use Rattle.model.specs.Answer.{refusal, outcome_answer, matched_answer}
use Rattle.model.specs.Refusal.{◌if◌, Step, step_by, refusing}
use Rattle.model.proofs.JudgedLaws.{none_of_iff}
use Rattle.model.proofs.RefusalLaws.{first_fault-append}
use Rattle.geometry.specs.Region.{Region}
use Rattle.geometry.specs.SearchRange.{range_of_doors}
use Rattle.geometry.specs.Point.{in_range}
use Rattle.pool.specs.Capacity.{pool_capacity}
use Rattle.grants_file.specs.File.{doors_in, grants_in}
use Rattle.grants_file.specs.Verdict.{file_causes, judging}
use Rattle.grants_file.specs.FileSets.{Accepted}
use Rattle.grants_file.proofs.GrantSteps.{answer-accepted, answer-refused}
use Rattle.calls.specs.Walks.{door_search, is_broken}
use Rattle.steps.specs.Hits.{HitsFound, grants_at}
use Rattle.calls.specs.Order.{match_order}
use Rattle.calls.specs.FileCalls.{touching_grants, first_difference, match_call}
use Rattle.steps.proofs.HitsLaws.{broken-search, found-hits}
use Rattle.calls.proofs.MatchLaws.{match_refuses}
use Rattle.calls.proofs.RefusalSteps.{first_holds, first_fails, none_left, leaves_as, pool_refused, pool_taken}
use Rattle.steps.specs.SortKeys.{number_in}
use Rattle.steps.proofs.SortedCellLaws.{touching-sorted}

pub file_taken : (f : List ℕ) {v : Result ⊤ Fault} → outcome_answer v ≡ (judging (file_causes f) f).answer → v ≡ Ok tt → Accepted f
file_taken f v d = answer-accepted f (sym v ∙ ap outcome_answer d)

module _ (w f : List ℕ) where
  -- what match gives where nothing refuses it
  abbrev compared : Step (List ℕ)
  compared = record { state = w; answer = matched_answer (Ok (first_difference (touching_grants w (doors_in f)) (grants_in f))); lent = [] }

  module _ {o : Option ℕ} (e : o ≡ pool_capacity w) where
    pub match_bad : o ≡ None → refusal BadPool ≡ (match_call w f).answer
    unfolding match_call match_order
    match_bad z = (leaves_as (first_holds w [] compared _ _ (pool_refused w e z))).answered

    module _ {c : ℕ} (n : o ≡ Some c) where
      pub match_file : {v : Result ⊤ Fault} → outcome_answer v ≡ (judging (file_causes f) f).answer → {x : Fault} → v ≡ Err x
          → refusal x ≡ (match_call w f).answer
      match_file v {x} r =
          sym (match_refuses w f x (answer-refused f x (sym v ∙ ap outcome_answer r)) ∙ rw (pool_taken w e n).right)

      module _ (a : Accepted f) where
        -- the search alone can refuse yet
        left : match_call w f ≡ refusing (BrokenLinks if is_broken (door_search w (doors_in f)) ∷ []) w [] compared
        unfolding match_call match_order refusing
        left =
            first_fails w [] compared _ _ (pool_taken w e n).right
            ∙ ap (λ (o : Option Fault). step_by o w [] compared)
            (first_fault-append (file_causes f) (BrokenLinks if is_broken (door_search w (doors_in f)) ∷ [])
            ((none_of_iff (file_causes f)).0 a))

        module _ {doors : Interval} (read : doors ≡ doors_in f) {range : Region} (asked : range ≡ range_of_doors doors) where
          touching : range ≡ range_of_doors (doors_in f)
          touching = asked ∙ ap range_of_doors read

          module _ (h : List ℕ) {r : Result ℕ Broken} (hit : HitsFound w range (in_range range) h r) where
            pub match_broken : {b : Broken} → r ≡ Err b → refusal BrokenLinks ≡ (match_call w f).answer
            match_broken b = (leaves_as (left ∙ first_holds w [] compared _ _ (ap is_broken (broken-search w in_range touching h hit b)))).answered

            pub match_done : {found : ℕ} → r ≡ Ok found → {cells : List ℕ} {m : Option ℕ} → cells ≡ sort_by (number_in w) (take found h)
                → m ≡ first_difference (grants_at w cells) (grants_in f)
                → matched_answer (Ok m) ≡ (match_call w f).answer
            match_done b sorted e =
                let at = found-hits w in_range touching h hit b in
                ap (λ (d : Option ℕ). matched_answer (Ok d))
                (e ∙ ap (λ (gs : List Grant). first_difference gs (grants_in f)) (touching-sorted w (doors_in f) h at sorted))
                ∙ (leaves_as (left ∙ first_fails w [] compared _ _ at.unbroken ∙ none_left w [] compared)).answered
