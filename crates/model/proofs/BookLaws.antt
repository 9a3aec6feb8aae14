-- What every step of the plain book keeps, and what it never answers.
--   book_step-capacity                      C stays
--   book_step_sound                         neither fault 1 nor fault 9
--   book_list_writes                        what an accepted list wrote
--   book_list-same, book_decide-same         what list tells goes by the grants taken alone, and decide by those that overlap
-- Assumes nothing.
use Prim.Native.Nat.{ℕ}
use mathlib.Core.Path.{◌≡◌, refl, ap, ◌∙◌}
use mathlib.Core.Bool.{true}
use mathlib.Core.List.{List, [], ◌∷◌, map}
use Rattle.std.proofs.Common.{Option, None, Some, Ok}
use lib.ListN.{length, take}
use lib.Seq.{take_at}
use Rattle.lists.specs.Tests.{every}
use Rattle.lists.specs.Overwrite.{overwrite}
use Rattle.model.specs.declared.Fault.{Fault}
use Rattle.model.specs.declared.Kind.{Kind}
use Rattle.model.specs.declared.Kind.TheVariants.{Bars, Opens}
use Rattle.model.specs.declared.Box.{Box}
use Rattle.model.specs.declared.Grant.{Grant}
use Rattle.model.specs.declared.Choice.{Choice}
use Rattle.model.specs.Box.{point_box}
use Rattle.model.specs.Answer.{accepted, decision_answer}
use Rattle.model.specs.Refusal.{Cause, Step, first_fault, step_by, refusing}
use Rattle.model.specs.Decide.{deciding_of, decision_of, decide_among}
use Rattle.model.specs.Call.{Call, grant, revoke, list, decide, count}
use Rattle.model.specs.Book.{Book, overlapping, taken_for, book_grant, book_revoke, book_list, book_decide, book_count, book_step}
use Rattle.model.specs.Histories.{response_of}
use Rattle.model.proofs.RefusalLaws.{accepted_done}
use Rattle.model.proofs.Simulation.{Agrees, refusing-agrees}
use Rattle.model.proofs.SoundLaws.{sound_answer, refusing_sound}

refusing-capacity : (cs : List Cause) (b : Book) (lent : List ℕ) (d : Step Book) → d.state.capacity ≡ b.capacity
    → (refusing cs b lent d).state.capacity ≡ b.capacity
unfolding refusing
refusing-capacity cs b lent d e = go (first_fault cs)
  where
    go : (o : Option Fault) → (step_by o b lent d).state.capacity ≡ b.capacity
    go None = e
    go (Some f) = refl

pub book_step-capacity : (b : Book) (c : Call) → (book_step b c).state.capacity ≡ b.capacity
unfolding book_step book_grant book_revoke book_list book_decide book_count
book_step-capacity b (grant r) = refusing-capacity _ b [] _ refl
book_step-capacity b (revoke n) = refusing-capacity _ b [] _ refl
book_step-capacity b (list q choice lent) = refusing-capacity _ b lent _ refl
book_step-capacity b (decide staff door quarter) = refl
book_step-capacity b count = refl

decision_sound : (k : Kind) (g : Grant) → sound_answer (decision_answer (Ok (decision_of k g))) ≡ true
decision_sound Bars g = refl
decision_sound Opens g = refl

pub decide_among_sound : (gs : List Grant) → sound_answer (decision_answer (Ok (decide_among gs))) ≡ true
unfolding decide_among
decide_among_sound [] = refl
decide_among_sound (g ∷ gs) = decision_sound (deciding_of g gs).kind (deciding_of g gs)

pub book_step_sound : (b : Book) (c : Call) → sound_answer (book_step b c).answer ≡ true
unfolding book_step book_grant book_revoke book_list book_decide book_count every
book_step_sound b (grant r) = refusing_sound _ b [] _ refl refl
book_step_sound b (revoke n) = refusing_sound _ b [] _ refl refl
book_step_sound b (list q choice lent) = refusing_sound _ b lent _ refl refl
book_step_sound b (decide staff door quarter) = decide_among_sound (overlapping (point_box staff door quarter) b.live)
book_step_sound b count = refl

abbrev grant_number : Grant → ℕ
grant_number g = g.number

pub book_list_writes : (b : Book) (q : Box) (choice : Choice) (lent : List ℕ) (n : ℕ) → (book_list b q choice lent).answer ≡ accepted (n ∷ [])
    → take n (book_list b q choice lent).lent ≡ map grant_number (taken_for q choice b.live)
unfolding book_list overwrite
book_list_writes b q choice lent n taken =
    let numbers = map grant_number (taken_for q choice b.live) in
    let done = accepted_done _ b lent _ (n ∷ []) taken in
    let count : length numbers ≡ n = cc in
    ap (λ (r : Step Book). take n r.lent) done ∙ take_at numbers _ n count

module _ (b d : Book) where
  pub book_list-same : (q : Box) (choice : Choice) (lent : List ℕ) → taken_for q choice b.live ≡ taken_for q choice d.live
      → response_of (book_list b q choice lent) ≡ response_of (book_list d q choice lent)
  unfolding book_list
  book_list-same q choice lent same =
      let agrees : Agrees (λ (x y : Book). Unit {0}) (book_list b q choice lent) (book_list d q choice lent) =
      refusing-agrees (λ (x y : Book). Unit {0}) _ _ lent _ _ tt (rw same) (λ none. record { same = rw same; related = tt }) in
      agrees.same

  pub book_decide-same : (staff door quarter : ℕ) → overlapping (point_box staff door quarter) b.live ≡ overlapping (point_box staff door quarter) d.live
      → response_of (book_decide b staff door quarter) ≡ response_of (book_decide d staff door quarter)
  unfolding book_decide
  book_decide-same staff door quarter same = rw same
