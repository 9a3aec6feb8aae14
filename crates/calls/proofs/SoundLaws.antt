-- On words that stand for a plain book no call meets fault 1 or fault 9, whatever it is asked.
--   call_sound                  the calls of demand 3's lists
--   write_sound, match_sound    write and match
-- Assumes nothing.
use Prim.Native.Nat.{ℕ, min}
use mathlib.Core.Path.{◌≡◌, refl, ap, ◌∙◌}
use mathlib.Core.Bool.{Bool, true, false, cond}
use mathlib.Core.List.{List, [], ◌∷◌}
use Rattle.std.proofs.Common.{Some, Ok}
use Rattle.lists.specs.Tests.{every}
use Rattle.lists.proofs.EveryLaws.{every_append}
use Rattle.model.specs.declared.Grant.{Grant}
use Rattle.model.specs.Interval.{Interval}
use Rattle.model.specs.Grant.{same_grant}
use Rattle.model.specs.Answer.{matched_answer}
use Rattle.model.specs.Refusal.{◌if◌}
use Rattle.model.specs.Book.{Book}
use Rattle.model.specs.Call.{Call}
use Rattle.model.specs.Values.{CallFits}
use Rattle.model.specs.Histories.{Response}
use Rattle.model.proofs.SoundLaws.{sound_answer, sound_cause, refusing_sound}
use Rattle.model.proofs.BookLaws.{book_step_sound}
use Rattle.grants_file.specs.declared.Defect.{Defect}
use Rattle.grants_file.specs.declared.Defect.TheVariants.{Length, Checksum, Mark, BlockNumber, TooManyGrants, BlockCount}
use Rattle.grants_file.specs.declared.Defect.TheVariants.{RecordCount, DoorOrder, Padding, Record}
use Rattle.grants_file.specs.File.{doors_in, grants_in}
use Rattle.grants_file.specs.Defects.{DefectCause, file_defects, defect_fault}
use Rattle.grants_file.specs.Verdict.{causes_of, file_causes}
use Rattle.calls.specs.Order.{write_order, match_order}
use Rattle.calls.specs.FileCalls.{touching_grants, write_call, first_difference, match_call}
use Rattle.calls.specs.Calls.{words_step}
use Rattle.calls.proofs.Represents.{Represents, represents_pool}
use Rattle.calls.proofs.CallLaws.{call_refines}
use Rattle.calls.proofs.WriteLaws.{touching-found}

pub call_sound : {w : List ℕ} {b : Book} → Represents w b → (c : Call) → CallFits c → sound_answer (words_step w c).answer ≡ true
call_sound {w} {b} h c fits = ap (λ (t : Response). sound_answer t.answer) (call_refines w b c fits h).same ∙ book_step_sound b c

pub write_sound : {w : List ℕ} {b : Book} → Represents w b → (doors : Interval) (lent : List ℕ) → sound_answer (write_call w doors lent).answer ≡ true
unfolding write_call write_order every
write_sound {w} h doors lent = refusing_sound _ w lent _ (rw (represents_pool h, (touching-found h doors).whole)) refl

-- the faults that defects stand for are 10 to 13
defect_sound : (x : Defect) (t : Bool) → sound_cause (defect_fault x if t) ≡ true
defect_sound Length t = refl
defect_sound (Checksum i) t = refl
defect_sound (Mark i older) t = refl
defect_sound (BlockNumber i) t = refl
defect_sound (TooManyGrants total) t = refl
defect_sound (BlockCount total blocks) t = refl
defect_sound (RecordCount i) t = refl
defect_sound (DoorOrder from to) t = refl
defect_sound (Padding i) t = refl
defect_sound (Record i k number wrong) t = refl

causes_sound : (cs : List DefectCause) → every sound_cause (causes_of cs) ≡ true
unfolding every causes_of
causes_sound [] = refl
causes_sound (c ∷ cs) = rw (defect_sound c.defect c.present) (causes_sound cs)

file_sound : (f : List ℕ) → every sound_cause (file_causes f) ≡ true
unfolding file_causes
file_sound f = causes_sound (file_defects f)

difference_sound : (gs hs : List Grant) → sound_answer (matched_answer (Ok (first_difference gs hs))) ≡ true
unfolding first_difference
difference_sound [] [] = refl
difference_sound [] (h ∷ hs) = refl
difference_sound (g ∷ gs) [] = refl
difference_sound (g ∷ gs) (h ∷ hs) = go (same_grant g h) (difference_sound gs hs)
  where
    go : (b : Bool) → sound_answer (matched_answer (Ok (first_difference gs hs))) ≡ true
        → sound_answer (matched_answer (Ok (cond b (first_difference gs hs) (Some (min g.number h.number))))) ≡ true
    go true e = e
    go false e = refl

pub match_sound : {w : List ℕ} {b : Book} → Represents w b → (f : List ℕ) → sound_answer (match_call w f).answer ≡ true
unfolding match_call match_order every
match_sound {w} h f =
    let doors = doors_in f in
    refusing_sound _ w [] _
    (rw (represents_pool h, (touching-found h doors).whole) (every_append sound_cause (file_causes f) _ (file_sound f) refl))
    (difference_sound (touching_grants w doors) (grants_in f))
