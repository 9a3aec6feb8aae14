-- Laws of the first defect (specs/Defects) and of the faults that defects stand for (specs/Verdict).
--   first_defect-append      the first of two rows: of the first row, or where that is sound of the second
--   first_defect-first       the first defect stands for the first fault
--   Clear cs                none of the defects is there
--   clear_nil, clear_cons, clear_parts    of a row none is there exactly if its first is not, nor one of the others
--   clear_front             defects that are not there may be left out in front
--   clear_append, clear_flat_map    of rows that are joined none is there exactly if none of each is
--   sound_accepted          a file in which nothing is wrong is accepted
--   outcome_of r             an outcome by what is wrong
--   answer-first, answer-defect    an answer by the first defect of a row, and the verdict's
--   judging-accepted, judging-refused   what an answer says of the causes by which bytes are judged
-- Assumes nothing.
use Prim.Native.Nat.{ℕ}
use mathlib.Core.Logic.{◌↔◌}
use mathlib.Core.Path.{◌≡◌, refl, sym, ap, ◌∙◌}
use mathlib.Core.Bool.{Bool, true, false, cond}
use mathlib.Core.List.{List, [], ◌∷◌, ◌++◌, flat_map, Memᴰ}
use Rattle.std.specs.Bool.{⊤}
use Rattle.std.proofs.Common.{Option, None, Some, Result, Ok, Err}
use Rattle.std.specs.Option.{option_map}
use Rattle.std.proofs.lemmas.List.{map-append}
use Rattle.std.specs.Result.{result_and, result_err, result_map_both}
use Rattle.model.specs.declared.Fault.{Fault}
use Rattle.model.specs.Answer.{accepted, refusal, outcome_answer}
use Rattle.model.specs.Refusal.{Cause, ◌if◌, first_fault, step_by, refusing}
use Rattle.model.proofs.AnswerLaws.{refusal_injective, refusal-accepted}
use Rattle.model.proofs.RefusalLaws.{causes_absent, first_fault-append, append_absent, accepted-none}
use Rattle.model.proofs.JudgedLaws.{none_of_iff}
use Rattle.grants_file.specs.declared.Defect.{Defect}
use Rattle.grants_file.specs.Defects.{DefectCause, file_defects, defect_fault, first_defect, defect_in}
use Rattle.grants_file.specs.Verdict.{causes_of, file_causes, judging}
use Rattle.grants_file.specs.FileSets.{Accepted}

pub first_defect-append : (cs ds : List DefectCause) → first_defect (cs ++ ds) ≡ result_and (first_defect cs) (first_defect ds)
unfolding first_defect
first_defect-append [] ds = refl
first_defect-append (c ∷ cs) ds = go c.present (first_defect-append cs ds)
  where
    go : (t : Bool) → first_defect (cs ++ ds) ≡ result_and (first_defect cs) (first_defect ds)
        → cond t (Err c.defect) (first_defect (cs ++ ds)) ≡ result_and (cond t (Err c.defect) (first_defect cs)) (first_defect ds)
    go true e = refl
    go false e = e

pub first_defect-first : (cs : List DefectCause) → option_map defect_fault (result_err (first_defect cs)) ≡ first_fault (causes_of cs)
unfolding first_defect first_fault causes_of
first_defect-first [] = refl
first_defect-first (c ∷ cs) = go c.present (first_defect-first cs)
  where
    go : (t : Bool) → option_map defect_fault (result_err (first_defect cs)) ≡ first_fault (causes_of cs)
        → option_map defect_fault (result_err (cond t (Err c.defect) (first_defect cs))) ≡ cond t (Some (defect_fault c.defect)) (first_fault (causes_of cs))
    go true e = refl
    go false e = e

abbrev pub Clear : List DefectCause → Type 0
Clear cs = first_fault (causes_of cs) ≡ None

pub clear_nil : Clear []
unfolding first_fault causes_of
clear_nil = refl

pub clear_parts : (c : DefectCause) (cs : List DefectCause) → Clear (c ∷ cs) → (c.present ≡ false) × Clear cs
unfolding causes_of
clear_parts c cs e = causes_absent (defect_fault c.defect if c.present) (causes_of cs) e

pub clear_cons : (c : DefectCause) (cs : List DefectCause) → c.present ≡ false → Clear cs → Clear (c ∷ cs)
unfolding first_fault causes_of
clear_cons c cs e h = rw e h

-- defects that are not there may be left out in front
pub clear_front : (cs ds : List DefectCause) → Clear cs → first_fault (causes_of (cs ++ ds)) ≡ first_fault (causes_of ds)
unfolding causes_of
clear_front cs ds h =
    ap first_fault (map-append (λ (c : DefectCause). defect_fault c.defect if c.present) cs ds)
    ∙ first_fault-append (causes_of cs) (causes_of ds) h

pub clear_append : (cs ds : List DefectCause) → Clear (cs ++ ds) ↔ (Clear cs × Clear ds)
unfolding causes_of
clear_append cs ds =
    let joined = map-append (λ (c : DefectCause). defect_fault c.defect if c.present) cs ds in (
      (λ e. append_absent (causes_of cs) (causes_of ds) (ap first_fault (sym joined) ∙ e)),
      (λ h. clear_front cs ds h.0 ∙ h.1),
    )

-- an outcome by what is wrong
abbrev pub outcome_of : Result ⊤ Defect → Result ⊤ Fault
outcome_of r = result_map_both (λ x. x) defect_fault r

module _ {A : Type 0} (g : A → List DefectCause) where
  each_clear : (xs : List A) → Clear (flat_map g xs) → (x : A) → Memᴰ x xs → Clear (g x)
  unfolding flat_map
  each_clear [] e x x4 = elim x4 [ ]
  each_clear (y ∷ ys) e x (Memᴰ.head q) = rw q ((clear_append (g y) (flat_map g ys)).0 e).0
  each_clear (y ∷ ys) e x (Memᴰ.tail m) = each_clear ys ((clear_append (g y) (flat_map g ys)).0 e).1 x m

  clear_each : (xs : List A) → ((x : A) → Memᴰ x xs → Clear (g x)) → Clear (flat_map g xs)
  unfolding flat_map
  clear_each [] h = clear_nil
  clear_each (y ∷ ys) h = (clear_append (g y) (flat_map g ys)).1 (h y (Memᴰ.head refl), clear_each ys (λ x m. h x (Memᴰ.tail m)))

  pub clear_flat_map : (xs : List A) → Clear (flat_map g xs) ↔ ((x : A) → Memᴰ x xs → Clear (g x))
  clear_flat_map xs = (each_clear xs, clear_each xs)

pub sound_accepted : (f : List ℕ) → Ok tt ≡ defect_in f → Accepted f
unfolding file_causes
sound_accepted f e = (none_of_iff (file_causes f)).1 (sym (first_defect-first (file_defects f)) ∙ rw (← e) refl)

module _ (f : List ℕ) where
  outcome_answer_lem : (r : Result ⊤ Defect)
      → outcome_answer (outcome_of r) ≡ (step_by (option_map defect_fault (result_err r)) f [] (record { state = f; answer = accepted []; lent = [] })).answer
  outcome_answer_lem (Ok x) = refl
  outcome_answer_lem (Err x) = refl

  -- an answer by the first defect of a row
  pub answer-first : (cs : List DefectCause) {r : Result ⊤ Defect} → r ≡ first_defect cs
      → outcome_answer (outcome_of r) ≡ (judging (causes_of cs) f).answer
  unfolding refusing
  answer-first cs {r} e = rw (← first_defect-first cs, ← e) (outcome_answer_lem r)

  pub answer-defect : {r : Result ⊤ Defect} → r ≡ defect_in f → outcome_answer (outcome_of r) ≡ (judging (file_causes f) f).answer
  unfolding file_causes
  answer-defect e = answer-first (file_defects f) e

  -- what an answer says of the causes
  pub judging-accepted : (cs : List Cause) → (judging cs f).answer ≡ accepted [] → first_fault cs ≡ None
  judging-accepted cs e = accepted-none cs f [] _ [] e

  pub judging-refused : (cs : List Cause) (x : Fault) → (judging cs f).answer ≡ refusal x → first_fault cs ≡ Some x
  unfolding refusing
  judging-refused cs x = go (first_fault cs)
    where
      go : (o : Option Fault) → (step_by o f [] (record { state = f; answer = accepted []; lent = [] })).answer ≡ refusal x → o ≡ Some x
      go None e = absurd (refusal-accepted x [] (sym e))
      go (Some y) e = ap Some (refusal_injective y x e)
