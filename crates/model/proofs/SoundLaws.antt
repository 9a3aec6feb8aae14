-- Answers that are neither fault 1 nor fault 9.
--   sound_number n, sound_answer a, sound_cause c    tests: of a fault's number, of an answer, of a cause, which may also be absent
--   sound_answer_lem                  what the test of an answer says
--   refusing_sound                a call whose line has only such causes answers so
-- Assumes nothing.
use Prim.Native.Nat.{ℕ}
use mathlib.Core.Logic.{◌≢◌}
use mathlib.Core.Path.{◌≡◌, refl, sym, ap, ◌∙◌}
use mathlib.Core.Bool.{Bool, true, false, not, cond, ◌&&◌, ◌||◌, and-eq-true_iff, or-false, false≢true}
use mathlib.Core.List.{List, [], ◌∷◌}
use Rattle.std.proofs.Common.{Option, None, Some}
use native.Mathlib.Omega.{arith}
use lib.Dec.{eqb}
use Rattle.lists.specs.Tests.{every}
use Rattle.model.specs.declared.Fault.{Fault}
use Rattle.model.specs.declared.Fault.TheVariants.{BadPool, BrokenLinks}
use Rattle.model.specs.Fault.{fault_number}
use Rattle.model.specs.Answer.{Answer, accepted, refused, refusal}
use Rattle.model.specs.Refusal.{Cause, Step, first_fault, step_by, refusing}

abbrev pub sound_number : ℕ → Bool
sound_number n = not (eqb n 1) && not (eqb n 9)

abbrev pub sound_answer : Answer → Bool
sound_answer (accepted values) = true
sound_answer (refused n values) = sound_number n

abbrev pub sound_cause : Cause → Bool
sound_cause c = sound_number (fault_number c.fault) || not c.present

pub sound_answer_lem : (a : Answer) → sound_answer a ≡ true → (a ≢ refusal BadPool) × (a ≢ refusal BrokenLinks)
sound_answer_lem a h = (λ e. false≢true (sym (ap sound_answer e) ∙ h), λ e. false≢true (sym (ap sound_answer e) ∙ h))

-- the first fault of such causes
first_sound : (cs : List Cause) → every sound_cause cs ≡ true → (f : Fault) → first_fault cs ≡ Some f → sound_number (fault_number f) ≡ true
unfolding every first_fault
first_sound [] e f q = absurd (let z : ◌≡◌ {A = ℕ} 0 1 = cc in omega arith)
first_sound (c ∷ cs) e f q =
    let both = (and-eq-true_iff (sound_cause c) (every sound_cause cs)).0 e in
    go c.present both.0 q (first_sound cs both.1 f)
  where
    go : (b : Bool) → (sound_number (fault_number c.fault) || not b) ≡ true → cond b (Some c.fault) (first_fault cs) ≡ Some f
        → (first_fault cs ≡ Some f → sound_number (fault_number f) ≡ true) → sound_number (fault_number f) ≡ true
    go true h i rest =
        let same : c.fault ≡ f = cc in
        ap (λ (x : Fault). sound_number (fault_number x)) (sym same) ∙ sym (or-false (sound_number (fault_number c.fault))) ∙ h
    go false h i rest = rest i

pub refusing_sound : {S : Type 0} (cs : List Cause) (s : S) (lent : List ℕ) (d : Step S) → every sound_cause cs ≡ true → sound_answer d.answer ≡ true
    → sound_answer (refusing cs s lent d).answer ≡ true
unfolding refusing
refusing_sound {S} cs s lent d e h = go (first_fault cs) (first_sound cs e)
  where
    go : (o : Option Fault) → ((f : Fault) → o ≡ Some f → sound_number (fault_number f) ≡ true) → sound_answer (step_by o s lent d).answer ≡ true
    go None k = h
    go (Some f) k = k f refl
