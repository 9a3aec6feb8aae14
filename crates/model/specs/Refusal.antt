-- How a call is refused (document 01, "Faults": the order line, and "a refusal changes nothing").
--   Cause                       a fault, and whether its cause holds
--   first_fault causes           the fault of the first cause that holds
--   Step S                      what a call gives: its answer, the state after it, the lent memory after it
--   refusing causes s lent d    the first cause that holds answers and leaves s and lent as they were; else d
-- Assumes nothing: these are definitions.
use Rattle.std.specs.Prelude.{ℕ, Bool, cond, List, [], ◌∷◌, Option, None, Some}
use Rattle.model.specs.declared.Fault.{Fault}
use Rattle.model.specs.Answer.{Answer, refusal}

pub record Cause : Type 0 where
  pub fault : Fault
  pub present : Bool

infix 70 ◌if◌
abbrev pub ◌if◌ : Fault → Bool → Cause
f if b = record { fault = f; present = b }

pub record Step (S : Type 0) : Type 0 where
  pub state : S
  pub answer : Answer
  pub lent : List ℕ

unfoldable pub first_fault : List Cause → Option Fault
first_fault [] = None
first_fault (c ∷ cs) = cond c.present (Some c.fault) (first_fault cs)

abbrev pub step_by : {S : Type 0} → Option Fault → S → List ℕ → Step S → Step S
step_by None s lent done = done
step_by (Some f) s lent done = record { state = s; answer = refusal f; lent = lent }

unfoldable pub refusing : {S : Type 0} → List Cause → S → List ℕ → Step S → Step S
refusing causes s lent done = step_by (first_fault causes) s lent done
