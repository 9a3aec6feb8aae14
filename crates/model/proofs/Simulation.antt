-- From one call to a list of calls: a relation that each call keeps gives equal answers over every list (specs/Histories).
--   Agrees R x y        the steps x and y have one response, and leave states that R relates
--   refusing-agrees     two calls whose first fault is the same agree, if they do where neither is refused
--   accepting_agrees    a call that meets no fault agrees with what its step, accepted, agrees with
--   calls_refine        two machines whose calls agree have the same responses to every list of calls, and end in related states
-- Assumes nothing: that each call keeps R is a parameter.
use Prim.Native.Nat.{ℕ}
use mathlib.Core.Path.{◌≡◌, refl, ap₂}
use mathlib.Core.List.{List, [], ◌∷◌, Memᴰ}
use Rattle.std.proofs.Common.{Option, None, Some}
use Rattle.model.specs.declared.Fault.{Fault}
use Rattle.model.specs.Refusal.{Cause, Step, first_fault, step_by, refusing}
use Rattle.model.specs.Call.{Call}
use Rattle.model.specs.Histories.{Response, response_of, responses, after}

pub record Agrees {W S : Type 0} (R : W → S → Type 0) (x : Step W) (y : Step S) : Type 0 where
  pub same : response_of x ≡ response_of y
  pub related : R x.state y.state

pub refusing-agrees : {W S : Type 0} (R : W → S → Type 0) {w : W} {s : S} (cs ds : List Cause) (lent : List ℕ) (x : Step W) (y : Step S) → R w s
    → first_fault cs ≡ first_fault ds → (first_fault ds ≡ None → Agrees R x y) → Agrees R (refusing cs w lent x) (refusing ds s lent y)
unfolding refusing
refusing-agrees R {w} {s} cs ds lent x y r e f = rw e (go (first_fault ds) f)
  where
    go : (o : Option Fault) → (o ≡ None → Agrees R x y) → Agrees R (step_by o w lent x) (step_by o s lent y)
    go None f = f refl
    go (Some fault) f = record { same = refl; related = r }

pub accepting_agrees : {W S : Type 0} (R : W → S → Type 0) (cs : List Cause) (w : W) (lent : List ℕ) (x : Step W) (y : Step S) → first_fault cs ≡ None
    → Agrees R x y → Agrees R (refusing cs w lent x) y
unfolding refusing
accepting_agrees R cs w lent x y e a = rw e a

module _ {W S : Type 0} (concrete : W → Call → Step W) (model : S → Call → Step S) (R : W → S → Type 0) (Fits : Call → Type 0)
    (call-refines : (w : W) (s : S) (c : Call) → Fits c → R w s → Agrees R (concrete w c) (model s c)) where
  pub calls_refine : (w : W) (s : S) (cs : List Call) → ((c : Call) → Memᴰ c cs → Fits c) → R w s
      → (responses concrete w cs ≡ responses model s cs) × R (after concrete w cs) (after model s cs)
  unfolding responses after
  calls_refine w s [] fit r = (refl, r)
  calls_refine w s (c ∷ cs) fit r =
      let a = call-refines w s c (fit c (Memᴰ.head refl)) r in
      let rest = calls_refine (concrete w c).state (model s c).state cs (λ d m. fit d (Memᴰ.tail m)) a.related in
      (ap₂ (λ (x : Response) (xs : List Response). x ∷ xs) a.same rest.0, rest.1)
