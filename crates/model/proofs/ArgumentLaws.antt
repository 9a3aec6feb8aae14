-- Laws of what is wrong in a request (specs/Arguments).
--   check_fault c                 the fault of what a check found
--   first_wrong-fault             the first thing wrong in a request stands for the first fault of its causes
--   request-numbered, request-kind, request_forward   what a request without faults has: a number above 0, a kind of 0 or 1, and a box that fault 2
--                                lets through
--   kind_of_kind_number, kind_number_kind_of       a kind's number gives the kind back, and a kind of 0 or 1 the number
--   requested-request_of, request_of-requested   a grant as a request is asked for that grant, and such a request is that of its grant
--   requested-faultless             the grant of a request without faults has none
-- Assumes nothing.
use Prim.Native.Nat.{ℕ, zero, suc, ◌≤◌}
use mathlib.Core.Path.{◌≡◌, refl, sym, subst}
use mathlib.Core.Bool.{Bool, true, false, cond}
use mathlib.Core.List.{List, [], ◌∷◌, map}
use Rattle.std.proofs.Common.{Option, None, Some, Result, Ok, Err}
use Rattle.std.specs.Bool.{⊤}
use native.Mathlib.Omega.{arith}
use borrow.Author.Tests.{eqb-false, ltb-false}
use Rattle.model.specs.declared.Fault.{Fault}
use Rattle.model.specs.declared.Grant.{Grant}
use Rattle.model.specs.declared.Kind.{Kind}
use Rattle.model.specs.declared.Kind.TheVariants.{Bars, Opens}
use Rattle.model.specs.declared.RequestFault.{RequestFault}
use Rattle.model.specs.Kind.{kind_number, kind_of}
use Rattle.model.specs.Call.{Request, requested, request_of}
use Rattle.model.specs.Refusal.{◌if◌, first_fault}
use Rattle.model.specs.Judged.{NoneOf, none_more}
use Rattle.model.specs.Arguments.{reversed_box, wrong_in, fault_of, request_causes, first_wrong}

-- the fault of what a check found
abbrev pub check_fault : Result ⊤ RequestFault → Option Fault
check_fault (Ok done) = None
check_fault (Err x) = Some (fault_of x)

pub first_wrong-fault : (r : Request) (xs : List RequestFault) → check_fault (first_wrong r xs) ≡ first_fault (map (λ x. fault_of x if wrong_in r x) xs)
unfolding first_wrong first_fault
first_wrong-fault r [] = refl
first_wrong-fault r (x ∷ xs) = go (wrong_in r x) (first_wrong-fault r xs)
  where
    go : (b : Bool) → check_fault (first_wrong r xs) ≡ first_fault (map (λ y. fault_of y if wrong_in r y) xs)
        → check_fault (cond b (Err x) (first_wrong r xs)) ≡ cond b (Some (fault_of x)) (first_fault (map (λ y. fault_of y if wrong_in r y) xs))
    go true rest = refl
    go false rest = rest

pub request-numbered : (r : Request) → NoneOf (request_causes r) → 1 ≤ r.number
request-numbered r (none_more p rest) = let some = eqb-false r.number 0 p in omega arith

pub request-kind : (r : Request) → NoneOf (request_causes r) → r.kind ≤ 1
request-kind r (none_more p (none_more q rest)) = ltb-false 1 r.kind q

pub request_forward : (r : Request) → NoneOf (request_causes r) → reversed_box r.bounds ≡ false
request_forward r (none_more p (none_more q (none_more t rest))) = t

pub kind_of_kind_number : (k : Kind) → kind_of (kind_number k) ≡ k
kind_of_kind_number Bars = refl
kind_of_kind_number Opens = refl

pub kind_number_kind_of : (n : ℕ) → n ≤ 1 → kind_number (kind_of n) ≡ n
kind_number_kind_of zero h = refl
kind_number_kind_of (suc zero) h = refl
kind_number_kind_of (suc (suc n)) h = absurd (omega arith)

pub requested-request_of : (g : Grant) → requested (request_of g) ≡ g
requested-request_of g = λ i. record { number = g.number; rank = g.rank; kind = kind_of_kind_number g.kind i; bounds = g.bounds }

pub request_of-requested : (r : Request) → r.kind ≤ 1 → request_of (requested r) ≡ r
request_of-requested r h = λ i. record { number = r.number; rank = r.rank; kind = kind_number_kind_of r.kind h i; bounds = r.bounds }

pub requested-faultless : (r : Request) → NoneOf (request_causes r) → NoneOf (request_causes (request_of (requested r)))
requested-faultless r faultless = subst (λ (x : Request). NoneOf (request_causes x)) (sym (request_of-requested r (request-kind r faultless))) faultless
