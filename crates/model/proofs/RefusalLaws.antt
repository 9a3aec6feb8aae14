-- Laws of `first_fault` (specs/Refusal) over causes in a row.
--   causes_absent                  where no cause holds, the first does not, and none of the others
--   first_fault-append              causes of which none holds may be left out in front
--   first_fault-behind              causes with the same first fault may stand for each other behind others
--   first_fault-front               what comes after a cause that holds does not matter
--   append_absent                  where none of two rows of causes holds, none of either does
--   refusing-front                 the answer of a call whose line has a cause, and then causes of which one holds
--   accepted-none, accepted_done   a call that is accepted met no cause, and did what an accepted call does
-- Assumes nothing.
use Prim.Native.Nat.{ℕ}
use mathlib.Core.Path.{◌≡◌, refl, ap}
use mathlib.Core.Bool.{Bool, true, false, cond}
use mathlib.Core.List.{List, [], ◌∷◌, ◌++◌}
use Rattle.std.proofs.Common.{Option, None, Some}
use native.Mathlib.Omega.{arith}
use Rattle.model.specs.declared.Fault.{Fault}
use Rattle.model.specs.Answer.{accepted, refusal}
use Rattle.model.specs.Refusal.{Cause, Step, first_fault, step_by, refusing}
use Rattle.model.proofs.AnswerLaws.{refusal-accepted}

pub causes_absent : (c : Cause) (cs : List Cause) → first_fault (c ∷ cs) ≡ None → (c.present ≡ false) × (first_fault cs ≡ None)
unfolding first_fault
causes_absent c cs e = go c.present e
  where
    go : (b : Bool) → cond b (Some c.fault) (first_fault cs) ≡ None → (b ≡ false) × (first_fault cs ≡ None)
    go true e = let z : ◌≡◌ {A = ℕ} 0 1 = cc in absurd (omega arith)
    go false e = (refl, e)

pub first_fault-append : (cs ds : List Cause) → first_fault cs ≡ None → first_fault (cs ++ ds) ≡ first_fault ds
unfolding first_fault
first_fault-append [] ds e = refl
first_fault-append (c ∷ cs) ds e = let absent = causes_absent c cs e in rw absent.0 (first_fault-append cs ds absent.1)

pub first_fault-behind : (cs ds es : List Cause) → first_fault ds ≡ first_fault es → first_fault (cs ++ ds) ≡ first_fault (cs ++ es)
unfolding first_fault
first_fault-behind [] ds es e = e
first_fault-behind (c ∷ cs) ds es e = ap (cond c.present (Some c.fault)) (first_fault-behind cs ds es e)

pub first_fault-front : (cs ds : List Cause) (f : Fault) → first_fault cs ≡ Some f → first_fault (cs ++ ds) ≡ Some f
unfolding first_fault
first_fault-front [] ds f e = let z : ◌≡◌ {A = ℕ} 0 1 = cc in absurd (omega arith)
first_fault-front (c ∷ cs) ds f e = go c.present e (first_fault-front cs ds f)
  where
    go : (b : Bool) → cond b (Some c.fault) (first_fault cs) ≡ Some f → (first_fault cs ≡ Some f → first_fault (cs ++ ds) ≡ Some f)
        → cond b (Some c.fault) (first_fault (cs ++ ds)) ≡ Some f
    go true e rest = e
    go false e rest = rest e

pub append_absent : (cs ds : List Cause) → first_fault (cs ++ ds) ≡ None → (first_fault cs ≡ None) × (first_fault ds ≡ None)
unfolding first_fault
append_absent [] ds e = (refl, e)
append_absent (c ∷ cs) ds e =
    let absent = causes_absent c (cs ++ ds) e in
    let both = append_absent cs ds absent.1 in
    (rw absent.0 both.0, both.1)

pub refusing-front : {S : Type 0} (c : Cause) (cs ds : List Cause) (s : S) (lent : List ℕ) (d : Step S) (f : Fault) → first_fault cs ≡ Some f
    → (refusing (c ∷ cs ++ ds) s lent d).answer ≡ cond c.present (refusal c.fault) (refusal f)
unfolding refusing first_fault
refusing-front c cs ds s lent d f e = rw (first_fault-front cs ds f e) (go c.present)
  where
    go : (b : Bool) → (step_by (cond b (Some c.fault) (Some f)) s lent d).answer ≡ cond b (refusal c.fault) (refusal f)
    go true = refl
    go false = refl

pub accepted-none : {S : Type 0} (cs : List Cause) (s : S) (lent : List ℕ) (d : Step S) (values : List ℕ) → (refusing cs s lent d).answer ≡ accepted values
    → first_fault cs ≡ None
unfolding refusing
accepted-none {S} cs s lent d values = go (first_fault cs)
  where
    go : (o : Option Fault) → (step_by o s lent d).answer ≡ accepted values → o ≡ None
    go None e = refl
    go (Some f) e = absurd (refusal-accepted f values e)

pub accepted_done : {S : Type 0} (cs : List Cause) (s : S) (lent : List ℕ) (d : Step S) (values : List ℕ) → (refusing cs s lent d).answer ≡ accepted values
    → refusing cs s lent d ≡ d
unfolding refusing
accepted_done cs s lent d values e = rw (accepted-none cs s lent d values e)
