-- How a call that refuses by an order line is judged (specs/Refusal, specs/Judged).
--   none_of_iff                  no cause of a line holds exactly if it has no first fault
--   refusing_judged             a call that refuses by its line, and else is accepted, is judged by that line
--   judged_same                 lines with the same first fault judge alike
--   refusing-keeps-state        a call that leaves the state when it is accepted leaves it always
-- Assumes nothing.
use Prim.Native.Nat.{ℕ}
use mathlib.Core.Logic.{◌↔◌}
use mathlib.Core.Path.{◌≡◌, refl, sym, ap, ◌∙◌}
use mathlib.Core.Bool.{Bool, true, false, cond}
use mathlib.Core.List.{List, [], ◌∷◌}
use Rattle.std.proofs.Common.{Option, None, Some}
use Rattle.std.proofs.lemmas.Option.{same_Some}
use native.Mathlib.Omega.{arith}
use Rattle.model.specs.declared.Fault.{Fault}
use Rattle.model.specs.Answer.{accepted, refusal}
use Rattle.model.specs.Refusal.{Cause, Step, first_fault, step_by, refusing}
use Rattle.model.specs.Judged.{FirstOf, first_here, first_later, NoneOf, none_end, none_more, Judged}
use Rattle.model.proofs.AnswerLaws.{refusal_injective, refusal-accepted}

none-some : {A : Type 0} {x : A} → Path (Option A) None (Some x) → ⊥
none-some e = let z : ◌≡◌ {A = ℕ} 0 1 = cc in omega arith

first_of_fault : {cs : List Cause} {f : Fault} → FirstOf cs f → first_fault cs ≡ Some f
unfolding first_fault
first_of_fault (first_here p q) = rw (p, q)
first_of_fault (first_later p r) = rw p (first_of_fault r)

fault_first_of : (cs : List Cause) (f : Fault) → first_fault cs ≡ Some f → FirstOf cs f
unfolding first_fault
fault_first_of [] f e = absurd (none-some e)
fault_first_of (c ∷ cs) f e = go c.present refl e (fault_first_of cs f)
  where
    go : (b : Bool) → c.present ≡ b → cond b (Some c.fault) (first_fault cs) ≡ Some f → (first_fault cs ≡ Some f → FirstOf cs f) → FirstOf (c ∷ cs) f
    go true p e rest = first_here p (same_Some c.fault f e)
    go false p e rest = first_later p (rest e)

none_of_none : {cs : List Cause} → NoneOf cs → first_fault cs ≡ None
unfolding first_fault
none_of_none none_end = refl
none_of_none (none_more p r) = rw p (none_of_none r)

none_none_of : (cs : List Cause) → first_fault cs ≡ None → NoneOf cs
unfolding first_fault
none_none_of [] e = none_end
none_none_of (c ∷ cs) e = go c.present refl e (none_none_of cs)
  where
    go : (b : Bool) → c.present ≡ b → cond b (Some c.fault) (first_fault cs) ≡ None → (first_fault cs ≡ None → NoneOf cs) → NoneOf (c ∷ cs)
    go true p e rest = absurd (none-some (sym e))
    go false p e rest = none_more p (rest e)

pub none_of_iff : (cs : List Cause) → NoneOf cs ↔ (first_fault cs ≡ None)
none_of_iff cs = (none_of_none, none_none_of cs)

module _ {S : Type 0} (cs : List Cause) (s : S) (lent : List ℕ) (done : Step S) where
  pub refusing_judged : (values : List ℕ) → done.answer ≡ accepted values → Judged cs s lent (refusing cs s lent done)
  unfolding refusing
  refusing_judged values taken = go (first_fault cs) refl
    where
      go : (o : Option Fault) → first_fault cs ≡ o → Judged cs s lent (step_by o s lent done)
      go None e =
          record {
            refuses = λ f.
                (λ r. absurd (refusal-accepted f values (sym r ∙ taken)), λ r. absurd (none-some (sym e ∙ first_of_fault r)));
            accepts = (λ r. none_none_of cs e, λ r. (values, taken));
            keeps = λ f r. absurd (refusal-accepted f values (sym r ∙ taken));
          }
      go (Some g) e =
          record {
            refuses = λ f. (
              λ r. fault_first_of cs f (e ∙ ap Some (refusal_injective g f r)),
              λ r. ap refusal (same_Some g f (sym e ∙ first_of_fault r)),
            );
            accepts = (λ r. absurd (refusal-accepted g r.0 r.1), λ r. absurd (none-some (sym (none_of_none r) ∙ e)));
            keeps = λ f r. (refl, refl);
          }

  pub refusing-keeps-state : done.state ≡ s → (refusing cs s lent done).state ≡ s
  unfolding refusing
  refusing-keeps-state kept = go (first_fault cs)
    where
      go : (o : Option Fault) → (step_by o s lent done).state ≡ s
      go None = kept
      go (Some f) = refl

pub judged_same : {S : Type 0} (cs ds : List Cause) (s : S) (lent : List ℕ) (r : Step S) → first_fault cs ≡ first_fault ds
    → Judged cs s lent r → Judged ds s lent r
judged_same cs ds s lent r same j =
    record {
      refuses = λ f.
          (λ e. fault_first_of ds f (sym same ∙ first_of_fault ((j.refuses f).0 e)), λ e. (j.refuses f).1 (fault_first_of cs f (same ∙ first_of_fault e)));
      accepts = (λ e. none_none_of ds (sym same ∙ none_of_none (j.accepts.0 e)), λ e. j.accepts.1 (none_none_of cs (same ∙ none_of_none e)));
      keeps = j.keeps;
    }
