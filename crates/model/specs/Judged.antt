-- How an order line judges a call (document 01, "Faults"): the first cause that holds answers.
--   FirstOf causes f     f's cause holds, and none before it in the line does
--   NoneOf causes        none holds
--   Judged causes s lent r   the step r, from the state s and the lent memory, carries a fault exactly if it is the first of the line
--                        that holds, is accepted exactly if none holds, and a refusal leaves s and lent as they were
-- Assumes nothing: these are definitions.
use Rattle.std.specs.Prelude.{ℕ, ◌↔◌, ◌≡◌, true, false, List, [], ◌∷◌}
use Rattle.model.specs.declared.Fault.{Fault}
use Rattle.model.specs.Answer.{accepted, refusal}
use Rattle.model.specs.Refusal.{Cause, Step}

pub data FirstOf : List Cause → Fault → Type 0 where
  first_here : {c : Cause} {cs : List Cause} {f : Fault} → c.present ≡ true → c.fault ≡ f → FirstOf (c ∷ cs) f
  first_later : {c : Cause} {cs : List Cause} {f : Fault} → c.present ≡ false → FirstOf cs f → FirstOf (c ∷ cs) f

pub data NoneOf : List Cause → Type 0 where
  none_end : NoneOf []
  none_more : {c : Cause} {cs : List Cause} → c.present ≡ false → NoneOf cs → NoneOf (c ∷ cs)

pub record Judged {S : Type 0} (causes : List Cause) (s : S) (lent : List ℕ) (r : Step S) : Type 0 where
  pub refuses : (f : Fault) → (r.answer ≡ refusal f) ↔ FirstOf causes f
  pub accepts : ((values : List ℕ) × (r.answer ≡ accepted values)) ↔ NoneOf causes
  pub keeps : (f : Fault) → r.answer ≡ refusal f → (r.state ≡ s) × (r.lent ≡ lent)
