-- How an order line is gone through, cause by cause, and what the capacity that a program goes by says of fault 1.
--   refused_by f s lent                     the step of a refusal
--   first_holds, first_fails, none_left    the first cause of a line holds; it fails; no cause is left
--   leaves_as, lends_as                    what a contract says, once the step is known
--   Taken wrong w c                        a pool of c cells that the test `wrong` of fault 1 lets through
--   length-refused, length_taken           fault 1 of start and load, by `length_capacity`: none, or the number of cells
--   pool_refused, pool_taken               fault 1 of the other calls, by `pool_capacity`
-- Assumes nothing.
use Prim.Native.Nat.{ℕ}
use mathlib.Core.Path.{◌≡◌, refl, sym, ap, subst, ◌∙◌}
use mathlib.Core.Bool.{Bool, true, false, cond}
use mathlib.Core.List.{List, [], ◌∷◌}
use Rattle.std.proofs.Common.{Option, None, Some}
use Rattle.std.proofs.lemmas.Option.{same_Some}
use native.Mathlib.Omega.{arith}
use Rattle.model.specs.declared.Fault.{Fault}
use Rattle.model.specs.Answer.{refusal}
use Rattle.model.specs.Refusal.{Cause, ◌if◌, Step, first_fault, refusing}
use Rattle.pool.specs.Capacity.{Sized, capacity_of, wrong_length, wrong_pool, length_capacity, pool_capacity}
use Rattle.pool.proofs.CapacityLaws.{capacity_of-pool_length, wrong_length_iff, wrong_pool_iff}
use Rattle.calls.specs.Contract.{Leaves, Lends}

-- a refusal leaves the state and the lent memory
abbrev pub refused_by : {S : Type 0} → Fault → S → List ℕ → Step S
refused_by f s lent = record { state = s; answer = refusal f; lent = lent }

module _ {S : Type 0} (s : S) (lent : List ℕ) (done : Step S) where
  pub first_holds : (f : Fault) (cs : List Cause) {b : Bool} → b ≡ true → refusing (f if b ∷ cs) s lent done ≡ refused_by f s lent
  unfolding refusing first_fault
  first_holds f cs e = rw e

  pub first_fails : (f : Fault) (cs : List Cause) {b : Bool} → b ≡ false → refusing (f if b ∷ cs) s lent done ≡ refusing cs s lent done
  unfolding refusing first_fault
  first_fails f cs e = rw e

  pub none_left : refusing [] s lent done ≡ done
  unfolding refusing first_fault
  none_left = refl

module _ {r d : Step (List ℕ)} (e : r ≡ d) where
  pub leaves_as : Leaves d.answer d.state r
  leaves_as = record { answered = ap (λ (x : Step (List ℕ)). x.answer) (sym e); left = ap (λ (x : Step (List ℕ)). x.state) (sym e) }

  pub lends_as : Lends d.answer d.lent r
  lends_as = record { answered = ap (λ (x : Step (List ℕ)). x.answer) (sym e); left = ap (λ (x : Step (List ℕ)). x.lent) (sym e) }

-- a pool of c cells that a test of fault 1 lets through
pub record Taken (wrong : Bool) (w : List ℕ) (c : ℕ) : Type 0 where
  pub right : wrong ≡ false
  pub sized : Sized w c
  pub capacity : capacity_of w ≡ c

module _ (w : List ℕ) where
  taken : {wrong : Bool} {c : ℕ} → wrong ≡ false → wrong_length w ≡ false → capacity_of w ≡ c → Taken wrong w c
  taken {c = c} t r e =
      let s = (wrong_length_iff w).0 r in
      let same : s.0 ≡ c = sym (capacity_of-pool_length w s.0 s.1.long) ∙ e in
      record {
        right = t;
        sized = subst (Sized w) same s.1;
        capacity = e;
      }

  pool_length_lem : wrong_pool w ≡ false → wrong_length w ≡ false
  pool_length_lem r = let s = (wrong_pool_iff w).0 r in (wrong_length_iff w).1 (s.0, s.1)

  -- whether the pool was refused, from what a program goes by
  capacity_none : (b : Bool) {o : Option ℕ} → o ≡ cond b None (Some (capacity_of w)) → o ≡ None → b ≡ true
  capacity_none true e n = refl
  capacity_none false e n = let z : ◌≡◌ {A = ℕ} 0 1 = cc in absurd (omega arith)

  capacity-some : (b : Bool) {o : Option ℕ} {c : ℕ} → o ≡ cond b None (Some (capacity_of w)) → o ≡ Some c → (b ≡ false) × (capacity_of w ≡ c)
  capacity-some true e s = let z : ◌≡◌ {A = ℕ} 0 1 = cc in absurd (omega arith)
  capacity-some false {c = c} e s = (refl, same_Some (capacity_of w) c (sym e ∙ s))

  module _ {o : Option ℕ} where
    pub length-refused : o ≡ length_capacity w → o ≡ None → wrong_length w ≡ true
    length-refused e n = capacity_none (wrong_length w) e n

    pub length_taken : {c : ℕ} → o ≡ length_capacity w → o ≡ Some c → Taken (wrong_length w) w c
    length_taken e s = let r = capacity-some (wrong_length w) e s in taken r.0 r.0 r.1

    pub pool_refused : o ≡ pool_capacity w → o ≡ None → wrong_pool w ≡ true
    pool_refused e n = capacity_none (wrong_pool w) e n

    pub pool_taken : {c : ℕ} → o ≡ pool_capacity w → o ≡ Some c → Taken (wrong_pool w) w c
    pool_taken e s = let r = capacity-some (wrong_pool w) e s in taken r.0 (pool_length_lem r.0) r.1
