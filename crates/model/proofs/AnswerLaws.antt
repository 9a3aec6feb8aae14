-- Each result of a call has document 01's numbers for itself alone: every answer of specs/Answer reads back.
--   fault_of number values        the fault of a number and its values; grant_of values the grant of its values
--   refusal_injective            two faults with one refusal are one fault
--   answer_of_injective          two results with one answer are one, where what they give is told by its values: so
--   outcome_answer_injective, listed_answer_injective, decision_answer_injective, counted_answer_injective, written_answer_injective,
--   matched_answer_injective
--   refusal-accepted             a refusal is never an accepted answer
-- Assumes nothing.
use Prim.Native.Nat.{ℕ}
use mathlib.Core.Path.{◌≡◌, refl, sym, ap, ◌∙◌}
use mathlib.Core.Bool.{cond}
use mathlib.Core.List.{List, [], ◌∷◌}
use lib.Dec.{eqb}
use lib.ListN.{length, get_or, drop}
use native.Mathlib.Omega.{arith}
use Rattle.std.proofs.Common.{Option, None, Some, Result, Ok, Err}
use Rattle.std.specs.Bool.{⊤}
use Rattle.model.specs.declared.Grant.{Grant}
use Rattle.model.specs.declared.Fault.{Fault}
use Rattle.model.specs.declared.Fault.TheVariants.{BadPool, Reversed, ZeroNumber, UnknownKind, AlreadyLive, Full, NotLive, ListTooShort}
use Rattle.model.specs.declared.Fault.TheVariants.{BrokenLinks, BadLength, BadLayout, BadChecksum, BadRecord, BufferTooShort, RankTooLow}
use Rattle.model.specs.declared.Fault.TheVariants.{BadOpeningsLength, UnorderedQuarters}
use Rattle.model.specs.declared.Cells.{Cells}
use Rattle.model.specs.declared.Decision.{Decision}
use Rattle.model.specs.declared.Decision.TheVariants as decision
use Rattle.model.specs.Kind.{kind_of}
use Rattle.model.specs.Grant.{grant_values}
use Rattle.model.specs.Answer.{Answer, accepted, refused, refusal, answer_of, outcome_answer, listed_answer, decision_values, decision_answer}
use Rattle.model.specs.Answer.{counted_answer, written_answer, matched_values, matched_answer}
use Rattle.model.proofs.ArgumentLaws.{kind_of_kind_number}

-- what reads back is one-to-one
injective_by : {A B : Type 0} (f : A → B) (g : B → A) → ((a : A) → g (f a) ≡ a) → (a b : A) → f a ≡ f b → a ≡ b
injective_by f g back a b e = sym (back a) ∙ (ap g e ∙ back b)

-- the faults, each at its number; 0, 15 and 17 to 23 are no fault's
fault_of : ℕ → List ℕ → Fault
fault_of number values =
    let v = get_or values 0 0 in
    get_or
    (BadPool ∷ BadPool ∷ Reversed ∷ ZeroNumber ∷ UnknownKind ∷ AlreadyLive ∷ Full ∷ NotLive ∷ ListTooShort v ∷ BrokenLinks ∷ BadLength
    ∷ BadLayout v ∷ BadChecksum v ∷ BadRecord v ∷ BufferTooShort v ∷ BadPool ∷ RankTooLow
    ∷ BadPool ∷ BadPool ∷ BadPool ∷ BadPool ∷ BadPool ∷ BadPool ∷ BadPool ∷ BadOpeningsLength ∷ UnorderedQuarters ∷ [])
    number
    BadPool

-- the fault of a refusal; of an accepted answer any
fault_in : Answer → Fault
fault_in (accepted values) = BadPool
fault_in (refused number values) = fault_of number values

fault_in_refusal : (f : Fault) → fault_in (refusal f) ≡ f
unfolding fault_in fault_of
fault_in_refusal BadPool = refl
fault_in_refusal Reversed = refl
fault_in_refusal ZeroNumber = refl
fault_in_refusal UnknownKind = refl
fault_in_refusal AlreadyLive = refl
fault_in_refusal Full = refl
fault_in_refusal NotLive = refl
fault_in_refusal (ListTooShort needed) = refl
fault_in_refusal BrokenLinks = refl
fault_in_refusal BadLength = refl
fault_in_refusal (BadLayout block) = refl
fault_in_refusal (BadChecksum block) = refl
fault_in_refusal (BadRecord block) = refl
fault_in_refusal (BufferTooShort needed) = refl
fault_in_refusal RankTooLow = refl
fault_in_refusal BadOpeningsLength = refl
fault_in_refusal UnorderedQuarters = refl

pub refusal_injective : (f g : Fault) → refusal f ≡ refusal g → f ≡ g
refusal_injective = injective_by refusal fault_in fault_in_refusal

pub refusal-accepted : (f : Fault) (values : List ℕ) → refusal f ≡ accepted values → ⊥
refusal-accepted f values e = let z : ◌≡◌ {A = ℕ} 0 1 = cc in omega arith

-- what an accepted answer gives reads back by `read`, what a refusal tells as its fault
pub answer_of_injective : {T : Type 0} (values : T → List ℕ) (read : List ℕ → T) → ((x : T) → read (values x) ≡ x) → (a b : Result T Fault)
    → answer_of values a ≡ answer_of values b → a ≡ b
unfolding fault_in
answer_of_injective {T} values read back = injective_by (answer_of values) result back_of
  where
    result : Answer → Result T Fault
    result (accepted xs) = Ok (read xs)
    result (refused number xs) = Err (fault_of number xs)

    back_of : (a : Result T Fault) → result (answer_of values a) ≡ a
    back_of (Ok x) = ap Ok (back x)
    back_of (Err f) = ap Err (fault_in_refusal f)

pub outcome_answer_injective : (a b : Result ⊤ Fault) → outcome_answer a ≡ outcome_answer b → a ≡ b
outcome_answer_injective = answer_of_injective _ (λ values. tt) (λ done. refl)

pub listed_answer_injective : (a b : Result ℕ Fault) → listed_answer a ≡ listed_answer b → a ≡ b
listed_answer_injective = answer_of_injective _ (λ values. get_or values 0 0) (λ n. refl)

-- a grant from its values, in document 01's order
grant_of : List ℕ → Grant
grant_of values =
    record {
      number = get_or values 0 0;
      rank = get_or values 1 0;
      kind = kind_of (get_or values 2 0);
      bounds =
          record {
            staff_from = get_or values 3 0;
            staff_to = get_or values 4 0;
            door_from = get_or values 5 0;
            door_to = get_or values 6 0;
            quarter_from = get_or values 7 0;
            quarter_to = get_or values 8 0;
          };
    }

grant_of_grant_values : (g : Grant) → grant_of (grant_values g) ≡ g
unfolding grant_of
grant_of_grant_values g = λ i. record { number = g.number; rank = g.rank; kind = kind_of_kind_number g.kind i; bounds = g.bounds }

pub grant_values_injective : (g h : Grant) → grant_values g ≡ grant_values h → g ≡ h
grant_values_injective = injective_by grant_values grant_of grant_of_grant_values

pub decision_answer_injective : (a b : Result Decision Fault) → decision_answer a ≡ decision_answer b → a ≡ b
decision_answer_injective = answer_of_injective decision_values read back
  where
    read : List ℕ → Decision
    read values =
        let g = grant_of (drop 1 values) in
        cond (eqb (get_or values 0 0) 0) decision.None (cond (eqb (get_or values 0 0) 1) (decision.Opens g) (decision.Barred g))

    back : (d : Decision) → read (decision_values d) ≡ d
    back decision.None = refl
    back (decision.Opens g) = ap decision.Opens (grant_of_grant_values g)
    back (decision.Barred g) = ap decision.Barred (grant_of_grant_values g)

pub counted_answer_injective : (a b : Result Cells Fault) → counted_answer a ≡ counted_answer b → a ≡ b
counted_answer_injective =
    answer_of_injective _ (λ values. record { live = get_or values 0 0; free = get_or values 1 0 }) (λ c. refl)

pub written_answer_injective : (a b : Result ℕ Fault) → written_answer a ≡ written_answer b → a ≡ b
written_answer_injective = answer_of_injective _ (λ values. get_or values 0 0) (λ n. refl)

pub matched_answer_injective : (a b : Result (Option ℕ) Fault) → matched_answer a ≡ matched_answer b → a ≡ b
matched_answer_injective = answer_of_injective matched_values read back
  where
    read : List ℕ → Option ℕ
    read values = cond (eqb (length values) 0) None (Some (get_or values 0 0))

    back : (o : Option ℕ) → read (matched_values o) ≡ o
    back None = refl
    back (Some n) = refl
