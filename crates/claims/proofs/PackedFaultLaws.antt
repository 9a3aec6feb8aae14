-- A refusal fits its packing (specs/Fits) where the values beside its order line's faults are small.
--   Small f, SmallAll cs      the value beside a fault is below what a holds; so for each fault of a line
--   SmallFirst cs             so for the fault that answers, which is the first whose cause holds
--   fault-fits                a refusal with a small value fits
--   small_all, small_first    the value that answers is small where all are; where those after the first are, its cause not holding
--   small_append              lines that are put together
--   call_fits                 a call's answer has what every small refusal has, and what an accepted call answers
-- Assumes nothing.
use Prim.Native.Nat.{ℕ, ◌<◌}
use mathlib.Core.Path.{◌≡◌, refl, subst}
use mathlib.Core.Bool.{Bool, true, false, cond, and-eq-true_iff}
use mathlib.Core.List.{List, [], ◌∷◌, ◌++◌}
use Rattle.std.proofs.Common.{Option, None, Some}
use native.Mathlib.Omega.{arith}
use lib.Dec.{ltb, eqb, lit<}
use borrow.Author.Tests.{ltb-true}
use Rattle.lists.specs.Tests.{every}
use Rattle.lists.proofs.EveryLaws.{every_append}
use Rattle.model.specs.declared.Fault.{Fault}
use Rattle.model.specs.declared.Fault.TheVariants.{BadPool, Reversed, ZeroNumber, UnknownKind, AlreadyLive, Full, NotLive, ListTooShort, BrokenLinks}
use Rattle.model.specs.declared.Fault.TheVariants.{BadLength, BadLayout, BadChecksum, BadRecord, BufferTooShort, RankTooLow, BadOpeningsLength}
use Rattle.model.specs.declared.Fault.TheVariants.{UnorderedQuarters}
use Rattle.model.specs.Fault.{fault_number, fault_values}
use Rattle.model.specs.Answer.{Answer, refusal}
use Rattle.model.specs.Refusal.{Cause, Step, first_fault, step_by, refusing}
use Rattle.packing.specs.Pack.{number_values, a_values, b_values, first_of}
use Rattle.claims.specs.PackedFits.{FitsRefusal}

abbrev pub Small : Fault → Type 0
Small f = first_of (fault_values f) < a_values

-- the numbers go from 1 to 25
fault-number : (f : Fault) → (0 < fault_number f) × (fault_number f < number_values)
fault-number BadPool = (lit< tt, lit< tt)
fault-number Reversed = (lit< tt, lit< tt)
fault-number ZeroNumber = (lit< tt, lit< tt)
fault-number UnknownKind = (lit< tt, lit< tt)
fault-number AlreadyLive = (lit< tt, lit< tt)
fault-number Full = (lit< tt, lit< tt)
fault-number NotLive = (lit< tt, lit< tt)
fault-number (ListTooShort needed) = (lit< tt, lit< tt)
fault-number BrokenLinks = (lit< tt, lit< tt)
fault-number BadLength = (lit< tt, lit< tt)
fault-number (BadLayout block) = (lit< tt, lit< tt)
fault-number (BadChecksum block) = (lit< tt, lit< tt)
fault-number (BadRecord block) = (lit< tt, lit< tt)
fault-number (BufferTooShort needed) = (lit< tt, lit< tt)
fault-number RankTooLow = (lit< tt, lit< tt)
fault-number BadOpeningsLength = (lit< tt, lit< tt)
fault-number UnorderedQuarters = (lit< tt, lit< tt)

pub fault-fits : (f : Fault) → Small f → FitsRefusal (fault_number f) (fault_values f)
fault-fits f small = record { some = (fault-number f).0; few = (fault-number f).1; value = go (eqb (fault_number f) 8) }
  where
    go : (b : Bool) → first_of (fault_values f) < cond b a_values b_values
    go true = small
    go false = omega (arith, small)

abbrev small_cause : Cause → Bool
small_cause c = ltb (first_of (fault_values c.fault)) a_values

abbrev pub SmallAll : List Cause → Type 0
SmallAll cs = every small_cause cs ≡ true

abbrev pub SmallFirst : List Cause → Type 0
SmallFirst cs = (f : Fault) → first_fault cs ≡ Some f → Small f

pub small_first : (c : Cause) (cs : List Cause) → Small c.fault → (c.present ≡ false → SmallFirst cs) → SmallFirst (c ∷ cs)
unfolding first_fault
small_first c cs here rest f e = go c.present refl e
  where
    go : (b : Bool) → c.present ≡ b → cond b (Some c.fault) (first_fault cs) ≡ Some f → Small f
    go true p q = let same : c.fault ≡ f = cc in subst Small same here
    go false p q = rest p f q

pub small_all : (cs : List Cause) → SmallAll cs → SmallFirst cs
unfolding every first_fault
small_all [] s f e = absurd (let z : ◌≡◌ {A = ℕ} 0 1 = cc in omega arith)
small_all (c ∷ cs) s f e =
    let both = (and-eq-true_iff (small_cause c) (every small_cause cs)).0 s in
    small_first c cs (ltb-true _ _ both.0) (λ p. small_all cs both.1) f e

pub small_append : (cs ds : List Cause) → SmallAll cs → SmallAll ds → SmallAll (cs ++ ds)
small_append cs ds s t = every_append small_cause cs ds s t

pub call_fits : {S : Type 0} (P : Answer → Type 0) → ((f : Fault) → Small f → P (refusal f)) → (cs : List Cause) (s : S) (lent : List ℕ) (d : Step S)
    → SmallFirst cs → (first_fault cs ≡ None → P d.answer) → P (refusing cs s lent d).answer
unfolding refusing
call_fits {S} P refusals cs s lent d small done = go (first_fault cs) small done
  where
    go : (o : Option Fault) → ((f : Fault) → o ≡ Some f → Small f) → (o ≡ None → P d.answer) → P (step_by o s lent d).answer
    go None k h = h refl
    go (Some f) k h = refusals f (k f refl)
