-- Laws of the comparison's call (specs/Compare).
--   compare_wrong_size, compare-unordered, compare-accepted     its answer, by the causes that hold
--   comparison-few                 none of the three numbers is above a record's number of entries
--   comparison-left                what is left of each record is the rest of it
-- Assumes nothing.
use Prim.Native.Nat.{ℕ, ◌-◌, ◌≤◌}
use mathlib.Core.Path.{◌≡◌, ap₂}
use mathlib.Core.Bool.{true, false, ◌||◌}
use mathlib.Core.List.{List, [], ◌∷◌}
use native.Mathlib.Omega.{arith}
use Rattle.multisets.specs.Agreement.{agree, left}
use Rattle.multisets.proofs.AgreementLaws.{agree-exchange, agree-left-total}
use Rattle.model.specs.declared.Fault.TheVariants.{BadOpeningsLength, UnorderedQuarters}
use Rattle.model.specs.Answer.{accepted, refusal}
use Rattle.model.specs.Refusal.{first_fault, refusing}
use Rattle.openings.specs.Entry.{entries_in, entries_of}
use Rattle.openings.specs.Record.{wrong_size, unordered}
use Rattle.openings.specs.Compare.{openings_order, comparison, compare_call}
use Rattle.openings.proofs.EntryLaws.{length-entries}

module _ (door panel : List ℕ) where
  pub compare_wrong_size : (wrong_size door || wrong_size panel) ≡ true → refusal BadOpeningsLength ≡ (compare_call door panel).answer
  unfolding compare_call refusing openings_order first_fault
  compare_wrong_size e = rw e

  pub compare-unordered : (wrong_size door || wrong_size panel) ≡ false → (unordered door || unordered panel) ≡ true
      → refusal UnorderedQuarters ≡ (compare_call door panel).answer
  unfolding compare_call refusing openings_order first_fault
  compare-unordered e f = rw (e, f)

  pub compare-accepted : (wrong_size door || wrong_size panel) ≡ false → (unordered door || unordered panel) ≡ false
      → accepted (comparison (entries_of door) (entries_of panel)) ≡ (compare_call door panel).answer
  unfolding compare_call refusing openings_order first_fault
  compare-accepted e f = rw (e, f)

  pub comparison-few : (agree (entries_of door) (entries_of panel) ≤ entries_in door)
      × (agree (entries_of door) (entries_of panel) ≤ entries_in panel)
      × (left (entries_of door) (entries_of panel) ≤ entries_in door)
      × (left (entries_of panel) (entries_of door) ≤ entries_in panel)
  comparison-few =
      let in-door = agree-left-total (entries_of door) (entries_of panel) in
      let in-panel = agree-left-total (entries_of panel) (entries_of door) in
      let exchange = agree-exchange (entries_of door) (entries_of panel) in
      let door-size = length-entries door in
      let panel-size = length-entries panel in
      (omega arith, omega arith, omega arith, omega arith)

  pub comparison-left : let n = agree (entries_of door) (entries_of panel) in
      n ∷ (entries_in door - n) ∷ (entries_in panel - n) ∷ [] ≡ comparison (entries_of door) (entries_of panel)
  comparison-left =
      let n = agree (entries_of door) (entries_of panel) in
      let in-door : entries_in door - n ≡ left (entries_of door) (entries_of panel)
      = omega (arith, agree-left-total (entries_of door) (entries_of panel), length-entries door) in
      let in-panel : entries_in panel - n ≡ left (entries_of panel) (entries_of door)
      = omega (arith, agree-exchange (entries_of door) (entries_of panel), agree-left-total (entries_of panel) (entries_of door), length-entries panel) in
      ap₂ (λ (l m : ℕ). n ∷ l ∷ m ∷ []) in-door in-panel
