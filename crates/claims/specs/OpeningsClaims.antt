-- Door record against panel record (document 02, card 13), as a claim about any two strings of bytes. The call itself is judged in Demand1.
--   Compares door panel a d p    the answer: a agree, d are left in the door record, p in the panel record
--   ComparesOpenings             what the three numbers are, and which entries are left
-- Assumes nothing: these are definitions.
use Rattle.std.specs.Prelude.{ℕ, ◌+◌, ◌-◌, ◌*◌, ◌<◌, ◌≤◌, min, ◌↔◌, ◌≡◌, true, false, List, [], ◌∷◌, eqb, length, get_or, take, drop, None, Some}
use Rattle.lists.specs.Tests.{filter}
use Rattle.multisets.specs.Multiplicity.{count}
use Rattle.multisets.specs.Agreement.{is_left, left_places}
use Rattle.model.specs.declared.Fault.{Fault}
use Rattle.model.specs.Answer.{accepted, refusal}
use Rattle.model.specs.Values.{byte_values, Below}
use Rattle.openings.specs.declared.Opening.{Opening}
use Rattle.openings.specs.Entry.{entry_bytes, entry_door, entry_quarter, entry_staff, entries_in, entry_at, entries_of}
use Rattle.openings.specs.Compare.{compare_call}
use Rattle.openings.specs.Left.{left_from, FirstLeft}

abbrev pub Compares : List ℕ → List ℕ → ℕ → ℕ → ℕ → Type 0
Compares door panel a d p = (compare_call door panel).answer ≡ accepted (a ∷ d ∷ p ∷ [])

-- the byte k of the entry at place i
abbrev pub entry_byte : List ℕ → ℕ → ℕ → ℕ
entry_byte r i k = get_or r (entry_bytes * i + k) 0

pub record ComparesOpenings : Type 0 where
  -- an accepted answer is three numbers
  pub three : (door panel values : List ℕ) → (compare_call door panel).answer ≡ accepted values
      → (a : ℕ) × (d : ℕ) × (p : ℕ) × (values ≡ a ∷ d ∷ p ∷ [])
  -- what agrees and what is left make up each record
  pub whole : (door panel : List ℕ) (a d p : ℕ) → Compares door panel a d p → (a + d ≡ entries_in door) × (a + p ≡ entries_in panel)
  -- exchanging the records exchanges the last two numbers, and keeps a refusal
  pub exchange : (door panel : List ℕ) (a d p : ℕ) → Compares door panel a d p → Compares panel door a p d
  pub exchange-refused : (door panel : List ℕ) (f : Fault) → (compare_call door panel).answer ≡ refusal f → (compare_call panel door).answer ≡ refusal f
  -- an entry agrees as often as the record has it that has it less often: a list of these is as long as a says
  pub agrees : (door panel : List ℕ) (a d p : ℕ) → Compares door panel a d p
      → (es : List ℕ) × ((e : ℕ) → count e es ≡ min (count e (entries_of door)) (count e (entries_of panel))) × (length es ≡ a)
  -- entries are equal exactly if all their bytes are
  pub same : (r s : List ℕ) (i j : ℕ) → Below byte_values r → Below byte_values s → i < entries_in r → j < entries_in s
      → (entry_at r i ≡ entry_at s j) ↔ (take entry_bytes (drop (entry_bytes * i) r) ≡ take entry_bytes (drop (entry_bytes * j) s))
  -- door, quarter and staff number are its bytes, the high one first
  pub values : (r : List ℕ) (i : ℕ) → Below byte_values r → i < entries_in r
      → let b = entry_byte r i in
      (entry_door (entry_at r i) ≡ b 0 * 256 + b 1)
      × (entry_quarter (entry_at r i) ≡ b 2 * 256 + b 3)
      × (entry_staff (entry_at r i) ≡ b 4 * 16777216 + b 5 * 65536 + b 6 * 256 + b 7)
  -- which are left: as many as the answer says
  pub left-size : (door panel : List ℕ) (a d p : ℕ) → Compares door panel a d p → length (left_places (entries_of door) (entries_of panel)) ≡ d
  -- of each entry as many as it stands here more often than there, the last ones
  pub left_times : (r s : List ℕ) (e : ℕ)
      → length (filter (λ i. eqb e (get_or (entries_of r) i 0)) (left_places (entries_of r) (entries_of s))) ≡ count e (entries_of r) - count e (entries_of s)
  pub left-last : (r s : List ℕ) (i j : ℕ) → i ≤ j → get_or (entries_of r) i 0 ≡ get_or (entries_of r) j 0
      → is_left (entries_of r) (entries_of s) i ≡ true → is_left (entries_of r) (entries_of s) j ≡ true
  -- one after the other, from any place on
  pub next : (r s : List ℕ) (k i : ℕ) (o : Opening) → left_from r s k ≡ Some (record { number = i; opening = o }) → FirstLeft r s k i o
  pub ends : (r s : List ℕ) (k : ℕ) → left_from r s k ≡ None → (j : ℕ) → k ≤ j → j < entries_in r → is_left (entries_of r) (entries_of s) j ≡ false
