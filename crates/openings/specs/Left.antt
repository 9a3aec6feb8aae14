-- The entries of a record that are left when it is held against another (multisets/specs/Agreement), one after the other.
--   next_left r s k     the first place of the record r, from k on, at which an entry is left; its number of entries where none is
--   left_at r i         the entry at a place, with its number, which counts from 1 and so is the place behind it
--   left_from r s k     that entry, or none
--   FirstLeft r s k n o    what such an answer says
-- Assumes nothing: these are definitions.
use Rattle.std.specs.Prelude.{ℕ, ◌+◌, ◌-◌, ◌<◌, ◌≤◌, ◌≡◌, true, false, cond, List, Option, None, Some, ltb}
use Rattle.multisets.specs.Agreement.{is_left}
use Rattle.openings.specs.First.{first_passing}
use Rattle.openings.specs.declared.Opening.{Opening}
use Rattle.openings.specs.declared.LeftEntry.{LeftEntry}
use Rattle.openings.specs.Entry.{entries_in, entry_at, entries_of, opening_of}

abbrev pub next_left : List ℕ → List ℕ → ℕ → ℕ
next_left r s k = first_passing (is_left (entries_of r) (entries_of s)) k (entries_in r - k)

-- the entry at a place, as it is told
abbrev pub left_at : List ℕ → ℕ → LeftEntry
left_at r i = record { number = i + 1; opening = opening_of (entry_at r i) }

unfoldable pub left_from : List ℕ → List ℕ → ℕ → Option LeftEntry
left_from r s k = let i = next_left r s k in cond (ltb i (entries_in r)) (Some (left_at r i)) None

-- the entry of the number n stands at the first place from k on at which one is left, and o has its values
pub record FirstLeft (r s : List ℕ) (k n : ℕ) (o : Opening) : Type 0 where
  pub behind : k < n
  pub inside : n ≤ entries_in r
  pub opening : o ≡ opening_of (entry_at r (n - 1))
  pub is-left : is_left (entries_of r) (entries_of s) (n - 1) ≡ true
  pub none_before : (j : ℕ) → k ≤ j → j < n - 1 → is_left (entries_of r) (entries_of s) j ≡ false
