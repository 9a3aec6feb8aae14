-- What the comparison goes by: the places of a record in the order of their entries. Contracts of inner functions cite these; no claim does.
--   SizedRecord r     the bytes are whole entries, and not too many
--   sorted_places r    the places of the entries, from the lowest entry on
-- Assumes nothing: these are definitions.
use Rattle.std.specs.Prelude.{ℕ, ◌*◌, ◌≤◌, ◌≡◌, List, length}
use Rattle.lists.specs.Sort.{sort_by}
use Rattle.lists.specs.Ranges.{count_from}
use Rattle.openings.specs.Entry.{entry_bytes, max_entries, entries_in, entry_at}

pub record SizedRecord (r : List ℕ) : Type 0 where
  pub whole : length r ≡ entry_bytes * entries_in r
  pub few : entries_in r ≤ max_entries

unfoldable pub sorted_places : List ℕ → List ℕ
sorted_places r = sort_by (entry_at r) (count_from 0 (entries_in r))
