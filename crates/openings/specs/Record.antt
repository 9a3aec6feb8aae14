-- When bytes are a record of openings (document 02, card 13).
--   wrong_size r      24's cause: the bytes aren't whole entries, or more than 4,096
--   falls_at r i      the quarter of the entry at place i is below that of the entry before it
--   unordered r      25's cause: one is
-- Assumes nothing: these are definitions.
use Rattle.std.specs.Prelude.{ℕ, ◌-◌, ◌%◌, Bool, not, ◌||◌, List, eqb, ltb, length}
use Rattle.lists.specs.Tests.{any}
use Rattle.lists.specs.Ranges.{count_from}
use Rattle.openings.specs.Entry.{entry_bytes, max_entries, entry_quarter, entries_in, entry_at}

abbrev pub not_whole : List ℕ → Bool
not_whole r = not (eqb (length r % entry_bytes) 0)

abbrev pub too_many : List ℕ → Bool
too_many r = ltb max_entries (entries_in r)

unfoldable pub wrong_size : List ℕ → Bool
wrong_size r = not_whole r || too_many r

abbrev pub falls_at : List ℕ → ℕ → Bool
falls_at r i = ltb (entry_quarter (entry_at r i)) (entry_quarter (entry_at r (i - 1)))

-- from the second entry on
unfoldable pub unordered : List ℕ → Bool
unordered r = any (falls_at r) (count_from 1 (entries_in r - 1))
