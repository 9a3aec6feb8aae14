-- An entry of a record of openings (document 02, card 13): 8 bytes, high byte first: door (2), quarter (2), staff (4). The entry is the number of
-- its bytes, so that entries are equal when all their bytes are.
--   entry_bytes, max_entries         the bytes of an entry, 8, and the most entries of a record, 4,096: entries are keys (radix_sort/specs/Keys)
--   entry_door, entry_quarter, entry_staff   the three values of an entry; opening_of has them as one
--   entries_in r                    how many whole entries the record r has
--   entry_at r i                    the entry at place i, counted from 0
--   entries_of r                    all of them, in the record's order
-- Assumes nothing: these are definitions.
use Rattle.std.specs.Prelude.{ℕ, ◌/◌, ◌%◌, List, map, length}
use Rattle.lists.specs.Ranges.{count_from}
use Rattle.radix_sort.specs.Keys.{key_bytes, max_keys, key_at}
use Rattle.openings.specs.declared.Opening.{Opening}

abbrev pub entry_bytes : ℕ
entry_bytes = key_bytes

abbrev pub max_entries : ℕ
max_entries = max_keys

abbrev pub entry_door : ℕ → ℕ
entry_door e = e / 281474976710656 % 65536

abbrev pub entry_quarter : ℕ → ℕ
entry_quarter e = e / 4294967296 % 65536

abbrev pub entry_staff : ℕ → ℕ
entry_staff e = e % 4294967296

abbrev pub opening_of : ℕ → Opening
opening_of e = record { door = entry_door e; quarter = entry_quarter e; staff = entry_staff e }

abbrev pub entries_in : List ℕ → ℕ
entries_in r = length r / entry_bytes

abbrev pub entry_at : List ℕ → ℕ → ℕ
entry_at r i = key_at r i

unfoldable pub entries_of : List ℕ → List ℕ
entries_of r = map (entry_at r) (count_from 0 (entries_in r))
