-- What is wrong in a record of openings, and where: what a person is told.
--   first_fall r           the first place at which a quarter falls
--   size_defect r          what is wrong in the number of its bytes, a cause of 24
--   order_defect r i       what is wrong in the order of its quarters, a cause of 25, where the quarter at place i is the first that falls
--   openings_defect r      what is wrong in the record r, if anything is
-- Assumes nothing: these are definitions.
use Rattle.std.specs.Prelude.{ℕ, ◌+◌, ◌-◌, cond, List, Result, Ok, Err, ⊤, ltb, length}
use Rattle.openings.specs.declared.RecordDefect.{RecordDefect}
use Rattle.openings.specs.declared.RecordDefect.TheVariants.{NotWhole, TooMany, Unordered}
use Rattle.openings.specs.First.{first_passing}
use Rattle.openings.specs.Entry.{entry_quarter, entries_in, entry_at}
use Rattle.openings.specs.Record.{not_whole, too_many, falls_at}

abbrev pub first_fall : List ℕ → ℕ
first_fall r = first_passing (falls_at r) 1 (entries_in r - 1)

unfoldable pub size_defect : List ℕ → Result ⊤ RecordDefect
size_defect r = cond (not_whole r) (Err (NotWhole (length r))) (cond (too_many r) (Err (TooMany (entries_in r))) (Ok tt))

-- at a place, where it is one of the record's; the entry's number counts from 1
abbrev pub order_defect : List ℕ → ℕ → Result ⊤ RecordDefect
order_defect r i = cond (ltb i (entries_in r)) (Err (Unordered (i + 1) (entry_quarter (entry_at r (i - 1))) (entry_quarter (entry_at r i)))) (Ok tt)

unfoldable pub openings_defect : List ℕ → Result ⊤ RecordDefect
openings_defect r =
    cond (not_whole r) (Err (NotWhole (length r))) (cond (too_many r) (Err (TooMany (entries_in r))) (order_defect r (first_fall r)))
