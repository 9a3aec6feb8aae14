-- Wide grants on numbers, as rows of `tried-cases`: fault 16, its place in grant's line, records that break the rule, and cells that do.
-- What is wanted was worked out by hand from document 02, card 3. Assumes nothing.
--   bound_cases     16 by the doors and the rank, in the book and on words
--   order_cases     16 together with each other fault of grant: 1, 3, 4 and 2 come before it, 9, 5 and 6 after it
--   record_cases    13 in load and match; block read does not look at records
--   cell_cases      a cell that breaks it, which no calls leave, is listed, decides, is counted, written and matched as any other
use Prim.Native.Nat.{ℕ}
use mathlib.Core.List.{List, [], ◌∷◌, ◌++◌}
use lib.ListN.{take, drop, replicate}
use Rattle.model.specs.declared.Grant.{Grant}
use Rattle.model.specs.declared.Kind.TheVariants.{Opens}
use Rattle.model.specs.declared.Choice.TheVariants.{Touching}
use Rattle.model.specs.Interval.{Interval}
use Rattle.model.specs.Call.{Request}
use Rattle.model.specs.Book.{book_of, empty_book, book_grant}
use Rattle.grants_file.specs.File.{file_of}
use Rattle.calls.specs.Calls.{start_call, grant_call, list_call, decide_call, count_call}
use Rattle.block_read.specs.BlockRead.{block_call}
use Rattle.calls.specs.FileCalls.{write_call, load_call, match_call}
use Rattle.claims.proofs.Cases.{Case, box, one, responses}
use Rattle.claims.proofs.Pools.{pool}

-- a request for the doors from, to
abbrev asked : ℕ → ℕ → ℕ → ℕ → ℕ → Request
asked number rank kind from to = record { number = number; rank = rank; kind = kind; bounds = box 0 0 from to 0 1 }

abbrev fresh : List ℕ
fresh = (start_call (replicate 14 9)).state

-- what the book and the words answer to it, both empty
abbrev granted : Request → List ℕ
granted r = responses (book_grant (empty_book 1) r).answer ++ responses (grant_call fresh r).answer

abbrev bound_cases : List Case
bound_cases =
    -- 1,000 doors and 1,001, from 0 on, elsewhere, and up to the last door
    record { given = granted (asked 5 199 1 0 999); wanted = 0 ∷ 0 ∷ [] }
    ∷ record { given = granted (asked 5 199 1 0 1000); wanted = 16 ∷ 16 ∷ [] }
    ∷ record { given = granted (asked 5 0 1 300 1299); wanted = 0 ∷ 0 ∷ [] }
    ∷ record { given = granted (asked 5 0 1 300 1300); wanted = 16 ∷ 16 ∷ [] }
    ∷ record { given = granted (asked 5 0 1 64536 65535); wanted = 0 ∷ 0 ∷ [] }
    ∷ record { given = granted (asked 5 0 1 64535 65535); wanted = 16 ∷ 16 ∷ [] }
    -- rank 199 and 200, for all doors; barring ones are refused alike
    ∷ record { given = granted (asked 5 199 1 0 65535); wanted = 16 ∷ 16 ∷ [] }
    ∷ record { given = granted (asked 5 199 0 0 65535); wanted = 16 ∷ 16 ∷ [] }
    ∷ record { given = granted (asked 5 200 1 0 65535); wanted = 0 ∷ 0 ∷ [] }
    ∷ record { given = granted (asked 5 255 0 0 1000); wanted = 0 ∷ 0 ∷ [] }
    ∷ []

-- an index with the grant 5 in its one cell
abbrev full : List ℕ
full = (grant_call fresh (asked 5 0 1 1 1)).state

-- one whose root is above C
abbrev broken : List ℕ
broken = pool 1 2 0 []

abbrev order_cases : List Case
order_cases =
    record { given = responses (grant_call (replicate 13 1) (asked 5 0 1 0 1000)).answer; wanted = one 1 }
    ∷ record { given = granted (asked 0 0 1 0 1000); wanted = 3 ∷ 3 ∷ [] }
    ∷ record { given = granted (asked 5 0 2 0 1000); wanted = 4 ∷ 4 ∷ [] }
    ∷ record { given = granted (record { number = 5; rank = 0; kind = 1; bounds = box 1 0 0 1000 0 1 }); wanted = 2 ∷ 2 ∷ [] }
    ∷ record { given = granted (record { number = 5; rank = 0; kind = 1; bounds = box 0 0 0 1000 1 0 }); wanted = 2 ∷ 2 ∷ [] }
    ∷ record { given = granted (asked 5 0 1 1000 0); wanted = 2 ∷ 2 ∷ [] }
    -- 9, 5 and 6, each with a grant that is refused with 16, and with one that is not
    ∷ record { given = responses (grant_call broken (asked 5 0 1 0 1000)).answer; wanted = one 16 }
    ∷ record { given = responses (grant_call broken (asked 5 0 1 0 999)).answer; wanted = one 9 }
    ∷ record { given = responses (grant_call full (asked 5 0 1 0 1000)).answer; wanted = one 16 }
    ∷ record { given = responses (grant_call full (asked 5 0 1 0 999)).answer; wanted = one 5 }
    ∷ record { given = responses (grant_call full (asked 6 0 1 0 1000)).answer; wanted = one 16 }
    ∷ record { given = responses (grant_call full (asked 6 0 1 0 999)).answer; wanted = one 6 }
    ∷ record { given = responses (book_grant (book_of 0 []) (asked 6 0 1 0 1000)).answer; wanted = one 16 }
    ∷ record { given = responses (book_grant (book_of 0 []) (asked 6 0 1 0 999)).answer; wanted = one 6 }
    ∷ []

-- a grant of this rank, from door 40 on
abbrev from40 : ℕ → ℕ → Grant
from40 rank to = record { number = 5; rank = rank; kind = Opens; bounds = box 0 0 40 to 0 1 }

abbrev doors : Interval
doors = record { from = 40; to = 50 }

-- a file of it: what load and match say, and block read of its block
abbrev judged : Grant → List ℕ
judged g =
    let f = file_of doors (g ∷ []) in
    responses (load_call fresh f).answer ++ responses (match_call fresh f).answer ++ responses (block_call f 1).answer

abbrev record_cases : List Case
record_cases =
    -- taken, match names the grant that the pool lacks; the doors in the file's doors are few, its own count
    record { given = judged (from40 199 1039); wanted = 0 ∷ 0 ∷ 5 ∷ 0 ∷ [] }
    ∷ record { given = judged (from40 199 1040); wanted = 13 ∷ 1 ∷ 13 ∷ 1 ∷ 0 ∷ [] }
    ∷ record { given = judged (from40 200 1040); wanted = 0 ∷ 0 ∷ 5 ∷ 0 ∷ [] }
    ∷ []

-- a cell with the grant 5: it opens all doors to one staff number at rank 3
abbrev wide : List ℕ
wide = pool 1 1 0 (0 ∷ 0 ∷ 5 ∷ 7 ∷ 8 ∷ 8 ∷ 0 ∷ 65535 ∷ 2 ∷ 3 ∷ 0 ∷ [])

abbrev cell_cases : List Case
cell_cases =
    record { given = let s = list_call wide (box 8 8 40 40 2 3) Touching (9 ∷ 9 ∷ []) in responses s.answer ++ s.lent; wanted = 0 ∷ 1 ∷ 5 ∷ 9 ∷ [] }
    ∷ record { given = responses (decide_call wide 8 40 2).answer; wanted = 0 ∷ 1 ∷ 5 ∷ 3 ∷ 1 ∷ 8 ∷ 8 ∷ 0 ∷ 65535 ∷ 2 ∷ 3 ∷ [] }
    ∷ record { given = responses (count_call wide).answer; wanted = 0 ∷ 1 ∷ 0 ∷ [] }
    -- the file has its record, behind the mark, the block's number and the count
    ∷ record {
      given = let s = write_call wide doors (replicate 1024 7) in responses s.answer ++ take 20 (drop 516 s.lent);
      wanted = 0 ∷ 1024 ∷ 0 ∷ 1 ∷ 0 ∷ 1 ∷ 0 ∷ 5 ∷ 3 ∷ 1 ∷ 0 ∷ 8 ∷ 0 ∷ 8 ∷ 0 ∷ 0 ∷ 255 ∷ 255 ∷ 0 ∷ 2 ∷ 0 ∷ 3 ∷ [];
    }
    -- held against a file without it; no pool takes the file that was written
    ∷ record { given = responses (match_call wide (file_of doors [])).answer; wanted = 0 ∷ 5 ∷ [] }
    ∷ record { given = responses (load_call fresh (write_call wide doors (replicate 1024 7)).lent).answer; wanted = 13 ∷ 1 ∷ [] }
    ∷ []

abbrev pub senior_cases : List Case
senior_cases = bound_cases ++ order_cases ++ record_cases ++ cell_cases
