-- Ends of quarters on numbers, as rows of `tried-cases`. What is wanted was worked out by hand from document 02, card 2. Assumes nothing.
--   range_cases     two ranges, and one that covers none; the search range at the ends
--   given_cases     fault 2 in grant and list, 13 in a record
--   asked_cases     what list and decide find at the ends of a grant, and at the first and the last quarters
--   broken_cases    decide at the highest quarter, on a pool that gives 9 below it and on one that gives 1
--   cell_cases      cells with equal or reversed quarters, which no calls leave, are hits where their two values lie in the range
use Prim.Native.Nat.{ℕ}
use mathlib.Core.List.{List, [], ◌∷◌, ◌++◌}
use lib.ListN.{get_or, replicate}
use Rattle.model.specs.declared.Box.{Box}
use Rattle.model.specs.declared.Grant.{Grant}
use Rattle.model.specs.declared.Kind.TheVariants.{Opens}
use Rattle.model.specs.declared.Choice.TheVariants.{Touching}
use Rattle.model.specs.Interval.{Interval}
use Rattle.model.specs.Quarters.{Quarters, no_quarters}
use Rattle.model.specs.Overlap.{overlap_in_time}
use Rattle.model.specs.Call.{Request}
use Rattle.model.specs.Book.{book_of, empty_book, book_grant, book_list, book_decide}
use Rattle.geometry.specs.Region.{low, high}
use Rattle.geometry.specs.SearchRange.{range_of_box}
use Rattle.grants_file.specs.File.{file_of}
use Rattle.calls.specs.LinkCauses.{point_meets9}
use Rattle.calls.specs.Calls.{start_call, grant_call, list_call, decide_call}
use Rattle.calls.specs.FileCalls.{load_call, match_call}
use Rattle.claims.proofs.Cases.{Case, box, one, test, responses}
use Rattle.claims.proofs.Pools.{pool}

abbrev range : ℕ → ℕ → Quarters
range from to = record { from = from; to = to }

-- whether two ranges overlap, asked either way
abbrev both : Quarters → Quarters → List ℕ
both a b = test (overlap_in_time a b) ++ test (overlap_in_time b a)

-- the box of staff 8 at door 3 in some quarters
abbrev within : ℕ → ℕ → Box
within from to = box 8 8 3 3 from to

-- where a grant's from may end, and where its to may begin
abbrev searched : ℕ → ℕ → List ℕ
searched from to = high (range_of_box (within from to)) 2 ∷ low (range_of_box (within from to)) 5 ∷ []

abbrev range_cases : List Case
range_cases =
    -- one quarter with itself; neighbours, which touch and don't overlap; a quarter in common
    record { given = both (range 5 6) (range 5 6); wanted = 1 ∷ 1 ∷ [] }
    ∷ record { given = both (range 5 6) (range 6 7); wanted = 0 ∷ 0 ∷ [] }
    ∷ record { given = both (range 5 9) (range 9 12); wanted = 0 ∷ 0 ∷ [] }
    ∷ record { given = both (range 5 10) (range 9 12); wanted = 1 ∷ 1 ∷ [] }
    -- the first quarter, and the last two that can be covered
    ∷ record { given = both (range 0 1) (range 0 65535); wanted = 1 ∷ 1 ∷ [] }
    ∷ record { given = both (range 0 1) (range 1 65535); wanted = 0 ∷ 0 ∷ [] }
    ∷ record { given = both (range 65533 65534) (range 65534 65535); wanted = 0 ∷ 0 ∷ [] }
    ∷ record { given = both (range 65534 65535) (range 0 65535); wanted = 1 ∷ 1 ∷ [] }
    -- which cover none
    ∷ record {
      given = test (no_quarters (range 0 1)) ++ test (no_quarters (range 0 0)) ++ test (no_quarters (range 5 4));
      wanted = 0 ∷ 1 ∷ 1 ∷ [];
    }
    ∷ record { given = test (no_quarters (range 65534 65535)) ++ test (no_quarters (range 65535 65535)); wanted = 0 ∷ 1 ∷ [] }
    -- the search range doesn't run over at either end
    ∷ record { given = searched 3 8; wanted = 7 ∷ 4 ∷ [] }
    ∷ record { given = searched 0 1; wanted = 0 ∷ 1 ∷ [] }
    ∷ record { given = searched 65534 65535; wanted = 65534 ∷ 65535 ∷ [] }
    ∷ []

abbrev asked : ℕ → ℕ → Request
asked from to = record { number = 7; rank = 10; kind = 1; bounds = within from to }

abbrev fresh : List ℕ
fresh = (start_call (replicate 14 9)).state

-- the words, and the book, with the one grant
abbrev words : ℕ → ℕ → List ℕ
words from to = (grant_call fresh (asked from to)).state

abbrev given : ℕ → ℕ → Grant
given from to = record { number = 7; rank = 10; kind = Opens; bounds = within from to }

-- what the book and the words answer to a grant, and to a list of these quarters
abbrev granted : ℕ → ℕ → List ℕ
granted from to = responses (book_grant (empty_book 1) (asked from to)).answer ++ responses (grant_call fresh (asked from to)).answer

abbrev listed : ℕ → ℕ → List ℕ
listed from to =
    responses (book_list (book_of 1 (given 5 9 ∷ [])) (within from to) Touching (one 0)).answer
    ++ responses (list_call (words 5 9) (within from to) Touching (one 0)).answer

abbrev doors : Interval
doors = record { from = 3; to = 3 }

-- load and match of a file with the grant
abbrev judged : ℕ → ℕ → List ℕ
judged from to =
    let f = file_of doors (given from to ∷ []) in
    responses (load_call fresh f).answer ++ responses (match_call fresh f).answer

abbrev given_cases : List Case
given_cases =
    record { given = granted 5 6 ++ granted 5 5 ++ granted 6 5; wanted = 0 ∷ 0 ∷ 2 ∷ 2 ∷ 2 ∷ 2 ∷ [] }
    ∷ record { given = granted 0 1 ++ granted 0 0; wanted = 0 ∷ 0 ∷ 2 ∷ 2 ∷ [] }
    ∷ record { given = granted 65534 65535 ++ granted 65535 65535; wanted = 0 ∷ 0 ∷ 2 ∷ 2 ∷ [] }
    ∷ record { given = listed 6 6 ++ listed 7 6; wanted = 2 ∷ 2 ∷ 2 ∷ 2 ∷ [] }
    ∷ record { given = listed 0 0 ++ listed 65535 65535; wanted = 2 ∷ 2 ∷ 2 ∷ 2 ∷ [] }
    -- taken, match names the grant that the pool lacks
    ∷ record { given = judged 5 6; wanted = 0 ∷ 0 ∷ 7 ∷ [] }
    ∷ record { given = judged 5 5; wanted = 13 ∷ 1 ∷ 13 ∷ 1 ∷ [] }
    ∷ record { given = judged 6 5; wanted = 13 ∷ 1 ∷ 13 ∷ 1 ∷ [] }
    ∷ []

-- how the book, and the words, decide at a quarter where the one grant covers these: 1 opens, 0 none
abbrev kinds : List ℕ → List ℕ
kinds values = one (get_or values 1 9)

abbrev decided : ℕ → ℕ → ℕ → List ℕ
decided from to q =
    kinds (responses (book_decide (book_of 1 (given from to ∷ [])) 8 3 q).answer) ++ kinds (responses (decide_call (words from to) 8 3 q).answer)

abbrev asked_cases : List Case
asked_cases =
    -- list: up to the grant's from, over it, its last quarter, from its to on
    record { given = listed 0 5 ++ listed 4 6; wanted = 0 ∷ 0 ∷ 0 ∷ 0 ∷ 0 ∷ 1 ∷ 0 ∷ 1 ∷ [] }
    ∷ record { given = listed 8 9 ++ listed 9 10; wanted = 0 ∷ 1 ∷ 0 ∷ 1 ∷ 0 ∷ 0 ∷ 0 ∷ 0 ∷ [] }
    -- decide: before it, its first and its last quarter, its to
    ∷ record { given = decided 5 9 4 ++ decided 5 9 5 ++ decided 5 9 8 ++ decided 5 9 9; wanted = 0 ∷ 0 ∷ 1 ∷ 1 ∷ 1 ∷ 1 ∷ 0 ∷ 0 ∷ [] }
    ∷ record { given = decided 0 1 0 ++ decided 0 1 1; wanted = 1 ∷ 1 ∷ 0 ∷ 0 ∷ [] }
    ∷ record { given = decided 65534 65535 65533 ++ decided 65534 65535 65534; wanted = 0 ∷ 0 ∷ 1 ∷ 1 ∷ [] }
    ∷ record { given = decided 65534 65535 65535 ++ decided 0 65535 65535; wanted = 0 ∷ 0 ∷ 0 ∷ 0 ∷ [] }
    ∷ []

-- one whose root is above C
abbrev broken : List ℕ
broken = pool 1 2 0 []

-- 9 by the links, then the answer
abbrev walked : List ℕ → ℕ → List ℕ
walked w q = test (point_meets9 w 8 3 q) ++ responses (decide_call w 8 3 q).answer

abbrev broken_cases : List Case
broken_cases =
    record { given = walked broken 0 ++ walked broken 65534; wanted = 1 ∷ 9 ∷ 1 ∷ 9 ∷ [] }
    ∷ record { given = walked broken 65535; wanted = 0 ∷ 0 ∷ 0 ∷ [] }
    ∷ record { given = responses (decide_call (replicate 13 1) 8 3 65535).answer; wanted = one 1 }
    ∷ []

-- a pool with one cell of these quarters: what list answers to a box, and decide at a quarter
abbrev cell : ℕ → ℕ → List ℕ
cell from to = pool 1 1 0 (0 ∷ 0 ∷ 7 ∷ 21 ∷ 8 ∷ 8 ∷ 3 ∷ 3 ∷ from ∷ to ∷ 0 ∷ [])

abbrev hit : List ℕ → ℕ → ℕ → List ℕ
hit w from to = responses (list_call w (within from to) Touching (one 0)).answer

abbrev cell_cases : List Case
cell_cases =
    record { given = hit (cell 5 5) 3 8 ++ hit (cell 5 5) 5 8 ++ hit (cell 5 5) 3 5; wanted = 0 ∷ 1 ∷ 0 ∷ 0 ∷ 0 ∷ 0 ∷ [] }
    ∷ record { given = kinds (responses (decide_call (cell 5 5) 8 3 5).answer); wanted = one 0 }
    ∷ record { given = hit (cell 9 2) 1 10 ++ hit (cell 9 2) 2 10 ++ hit (cell 9 2) 1 9; wanted = 0 ∷ 1 ∷ 0 ∷ 0 ∷ 0 ∷ 0 ∷ [] }
    ∷ []

abbrev pub quarter_cases : List Case
quarter_cases = range_cases ++ given_cases ++ asked_cases ++ broken_cases ++ cell_cases
