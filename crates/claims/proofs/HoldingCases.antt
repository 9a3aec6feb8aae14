-- How a grant stands to a box, and list's choice, on numbers, as rows of `tried-cases`. What is wanted was worked out by hand from document 02,
-- card 4. Assumes nothing.
--   relation_cases    the answer of three: a box equal to the grant, one off at each end, held on two axes of three, apart, reversed
--   list_cases        list under either choice, in the book and on words: what is listed, 8 and its count
--   cell_cases        cells that no calls leave, and a pool that gives 9: under either choice
use Prim.Native.Nat.{ℕ}
use mathlib.Core.List.{List, [], ◌∷◌, ◌++◌}
use lib.ListN.{replicate}
use Rattle.model.specs.declared.Box.{Box}
use Rattle.model.specs.declared.Relation.{Relation}
use Rattle.model.specs.declared.Relation.TheVariants.{Apart, Touches, Holds}
use Rattle.model.specs.declared.Choice.{Choice}
use Rattle.model.specs.declared.Choice.TheVariants.{Touching, Holding}
use Rattle.model.specs.Refusal.{Step}
use Rattle.model.specs.Relation.{relation_of}
use Rattle.model.specs.Call.{Call, request, grant}
use Rattle.model.specs.Book.{Book, empty_book, book_list, book_step}
use Rattle.model.specs.Histories.{after}
use Rattle.calls.specs.Calls.{start_call, list_call, words_step}
use Rattle.claims.proofs.Cases.{Case, box, one, responses}
use Rattle.claims.proofs.Pools.{node, pool}

-- apart 0, touches 1, holds 2
abbrev answer : Relation → ℕ
answer Apart = 0
answer Touches = 1
answer Holds = 2

-- the grant's box, and how it stands to an asked one
abbrev given : Box
given = box 10 20 30 40 50 60

abbrev asked : Box → List ℕ
asked b = one (answer (relation_of given b))

-- how it stands to two boxes: the first reaches one further, the second one less
abbrev ends : Box → Box → List ℕ
ends further less = asked further ++ asked less

abbrev relation_cases : List Case
relation_cases =
    record { given = asked given; wanted = one 2 }
    -- one off at each of the six ends
    ∷ record { given = ends (box 9 20 30 40 50 60) (box 11 20 30 40 50 60); wanted = 1 ∷ 2 ∷ [] }
    ∷ record { given = ends (box 10 21 30 40 50 60) (box 10 19 30 40 50 60); wanted = 1 ∷ 2 ∷ [] }
    ∷ record { given = ends (box 10 20 29 40 50 60) (box 10 20 31 40 50 60); wanted = 1 ∷ 2 ∷ [] }
    ∷ record { given = ends (box 10 20 30 41 50 60) (box 10 20 30 39 50 60); wanted = 1 ∷ 2 ∷ [] }
    ∷ record { given = ends (box 10 20 30 40 49 60) (box 10 20 30 40 51 60); wanted = 1 ∷ 2 ∷ [] }
    ∷ record { given = ends (box 10 20 30 40 50 61) (box 10 20 30 40 50 59); wanted = 1 ∷ 2 ∷ [] }
    -- held on two axes of three; the box holds the grant
    ∷ record { given = asked (box 0 65535 31 39 51 59); wanted = one 1 }
    ∷ record { given = asked (box 11 19 0 65535 51 59); wanted = one 1 }
    ∷ record { given = asked (box 11 19 31 39 0 65535); wanted = one 1 }
    ∷ record { given = asked (box 0 65535 0 65535 0 65535); wanted = one 1 }
    -- single points at both ends; the quarter after the last; apart on each axis
    ∷ record { given = ends (box 10 10 30 30 50 51) (box 20 20 40 40 59 60); wanted = 2 ∷ 2 ∷ [] }
    ∷ record { given = ends (box 20 20 40 40 60 61) (box 10 10 30 30 49 50); wanted = 0 ∷ 0 ∷ [] }
    ∷ record { given = ends (box 21 22 30 40 50 60) (box 10 20 28 29 50 60); wanted = 0 ∷ 0 ∷ [] }
    -- boxes that fault 2 refuses: where holding's comparisons are all met and overlapping's aren't, apart is the answer
    ∷ record { given = ends (box 25 15 30 40 50 60) (box 12 9 30 40 50 60); wanted = 0 ∷ 0 ∷ [] }
    ∷ record { given = ends (box 10 20 45 35 50 60) (box 10 20 32 29 50 60); wanted = 0 ∷ 0 ∷ [] }
    ∷ record { given = ends (box 10 20 30 40 50 50) (box 10 20 30 40 55 55); wanted = 0 ∷ 2 ∷ [] }
    -- the widest box holds itself
    ∷ record { given = one (answer (relation_of (box 0 65535 0 65535 0 65535) (box 0 65535 0 65535 0 65535))); wanted = one 2 }
    ∷ []

abbrev calls : List Call
calls =
    grant (request 7 9 1 (box 15 15 30 40 0 100))
    ∷ grant (request 3 9 1 given)
    ∷ grant (request 5 9 0 (box 10 20 30 35 50 60))
    ∷ []

abbrev words : List ℕ
words = after words_step (start_call (replicate 36 9)).state calls

abbrev book : Book
book = after book_step (empty_book 3) calls

abbrev said : {S : Type 0} → Step S → List ℕ
said s = responses s.answer ++ s.lent

-- what the book and the words answer, each with its lent list
abbrev listed : Box → Choice → List ℕ → List ℕ
listed q choice lent = said (book_list book q choice lent) ++ said (list_call words q choice lent)

abbrev list_cases : List Case
list_cases =
    -- all three touch, and one of them holds it
    record { given = listed given Touching (9 ∷ 9 ∷ 9 ∷ 9 ∷ []); wanted = 0 ∷ 3 ∷ 3 ∷ 5 ∷ 7 ∷ 9 ∷ 0 ∷ 3 ∷ 3 ∷ 5 ∷ 7 ∷ 9 ∷ [] }
    ∷ record { given = listed given Holding (9 ∷ 9 ∷ 9 ∷ 9 ∷ []); wanted = 0 ∷ 1 ∷ 3 ∷ 9 ∷ 9 ∷ 9 ∷ 0 ∷ 1 ∷ 3 ∷ 9 ∷ 9 ∷ 9 ∷ [] }
    -- 8 and its count go by the choice
    ∷ record { given = listed given Touching (9 ∷ 9 ∷ []); wanted = 8 ∷ 3 ∷ 9 ∷ 9 ∷ 8 ∷ 3 ∷ 9 ∷ 9 ∷ [] }
    ∷ record { given = listed given Holding (one 9); wanted = 0 ∷ 1 ∷ 3 ∷ 0 ∷ 1 ∷ 3 ∷ [] }
    ∷ record { given = listed given Holding []; wanted = 8 ∷ 1 ∷ 8 ∷ 1 ∷ [] }
    -- all hold it; one quarter more; none holds it
    ∷ record { given = listed (box 15 15 31 34 51 59) Holding (9 ∷ 9 ∷ 9 ∷ []); wanted = 0 ∷ 3 ∷ 3 ∷ 5 ∷ 7 ∷ 0 ∷ 3 ∷ 3 ∷ 5 ∷ 7 ∷ [] }
    ∷ record { given = listed (box 15 15 31 34 51 61) Holding (one 9); wanted = 0 ∷ 1 ∷ 7 ∷ 0 ∷ 1 ∷ 7 ∷ [] }
    ∷ record { given = listed (box 9 9 31 34 51 59) Holding []; wanted = 0 ∷ 0 ∷ 0 ∷ 0 ∷ [] }
    -- fault 2 comes before
    ∷ record { given = listed (box 15 15 31 34 51 51) Holding []; wanted = 2 ∷ 2 ∷ [] }
    ∷ []

-- a cell with these ends, no links and no parent, of the number 7 at door 3
abbrev cell : ℕ → ℕ → ℕ → ℕ → List ℕ
cell staff-from staff-to quarter-from quarter-to = 0 ∷ 0 ∷ 7 ∷ 0 ∷ staff-from ∷ staff-to ∷ 3 ∷ 3 ∷ quarter-from ∷ quarter-to ∷ 0 ∷ []

-- what list answers of staff 12 at door 3 in the quarters 3 to 8, under touching and under holding
abbrev both : List ℕ → List ℕ
both w =
    let q = box 12 12 3 3 3 8 in
    responses (list_call w q Touching (one 0)).answer ++ responses (list_call w q Holding (one 0)).answer

abbrev cell_cases : List Case
cell_cases =
    record { given = both (pool 1 1 0 (cell 10 20 3 8)); wanted = 0 ∷ 1 ∷ 0 ∷ 1 ∷ [] }
    -- equal quarters and reversed ones touch where their two values lie in the range, and hold nothing that covers a quarter
    ∷ record { given = both (pool 1 1 0 (cell 10 20 5 5)); wanted = 0 ∷ 1 ∷ 0 ∷ 0 ∷ [] }
    ∷ record { given = both (pool 1 1 0 (cell 10 20 7 4)); wanted = 0 ∷ 1 ∷ 0 ∷ 0 ∷ [] }
    -- reversed staff
    ∷ record { given = both (pool 1 1 0 (cell 20 10 3 8)); wanted = 0 ∷ 0 ∷ 0 ∷ 0 ∷ [] }
    -- a link above C: one walk, so 9 under both, although nothing holds the box
    ∷ record { given = both (pool 1 1 0 (node 2 0 7 0)); wanted = 9 ∷ 9 ∷ [] }
    ∷ []

abbrev pub holding_cases : List Case
holding_cases = relation_cases ++ list_cases ++ cell_cases
