-- Fault 9 on small scrambled pools, as rows of `tried-cases`. Each row has what document 01 gives, worked out by hand, beside 9 as
-- LinkCauses says it (1 where it is met) and the answer of the call, which goes by the walks that stop. Each cell that is met names its parent,
-- where no row says otherwise; 9 by another parent is in ParentCases. Assumes nothing.
--   deep_cases      cells down to level 112, and what is below; link_cases: all others
--   stray_cases     links above C, met and not met
--   free_cases      the free head and its cell's left link
--   removal_cases   the removal walk where the number's search does not go
--   many_cases      C meetings, and one more
--   root_cases      the root above C, in every call that walks
--   granted, revoked, listed, decided, counted, everyone     a row's two sayings of 9, for ParentCases too
use Prim.Native.Nat.{ℕ}
use mathlib.Core.List.{List, [], ◌∷◌, ◌++◌}
use Rattle.model.specs.declared.Box.{Box}
use Rattle.model.specs.declared.Choice.TheVariants.{Touching}
use Rattle.model.specs.Interval.{Interval}
use Rattle.model.specs.Call.{Request}
use Rattle.geometry.specs.declared.Side.TheVariants.{Left, Right}
use Rattle.geometry.specs.SearchRange.{range_of_box, range_of_doors, range_of_number, range_of_all}
use Rattle.grants_file.specs.File.{file_of}
use Rattle.calls.specs.LinkCauses.{search_meets9, point_meets9, grant_meets9, revoke_meets9}
use Rattle.calls.specs.Calls.{grant_call, revoke_call, list_call, decide_call, count_call}
use Rattle.calls.specs.FileCalls.{write_call, match_call}
use Rattle.claims.proofs.Cases.{Case, box, test, responses}
use Rattle.claims.proofs.Pools.{node, timed, chain, pool}

-- 9 by the links, then the answer
abbrev pub granted : List ℕ → Request → List ℕ
granted w r = test (grant_meets9 w r) ++ responses (grant_call w r).answer

-- 9 of the number's search alone, 9 of revoke, then the answer
abbrev pub revoked : List ℕ → ℕ → List ℕ
revoked w n = test (search_meets9 w (range_of_number n)) ++ test (revoke_meets9 w n) ++ responses (revoke_call w n).answer

abbrev pub listed : List ℕ → Box → List ℕ → List ℕ
listed w b lent = test (search_meets9 w (range_of_box b)) ++ responses (list_call w b Touching lent).answer

abbrev pub decided : List ℕ → ℕ → ℕ → ℕ → List ℕ
decided w staff door quarter =
    test (point_meets9 w staff door quarter) ++ responses (decide_call w staff door quarter).answer

abbrev pub counted : List ℕ → List ℕ
counted w = test (search_meets9 w range_of_all) ++ responses (count_call w).answer

abbrev written : List ℕ → Interval → List ℕ → List ℕ
written w doors lent = test (search_meets9 w (range_of_doors doors)) ++ responses (write_call w doors lent).answer

abbrev matched : List ℕ → Interval → List ℕ
matched w doors = test (search_meets9 w (range_of_doors doors)) ++ responses (match_call w (file_of doors [])).answer

-- a grant of the number for the least box that has a point
abbrev pub request : ℕ → Request
request number = record { number = number; rank = 0; kind = 0; bounds = box 0 0 0 0 0 1 }

-- the cell 113 with the links l and r and the number n, and the cell 114, which names it as its parent. The pools with these cells have 120, so
-- that 9 is never by their number.
abbrev last : ℕ → ℕ → ℕ → List ℕ
last l r n = node l r n 112 ++ node 0 0 0 113

-- 112 cells to the right, and the cell 113 at level 112. Of 65534 only the last bit is 0: the last halving, at level 111, leads it to the left.
abbrev deep : ℕ → ℕ → ℕ → List ℕ
deep l r n = pool 120 1 0 (chain Right 111 1 ++ node 113 0 0 111 ++ last l r n)

-- 112 cells on the way of the least box and the number 1: to the left, but for the quarter to at level 110 and the number at level 111, where
-- the last cell has the link x on its right
abbrev straight : ℕ → ℕ → List ℕ → List ℕ
straight free x others = pool 120 1 free (chain Left 110 1 ++ node 0 112 0 110 ++ node 0 x 0 111 ++ others)

-- a blank link below level 111
abbrev shallow : ℕ → List ℕ
shallow free = straight free 0 []

-- the cell 113 at level 112
abbrev bottom : ℕ → ℕ → ℕ → ℕ → List ℕ
bottom free l r n = straight free 113 (last l r n)

abbrev pub deep_cases : List Case
deep_cases =
    -- a cell at level 112 is met, counted and perhaps a hit
    record { given = revoked (deep 0 0 0) 65534; wanted = 0 ∷ 0 ∷ 7 ∷ [] }
    ∷ record { given = revoked (deep 0 0 65534) 65534; wanted = 0 ∷ 0 ∷ 0 ∷ [] }
    -- a link of it that isn't 0, on either side, leads below
    ∷ record { given = revoked (deep 114 0 0) 65534; wanted = 1 ∷ 1 ∷ 9 ∷ [] }
    ∷ record { given = revoked (deep 0 114 0) 65534; wanted = 1 ∷ 1 ∷ 9 ∷ [] }
    -- list and decide come to such a cell too
    ∷ record { given = listed (bottom 0 0 0 0) (box 0 0 0 0 0 1) []; wanted = 0 ∷ 0 ∷ 0 ∷ [] }
    ∷ record { given = listed (bottom 0 114 0 0) (box 0 0 0 0 0 1) []; wanted = 1 ∷ 9 ∷ [] }
    ∷ record { given = decided (bottom 0 0 0 0) 0 0 0; wanted = 0 ∷ 0 ∷ 0 ∷ [] }
    ∷ record { given = decided (bottom 0 0 114 0) 0 0 0; wanted = 1 ∷ 9 ∷ [] }
    -- so does count
    ∷ record { given = counted (deep 114 0 0); wanted = 1 ∷ 9 ∷ [] }
    -- grant's way down: the blank link below level 111 will do, a cell at level 112 will not; with no free cell 6 comes after that
    ∷ record { given = granted (shallow 120) (request 1); wanted = 0 ∷ 0 ∷ [] }
    ∷ record { given = granted (shallow 0) (request 1); wanted = 0 ∷ 6 ∷ [] }
    ∷ record { given = granted (bottom 120 0 0 0) (request 1); wanted = 1 ∷ 9 ∷ [] }
    ∷ record { given = granted (bottom 0 0 0 0) (request 1); wanted = 1 ∷ 9 ∷ [] }
    -- a number that is found: there is no way down
    ∷ record { given = granted (bottom 0 0 0 1) (request 1); wanted = 0 ∷ 5 ∷ [] }
    ∷ []

-- a cell with the number 7, and behind it on the right, from staff 32768 on, a link above C
abbrev stray : List ℕ
stray = pool 3 1 2 (timed 0 4 7 0)

-- seven cells to the left; the last is at level 6, which halves the numbers, and has the links l and r; the first has the number n
abbrev pub seven : ℕ → ℕ → ℕ → List ℕ
seven n l r = node 2 0 n 0 ++ chain Left 5 2 ++ node l r 0 6

-- these cells alone
abbrev seventh : ℕ → ℕ → ℕ → List ℕ
seventh n l r = pool 7 1 0 (seven n l r)

abbrev pub stray_cases : List Case
stray_cases =
    record { given = listed stray (box 0 32767 0 65535 0 65535) (0 ∷ []); wanted = 0 ∷ 0 ∷ 1 ∷ [] }
    ∷ record { given = listed stray (box 0 32768 0 65535 0 65535) (0 ∷ []); wanted = 1 ∷ 9 ∷ [] }
    ∷ record { given = decided stray 32767 0 0; wanted = 0 ∷ 0 ∷ 0 ∷ [] }
    ∷ record { given = decided stray 32768 0 0; wanted = 1 ∷ 9 ∷ [] }
    ∷ record { given = counted stray; wanted = 1 ∷ 9 ∷ [] }
    -- a link above 7 cells to the right of level 6: the numbers from 32768 on
    ∷ record { given = revoked (seventh 0 0 8) 32767; wanted = 0 ∷ 0 ∷ 7 ∷ [] }
    ∷ record { given = revoked (seventh 0 0 8) 32768; wanted = 1 ∷ 1 ∷ 9 ∷ [] }
    ∷ record { given = granted (seventh 0 0 8) (request 32767); wanted = 0 ∷ 6 ∷ [] }
    ∷ record { given = granted (seventh 0 0 8) (request 32768); wanted = 1 ∷ 9 ∷ [] }
    ∷ []

-- the number 7 in the first of three cells; the third has the links l and r
abbrev three_cells : ℕ → ℕ → ℕ → List ℕ
three_cells free l r = pool 3 1 free (node 0 0 7 0 ++ node 0 0 0 0 ++ node l r 0 0)

abbrev pub free_cases : List Case
free_cases =
    record { given = granted (three_cells 4 0 0) (request 8); wanted = 1 ∷ 9 ∷ [] }
    ∷ record { given = granted (three_cells 3 4 0) (request 8); wanted = 1 ∷ 9 ∷ [] }
    ∷ record { given = granted (three_cells 3 3 0) (request 8); wanted = 0 ∷ 0 ∷ [] }
    -- nothing else of the free cell matters; with the free head 0 no cell is read
    ∷ record { given = granted (three_cells 3 0 4) (request 8); wanted = 0 ∷ 0 ∷ [] }
    ∷ record { given = granted (three_cells 0 4 4) (request 8); wanted = 0 ∷ 6 ∷ [] }
    -- where the number is found, and in other calls, the free head is not read as a link
    ∷ record { given = granted (three_cells 4 0 0) (request 7); wanted = 0 ∷ 5 ∷ [] }
    ∷ record { given = revoked (three_cells 4 0 0) 7; wanted = 0 ∷ 0 ∷ 0 ∷ [] }
    ∷ record { given = counted (three_cells 4 0 0); wanted = 0 ∷ 0 ∷ 1 ∷ 2 ∷ [] }
    ∷ []

-- the same seven, and an eighth cell that names the last of them as its parent
abbrev eighth : ℕ → ℕ → ℕ → List ℕ
eighth n l r = pool 8 1 0 (seven n l r ++ node 0 0 0 7)

-- the number 65535 in the root's cell, and to the left of it 112 levels of cells; the last has the links l and r
abbrev leftwards : ℕ → ℕ → List ℕ
leftwards l r = pool 120 1 0 (node 2 0 65535 0 ++ chain Left 111 2 ++ last l r 0)

-- the number 5 in the cell 3, from which the removal walk comes to a link above C, and n in the root's, from which it comes to the cell 2
abbrev two_hits : ℕ → List ℕ
two_hits n = pool 9 1 0 (node 2 3 n 0 ++ node 0 0 0 1 ++ node 4 0 5 1 ++ chain Left 4 4 ++ node 0 10 0 7)

abbrev pub removal_cases : List Case
removal_cases =
    -- the search for 65535 does not go to the left of level 6, the removal walk does: to a link above C, to a terminal cell
    record { given = revoked (eighth 65535 9 0) 65535; wanted = 0 ∷ 1 ∷ 9 ∷ [] }
    ∷ record { given = revoked (eighth 65535 8 0) 65535; wanted = 0 ∷ 0 ∷ 0 ∷ [] }
    -- left isn't 0: right is not met, though it is above C; left is 0
    ∷ record { given = revoked (eighth 5 8 9) 5; wanted = 0 ∷ 0 ∷ 0 ∷ [] }
    ∷ record { given = revoked (eighth 5 0 9) 5; wanted = 0 ∷ 1 ∷ 9 ∷ [] }
    -- the first hit alone is removed
    ∷ record { given = revoked (two_hits 5) 5; wanted = 0 ∷ 0 ∷ 0 ∷ [] }
    ∷ record { given = revoked (two_hits 0) 5; wanted = 0 ∷ 1 ∷ 9 ∷ [] }
    -- a terminal cell at level 112, and links of a cell there
    ∷ record { given = revoked (leftwards 0 0) 65535; wanted = 0 ∷ 0 ∷ 0 ∷ [] }
    ∷ record { given = revoked (leftwards 114 0) 65535; wanted = 0 ∷ 1 ∷ 9 ∷ [] }
    ∷ record { given = revoked (leftwards 0 114) 65535; wanted = 0 ∷ 1 ∷ 9 ∷ [] }
    -- the hit and six cells more are C; back to the first is one more, but it names another parent already: of a call's walks only a search can
    -- meet more than C cells
    ∷ record { given = revoked (seventh 65535 0 0) 65535; wanted = 0 ∷ 0 ∷ 0 ∷ [] }
    ∷ record { given = revoked (seventh 65535 1 0) 65535; wanted = 0 ∷ 1 ∷ 9 ∷ [] }
    ∷ []

-- four meetings: the cells 1, 2, 3, and 3 again, since both links of 2 lead to it
abbrev four : ℕ → ℕ → List ℕ
four c free = pool c 1 free (timed 2 0 0 0 ++ timed 3 3 0 1 ++ timed 0 0 0 2)

abbrev pub many_cases : List Case
many_cases =
    record { given = counted (four 4 0); wanted = 0 ∷ 0 ∷ 4 ∷ 0 ∷ [] }
    ∷ record { given = counted (four 3 0); wanted = 1 ∷ 9 ∷ [] }
    ∷ record { given = revoked (four 4 0) 8; wanted = 0 ∷ 0 ∷ 7 ∷ [] }
    ∷ record { given = revoked (four 3 0) 8; wanted = 1 ∷ 1 ∷ 9 ∷ [] }
    -- each walk counts its own: the search met four, the way down meets three more, and the free head's cell isn't counted
    ∷ record { given = granted (four 4 4) (request 8); wanted = 0 ∷ 0 ∷ [] }
    ∷ record { given = granted (four 3 3) (request 8); wanted = 1 ∷ 9 ∷ [] }
    -- 8 goes by the hits, one each time that a cell is met
    ∷ record { given = listed (four 4 0) (box 0 65535 0 65535 0 65535) (0 ∷ 0 ∷ 0 ∷ []); wanted = 0 ∷ 8 ∷ 4 ∷ [] }
    ∷ []

abbrev pub everyone : List ℕ → List ℕ
everyone w =
    listed w (box 0 0 0 0 0 1) []
    ++ decided w 0 0 0
    ++ counted w
    ++ written w (record { from = 0; to = 0 }) []
    ++ matched w (record { from = 0; to = 0 })
    ++ granted w (request 8)
    ++ revoked w 8

abbrev pub root_cases : List Case
root_cases =
    record {
      given = everyone (pool 3 4 1 []);
      wanted = 1 ∷ 9 ∷ 1 ∷ 9 ∷ 1 ∷ 9 ∷ 1 ∷ 9 ∷ 1 ∷ 9 ∷ 1 ∷ 9 ∷ 1 ∷ 1 ∷ 9 ∷ [];
    }
    -- C is no cause: one cell, which all but the number's search hit
    ∷ record {
      given = everyone (pool 3 3 1 (node 0 0 0 0 ++ node 0 0 0 0 ++ timed 0 0 0 0));
      wanted =
          0 ∷ 8 ∷ 1
          ∷ 0 ∷ 0 ∷ 2 ∷ 0 ∷ 0 ∷ 0 ∷ 0 ∷ 0 ∷ 0 ∷ 0 ∷ 0 ∷ 1
          ∷ 0 ∷ 0 ∷ 1 ∷ 2
          ∷ 0 ∷ 14 ∷ 1024
          ∷ 0 ∷ 0 ∷ 0
          ∷ 0 ∷ 0
          ∷ 0 ∷ 0 ∷ 7
          ∷ [];
    }
    ∷ []

abbrev pub link_cases : List Case
link_cases = stray_cases ++ free_cases ++ removal_cases ++ many_cases ++ root_cases
