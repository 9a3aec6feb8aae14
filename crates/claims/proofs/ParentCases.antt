-- Parents on numbers, as rows of `tried-cases`: those that calls leave, and fault 9 where a walk meets a cell that names another parent than
-- the cell it came from. What is wanted was worked out by hand from document 02, card 6. 9 of a call is said twice, as in LinkCases: by the
-- links, and by the answer. Assumes nothing.
--   left_cases      the links and parents that grants and revokes of every shape leave; TriedCases has all words of some
--   nine_cases      the root's cell names a parent, a child another: in every call that walks
--   unmet_cases     a cell behind a link that isn't gone through names anything
--   down_cases      grant's way down, which after its search finds no wrong parent, alone
--   removal_cases   the removal walk where the number's search did not go
--   free_cases      the free head's cell isn't tested; grant stores its parent
--   stray_cases     the revoked cell's right link, which no walk met, is above C, or leads anywhere
--   ring_cases      links that form a ring: the first cell, met again, names another parent
use Prim.Native.Nat.{ℕ}
use mathlib.Core.List.{List, [], ◌∷◌, ◌++◌, map, flat_map}
use lib.ListN.{take, drop, replicate}
use Rattle.lists.specs.Ranges.{count_from}
use Rattle.model.specs.Call.{Request, requested, Call, grant, revoke}
use Rattle.model.specs.Histories.{after}
use Rattle.geometry.specs.declared.Side.TheVariants.{Left, Right}
use Rattle.geometry.specs.Point.{point_of}
use Rattle.pool.specs.declared.Field.TheVariants as field
use Rattle.pool.specs.Layout.{field_of}
use Rattle.pool.specs.Capacity.{capacity_of}
use Rattle.adt.specs.Links.{broken_by, insertion_links}
use Rattle.calls.specs.Walks.{insertion_walk}
use Rattle.calls.specs.Causes.{insertion_broken}
use Rattle.calls.specs.Calls.{start_call, grant_call, revoke_call, words_step}
use Rattle.claims.proofs.Cases.{Case, box, test}
use Rattle.claims.proofs.Pools.{node, timed, chain, pool}
use Rattle.claims.proofs.LinkCases.{granted, revoked, listed, decided, counted, request, seven, everyone}

-- left, right, number and parent of a cell
abbrev cell : ℕ → ℕ → ℕ → ℕ → List ℕ
cell left right number parent = left ∷ right ∷ number ∷ parent ∷ []

-- the root, the free head, and so much of each cell
abbrev links : List ℕ → List ℕ
links w =
    take 2 (drop 1 w)
    ++ flat_map (λ k. cell (field_of w k field.Left) (field_of w k field.Right) (field_of w k field.Number) (field_of w k field.Parent))
    (count_from 1 (capacity_of w))

-- a grant from this staff number and this door on: at levels 0 and 1 it goes left below 32768
abbrev grant_from : ℕ → ℕ → ℕ → Call
grant_from number staff door = grant (record { number = number; rank = 200; kind = 0; bounds = box staff 65535 door 65535 0 1 })

-- six grants, each in the cell of its number: 1 has the children 2 and 3, 2 has 4 and 5, and 4 has 6
abbrev grants : List Call
grants = grant_from 1 0 0 ∷ grant_from 2 0 0 ∷ grant_from 3 40000 0 ∷ grant_from 4 0 0 ∷ grant_from 5 0 40000 ∷ grant_from 6 0 0 ∷ []

-- the words after the calls, and then the revokes of these numbers, on six cells
abbrev words_after : List Call → List ℕ → List ℕ
words_after cs ns = after words_step (start_call (replicate 69 9)).state (cs ++ map revoke ns)

abbrev left_cases : List Case
left_cases =
    record {
      given = links (words_after grants []);
      wanted = 1 ∷ 0 ∷ cell 2 3 1 0 ++ cell 4 5 2 1 ++ cell 0 0 3 1 ++ cell 6 0 4 2 ++ cell 0 0 5 2 ++ cell 0 0 6 4;
    }
    -- a terminal cell is cut off
    ∷ record {
      given = links (words_after grants (6 ∷ []));
      wanted = 1 ∷ 6 ∷ cell 2 3 1 0 ++ cell 4 5 2 1 ++ cell 0 0 3 1 ++ cell 0 0 4 2 ++ cell 0 0 5 2 ++ cell 0 0 0 0;
    }
    -- one child, which is the terminal cell
    ∷ record {
      given = links (words_after grants (4 ∷ []));
      wanted = 1 ∷ 4 ∷ cell 2 3 1 0 ++ cell 6 5 2 1 ++ cell 0 0 3 1 ++ cell 0 0 0 0 ++ cell 0 0 5 2 ++ cell 0 0 6 2;
    }
    -- two children, the terminal cell behind one of them
    ∷ record {
      given = links (words_after grants (2 ∷ []));
      wanted = 1 ∷ 2 ∷ cell 6 3 1 0 ++ cell 0 0 0 0 ++ cell 0 0 3 1 ++ cell 0 0 4 6 ++ cell 0 0 5 6 ++ cell 4 5 6 1;
    }
    -- two children, the terminal cell one of them; then the right one alone
    ∷ record {
      given = links (words_after grants (6 ∷ 2 ∷ []));
      wanted = 1 ∷ 2 ∷ cell 4 3 1 0 ++ cell 6 0 0 0 ++ cell 0 0 3 1 ++ cell 0 5 4 1 ++ cell 0 0 5 4 ++ cell 0 0 0 0;
    }
    ∷ record {
      given = links (words_after grants (6 ∷ 4 ∷ 2 ∷ []));
      wanted = 1 ∷ 2 ∷ cell 5 3 1 0 ++ cell 4 0 0 0 ++ cell 0 0 3 1 ++ cell 6 0 0 0 ++ cell 0 0 5 1 ++ cell 0 0 0 0;
    }
    -- the root's cell; then the same number anew, behind the cell that took its place
    ∷ record {
      given = links (words_after grants (1 ∷ []));
      wanted = 6 ∷ 1 ∷ cell 0 0 0 0 ++ cell 4 5 2 6 ++ cell 0 0 3 6 ++ cell 0 0 4 2 ++ cell 0 0 5 2 ++ cell 2 3 6 0;
    }
    ∷ record {
      given = links (words_after (grants ++ (revoke 1 ∷ grant_from 1 0 0 ∷ [])) []);
      wanted = 6 ∷ 0 ∷ cell 0 0 1 4 ++ cell 4 5 2 6 ++ cell 0 0 3 6 ++ cell 1 0 4 2 ++ cell 0 0 5 2 ++ cell 2 3 6 0;
    }
    -- the only cell: the words are start's again
    ∷ record { given = words_after (take 1 grants) (1 ∷ []); wanted = words_after [] [] }
    ∷ []

-- the root's cell names p, its child on the left q; the third cell is free
abbrev pair : ℕ → ℕ → List ℕ
pair p q = pool 3 1 3 (timed 2 0 7 p ++ timed 0 0 5 q)

abbrev all_nine : List ℕ
all_nine = 1 ∷ 9 ∷ 1 ∷ 9 ∷ 1 ∷ 9 ∷ 1 ∷ 9 ∷ 1 ∷ 9 ∷ 1 ∷ 9 ∷ 1 ∷ 1 ∷ 9 ∷ []

abbrev nine_cases : List Case
nine_cases =
    -- the root's cell: itself, its child, a number above C
    record { given = everyone (pair 1 1); wanted = all_nine }
    ∷ record { given = everyone (pair 2 1); wanted = all_nine }
    ∷ record { given = everyone (pair 4 1); wanted = all_nine }
    -- the child: none, itself, another cell, a number above C
    ∷ record { given = everyone (pair 0 0); wanted = all_nine }
    ∷ record { given = everyone (pair 0 2); wanted = all_nine }
    ∷ record { given = everyone (pair 0 3); wanted = all_nine }
    ∷ record { given = everyone (pair 0 4); wanted = all_nine }
    -- each as it should be
    ∷ record { given = counted (pair 0 1); wanted = 0 ∷ 0 ∷ 2 ∷ 1 ∷ [] }
    ∷ record { given = revoked (pair 0 1) 7; wanted = 0 ∷ 0 ∷ 0 ∷ [] }
    -- a search runs to its end: 9 also where its number was found before
    ∷ record { given = granted (pair 0 0) (request 7); wanted = 1 ∷ 9 ∷ [] }
    ∷ record { given = revoked (pair 0 0) 7; wanted = 1 ∷ 1 ∷ 9 ∷ [] }
    ∷ []

-- the child is on the right, from staff 32768 on, and names a cell that isn't there
abbrev apart : List ℕ
apart = pool 3 1 3 (timed 0 2 7 0 ++ timed 0 0 5 9)

-- seven cells to the left, the last at level 6, which halves the numbers; on its left the cell 8, which names p, and on its right, if r is 9,
-- the cell 9, which names the root's
abbrev eighth : ℕ → ℕ → ℕ → List ℕ
eighth n r p = pool 10 1 10 (seven n 8 r ++ node 0 0 0 p ++ node 0 0 0 1)

abbrev unmet_cases : List Case
unmet_cases =
    record { given = listed apart (box 0 32767 0 65535 0 65535) (0 ∷ []); wanted = 0 ∷ 0 ∷ 1 ∷ [] }
    ∷ record { given = listed apart (box 0 32768 0 65535 0 65535) (0 ∷ []); wanted = 1 ∷ 9 ∷ [] }
    ∷ record { given = decided apart 32767 0 0; wanted = 0 ∷ 0 ∷ 0 ∷ [] }
    ∷ record { given = decided apart 32768 0 0; wanted = 1 ∷ 9 ∷ [] }
    -- the numbers from 32768 on don't go to the cell 8, those below do
    ∷ record { given = granted (eighth 0 0 3) (request 32768); wanted = 0 ∷ 0 ∷ [] }
    ∷ record { given = granted (eighth 0 0 3) (request 32767); wanted = 1 ∷ 9 ∷ [] }
    ∷ []

-- whether the way down is broken: by itself, and by its links
abbrev down : List ℕ → Request → List ℕ
down w r = test (insertion_broken (insertion_walk w r)) ++ test (broken_by w (capacity_of w) 0 (insertion_links w (point_of (requested r))))

abbrev down_cases : List Case
down_cases =
    record { given = down (pair 0 1) (request 8); wanted = 0 ∷ 0 ∷ [] }
    ∷ record { given = down (pair 3 1) (request 8); wanted = 1 ∷ 1 ∷ [] }
    ∷ record { given = down (pair 0 3) (request 8); wanted = 1 ∷ 1 ∷ [] }
    -- the way goes to the left
    ∷ record { given = down apart (request 8); wanted = 0 ∷ 0 ∷ [] }
    ∷ []

abbrev removal_cases : List Case
removal_cases =
    -- the search for 65535 does not go to the left of level 6, the removal walk does
    record { given = revoked (eighth 65535 0 7) 65535; wanted = 0 ∷ 0 ∷ 0 ∷ [] }
    ∷ record { given = revoked (eighth 65535 0 6) 65535; wanted = 0 ∷ 1 ∷ 9 ∷ [] }
    ∷ record { given = revoked (eighth 65535 0 0) 65535; wanted = 0 ∷ 1 ∷ 9 ∷ [] }
    -- left isn't 0: the cell on the right, which names another parent, is met by neither walk
    ∷ record { given = revoked (eighth 5 9 7) 5; wanted = 0 ∷ 0 ∷ 0 ∷ [] }
    ∷ []

-- the number 7 in the root's cell; the free head's cell names p
abbrev free : ℕ → List ℕ
free p = pool 3 1 3 (node 0 0 7 0 ++ node 0 0 0 0 ++ node 2 0 0 p)

abbrev free_cases : List Case
free_cases =
    record { given = granted (free 0) (request 8); wanted = 0 ∷ 0 ∷ [] }
    ∷ record { given = granted (free 2) (request 8); wanted = 0 ∷ 0 ∷ [] }
    ∷ record { given = granted (free 4) (request 8); wanted = 0 ∷ 0 ∷ [] }
    ∷ record { given = links (grant_call (free 4) (request 8)).state; wanted = 1 ∷ 2 ∷ cell 3 0 7 0 ++ cell 0 0 0 0 ++ cell 0 0 8 1 }
    ∷ []

-- the number 5 in the seventh cell, at level 6: its search goes to the left, to the cell 8, and so does the removal walk; on the right is r
abbrev unmet : ℕ → List ℕ
unmet r = pool 8 1 0 (chain Left 6 1 ++ node 8 r 5 6 ++ node 0 0 0 7)

abbrev stray_cases : List Case
stray_cases =
    -- above C: the cell 8 takes the link, and nothing is stored for it
    record { given = revoked (unmet 9) 5; wanted = 0 ∷ 0 ∷ 0 ∷ [] }
    ∷ record {
      given = (revoke_call (unmet 9) 5).state;
      wanted = pool 8 1 7 (chain Left 5 1 ++ node 8 0 0 5 ++ node 0 0 0 0 ++ node 0 9 0 6);
    }
    -- to the third cell: that names the cell 8 as its parent then
    ∷ record {
      given = (revoke_call (unmet 3) 5).state;
      wanted = pool 8 1 7 (chain Left 2 1 ++ node 4 0 0 8 ++ chain Left 2 4 ++ node 8 0 0 5 ++ node 0 0 0 0 ++ node 0 3 0 6);
    }
    ∷ []

-- seven cells, each on the right of the one before and the first on that of the last; 120 cells, so that 9 is not by their number
abbrev ring : ℕ → List ℕ
ring p = pool 120 1 0 (node 0 2 0 p ++ chain Right 5 2 ++ node 0 1 0 6)

abbrev ring_cases : List Case
ring_cases =
    record { given = revoked (ring 0) 65535; wanted = 1 ∷ 1 ∷ 9 ∷ [] }
    ∷ record { given = counted (ring 0); wanted = 1 ∷ 9 ∷ [] }
    -- the first names the last: it is not the root's then
    ∷ record { given = counted (ring 7); wanted = 1 ∷ 9 ∷ [] }
    ∷ []

abbrev pub parent_cases : List Case
parent_cases = left_cases ++ nine_cases ++ unmet_cases ++ down_cases ++ removal_cases ++ free_cases ++ stray_cases ++ ring_cases
