-- The causes of faults 5 to 9 and 14, each once, in the words of document 01's table. Those of 1 stand in pool/specs/Capacity, those
-- of 2 to 4 in model/specs/Arguments, those of 10 to 13 in grants_file/specs/Defects and block_read/specs/BlockRead.
--   number_live hits           5, and its opposite 7: the number is live when its search hits
--   no_free_cell w              6: a cell is free when the free head isn't 0
--   too_many_grants w f         6 in load: n above C
--   list_too_short hits lent    8, by the number of hits
--   grant_broken w r           9 in grant: the number's search, and, when it isn't found, the way down, the free head and its cell's left link
--   revoke_broken w n          9 in revoke: the number's search, and, when it is found, the removal walk from the first hit
--   lent_too_short hits lent    14, by the number of hits
-- Here 9 is that of the walks that stop, in a call that makes one search `is_broken` of Walks; LinkCauses says it as document 01 does.
-- Assumes nothing: these are definitions.
use Rattle.std.specs.Prelude.{ℕ, ◌*◌, Bool, true, false, not, ◌&&◌, ◌||◌, List, ltb, eqb, length}
use Rattle.model.specs.Call.{Request}
use Rattle.pool.specs.Capacity.{capacity_of}
use Rattle.adt.specs.Insert.{InsertionWalk, free_head, free_broken}
use Rattle.adt.specs.Insert as insert
use Rattle.adt.specs.Remove.{RemovalWalk}
use Rattle.adt.specs.Remove as remove
use Rattle.grants_file.specs.Layout.{block_bytes}
use Rattle.grants_file.specs.File.{blocks_for, total_in}
use Rattle.calls.specs.Walks.{number_search, is_broken, hits_of, insertion_walk, removal_of}

abbrev pub number_live : List ℕ → Bool
number_live hits = not (eqb (length hits) 0)

abbrev pub no_free_cell : List ℕ → Bool
no_free_cell w = eqb (free_head w) 0

abbrev pub too_many_grants : List ℕ → List ℕ → Bool
too_many_grants w f = ltb (capacity_of w) (total_in f)

abbrev pub list_too_short : List ℕ → List ℕ → Bool
list_too_short hits lent = ltb (length lent) (length hits)

abbrev pub insertion_broken : InsertionWalk → Bool
insertion_broken insert.broken = true
insertion_broken (insert.blank_at at parent) = false

abbrev pub removal_broken : RemovalWalk → Bool
removal_broken remove.broken = true
removal_broken (remove.terminal leaf at) = false

unfoldable pub grant_broken : List ℕ → Request → Bool
grant_broken w r =
    let s = number_search w r.number in
    is_broken s || not (number_live (hits_of s)) && (insertion_broken (insertion_walk w r) || free_broken w)

unfoldable pub revoke_broken : List ℕ → ℕ → Bool
revoke_broken w n =
    let s = number_search w n in
    is_broken s || number_live (hits_of s) && removal_broken (removal_of w s)

-- the length of the file that write makes
abbrev pub length_needed : List ℕ → ℕ
length_needed hits = block_bytes * blocks_for (length hits)

abbrev pub lent_too_short : List ℕ → List ℕ → Bool
lent_too_short hits lent = ltb (length lent) (length_needed hits)
