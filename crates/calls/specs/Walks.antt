-- The walks of a call (document 01, "The walks of a call"), and what a call takes from them.
--   box_search, quarter_search, point_search, number_search, full_search, door_search    what is searched for
--   no_walk                            a search of nothing
--   is_broken, hits_of, first_hit        of a search: it met a cause of 9; its hits' cells in order; the first of them and its spot
--   grants_hit w s                     the grants in the hits' cells, in their order
--   insertion_walk w r                    grant's way down
--   removal_of w s                     the removal walk from the first hit of a search; from cell 0 where there is none
-- A broken search has no hits. Assumes nothing: these are definitions.
use Rattle.std.specs.Prelude.{ℕ, Bool, true, false, cond, List, [], map, get_or}
use Rattle.model.specs.declared.Box.{Box}
use Rattle.model.specs.declared.Grant.{Grant}
use Rattle.model.specs.declared.Choice.{Choice}
use Rattle.model.specs.declared.Choice.TheVariants.{Touching}
use Rattle.model.specs.Interval.{Interval}
use Rattle.model.specs.Quarters.{coverable}
use Rattle.model.specs.Box.{point_box}
use Rattle.model.specs.Relation.{taken}
use Rattle.model.specs.Call.{Request, requested}
use Rattle.geometry.specs.Point.{point_of}
use Rattle.geometry.specs.SearchRange.{range_of_box, range_of_doors, range_of_number, range_of_all}
use Rattle.pool.specs.Cell.{grant_at}
use Rattle.adt.specs.Search.{Spot, nowhere, Search, broken, going, search_by, search}
use Rattle.adt.specs.Insert.{InsertionWalk, descend}
use Rattle.adt.specs.Remove.{RemovalWalk, terminal_from}

-- list searches its box, through its range; its hits are the cells met that the choice takes (document 02, card 4)
abbrev pub box_search : List ℕ → Box → Choice → Search
box_search w q choice = search_by w (range_of_box q) (taken choice q)

-- nothing is walked
abbrev pub no_walk : Search
no_walk = going 0 [] nowhere

-- a box of one quarter is searched where a grant can cover the quarter (document 02, card 2)
abbrev pub quarter_search : List ℕ → Box → Search
quarter_search w q = cond (coverable q.quarter_from) (box_search w q Touching) no_walk

-- decide searches its point
abbrev pub point_search : List ℕ → ℕ → ℕ → ℕ → Search
point_search w staff door quarter = quarter_search w (point_box staff door quarter)

-- write and match search the doors with the staff and quarter axes free
abbrev pub door_search : List ℕ → Interval → Search
door_search w doors = search w (range_of_doors doors)

-- grant and revoke search for the number, with all other axes free
abbrev pub number_search : List ℕ → ℕ → Search
number_search w n = search w (range_of_number n)

-- count searches everything
abbrev pub full_search : List ℕ → Search
full_search w = search w range_of_all

abbrev pub is_broken : Search → Bool
is_broken broken = true
is_broken (going met hits first) = false

abbrev pub hits_of : Search → List ℕ
hits_of broken = []
hits_of (going met hits first) = hits

abbrev pub first_hit : Search → ℕ
first_hit s = get_or (hits_of s) 0 0

abbrev pub first_spot_of : Search → Spot
first_spot_of broken = nowhere
first_spot_of (going met hits first) = first

abbrev pub grants_hit : List ℕ → Search → List Grant
grants_hit w s = map (grant_at w) (hits_of s)

abbrev pub insertion_walk : List ℕ → Request → InsertionWalk
insertion_walk w r = descend w (point_of (requested r))

abbrev pub removal_of : List ℕ → Search → RemovalWalk
removal_of w s = terminal_from w (first_hit s) (first_spot_of s)
