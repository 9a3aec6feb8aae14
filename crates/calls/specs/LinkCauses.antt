-- Fault 9 of each call as document 01 says it, from the links that its walks go through (adt/specs/Links), and the hits among them.
-- Demand 1 cites these; the calls cite the walks that stop. Nothing here is taken from those: `number_live` only says that there are hits.
--   search_meets9 w q                   of a search for the range q
--   hits_by w q passes, search_hits w q  its hits: the cells met whose grants pass a test; those in the range
--   box_hits w q choice                 list's: the cells met that the choice takes
--   point_meets9 w staff door quarter   of decide: nothing is walked at a quarter that no grant can cover (document 02, card 2)
--   free_meets9 w                       the free head or its cell's left link, as grant reads them, is above C
--   grant_meets9 w r                    grant: when the number isn't found, also the way down, the free head and its cell's left link
--   revoke_meets9 w n                   revoke: when it is found, also the removal walk from the first hit, at its own level
-- Assumes nothing: these are definitions.
use Rattle.std.specs.Prelude.{ℕ, Bool, false, not, ◌&&◌, ◌||◌, List, [], ◌∷◌, ltb}
use Rattle.lists.specs.Tests.{filter, any}
use Rattle.model.specs.declared.Box.{Box}
use Rattle.model.specs.declared.Grant.{Grant}
use Rattle.model.specs.declared.Choice.{Choice}
use Rattle.model.specs.Quarters.{coverable}
use Rattle.model.specs.Box.{point_box}
use Rattle.model.specs.Relation.{taken}
use Rattle.model.specs.Call.{Request, requested}
use Rattle.geometry.specs.Region.{Region}
use Rattle.geometry.specs.Point.{point_of, in_range}
use Rattle.geometry.specs.SearchRange.{range_of_box, range_of_number}
use Rattle.pool.specs.Capacity.{capacity_of}
use Rattle.adt.specs.Links.{Link, broken_by, search_links, insertion_links, removal_links, free_links, is_hit, hits_among}
use Rattle.calls.specs.Causes.{number_live}

unfoldable pub search_meets9 : List ℕ → Region → Bool
search_meets9 w q = broken_by w (capacity_of w) 0 (search_links w q)

unfoldable pub hits_by : List ℕ → Region → (Grant → Bool) → List ℕ
hits_by w q passes = hits_among w passes (search_links w q)

abbrev pub search_hits : List ℕ → Region → List ℕ
search_hits w q = hits_by w q (in_range q)

abbrev pub box_hits : List ℕ → Box → Choice → List ℕ
box_hits w q choice = hits_by w (range_of_box q) (taken choice q)

unfoldable pub point_meets9 : List ℕ → ℕ → ℕ → ℕ → Bool
point_meets9 w staff door quarter = coverable quarter && search_meets9 w (range_of_box (point_box staff door quarter))

abbrev pub free_meets9 : List ℕ → Bool
free_meets9 w = any (ltb (capacity_of w)) (free_links w)

unfoldable pub grant_meets9 : List ℕ → Request → Bool
grant_meets9 w r =
    let q = range_of_number r.number in
    search_meets9 w q
    || not (number_live (search_hits w q)) && (broken_by w (capacity_of w) 0 (insertion_links w (point_of (requested r))) || free_meets9 w)

-- the removal walk from the first of the links that are hits; none where nothing is hit
abbrev pub removal_meets9 : List ℕ → List Link → Bool
removal_meets9 w [] = false
removal_meets9 w (first ∷ others) = broken_by w (capacity_of w) 1 (removal_links w first.to first.level)

unfoldable pub revoke_meets9 : List ℕ → ℕ → Bool
revoke_meets9 w n =
    let q = range_of_number n in
    search_meets9 w q || removal_meets9 w (filter (is_hit w (in_range q)) (search_links w q))
