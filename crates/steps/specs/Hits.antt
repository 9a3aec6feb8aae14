-- What a search leaves for list, decide, count, write, match and the panel's who: the cells of its hits, in order, at the start of a list of 2,048 words.
--   Searchable w c q hits  what the search asks: a pool of c cells, a range of that form, and room for a hit of every cell
--   BoxSearchable w c b hits     the same for a box, which covers a quarter
--   Cells w hits           the hits are cells of the pool w
--   HitsAt w q passes hits n     the first n of the list are the hits of the search for the range q by a test
--   grants_at w hits       the grants in the cells of hits
--   numbers_at w ks         the numbers of the grants in the cells ks
--   HitsFound w q passes hits r  r says of that search that it is broken, or how many hits are at the start of the list
--   TakenFound w b choice hits r the same of the search of a box, whose hits are the cells that the choice takes
-- The contracts of inner functions cite these; no claim does. Assumes nothing: these are definitions.
use Rattle.std.specs.Prelude.{ℕ, ◌<◌, ◌≤◌, ◌≡◌, Bool, false, List, map, length, take, get_or, Result, Ok, Err}
use Rattle.model.specs.Limits.{max_grants}
use Rattle.model.specs.declared.Box.{Box}
use Rattle.model.specs.declared.Grant.{Grant}
use Rattle.model.specs.declared.Choice.{Choice}
use Rattle.model.specs.Relation.{taken}
use Rattle.geometry.specs.Region.{Region}
use Rattle.geometry.specs.SearchRange.{OneSided, range_of_box}
use Rattle.pool.specs.Capacity.{Sized, InPool, capacity_of}
use Rattle.pool.specs.Cell.{grant_at}
use Rattle.adt.specs.declared.Broken.{Broken}
use Rattle.adt.specs.Search.{broken, search_by}
use Rattle.calls.specs.Walks.{hits_of, is_broken}

-- the pool has its size, the range one of the forms of geometry's SearchRange, and the list the length of the largest pool
pub record Searchable (w : List ℕ) (c : ℕ) (q : Region) (hits : List ℕ) : Type 0 where
  pub sized : Sized w c
  pub one_sided : OneSided q
  pub room : length hits ≡ max_grants

pub record BoxSearchable (w : List ℕ) (c : ℕ) (b : Box) (hits : List ℕ) : Type 0 where
  pub sized : Sized w c
  pub some : b.quarter_from < b.quarter_to
  pub room : length hits ≡ max_grants

-- each can be read as a cell
pub record Cells (w hits : List ℕ) : Type 0 where
  pub few : length hits ≤ max_grants
  pub cell : (i : ℕ) → i < length hits → InPool w (get_or hits i 0)

abbrev pub grants_at : List ℕ → List ℕ → List Grant
grants_at w hits = map (grant_at w) hits

abbrev pub numbers_at : List ℕ → List ℕ → List ℕ
numbers_at w ks = map (λ g. g.number) (map (grant_at w) ks)

-- the search met no cause of fault 9, and its hits are the first n of the list
pub record HitsAt (w : List ℕ) (q : Region) (passes : Grant → Bool) (hits : List ℕ) (n : ℕ) : Type 0 where
  pub unbroken : is_broken (search_by w q passes) ≡ false
  pub found : hits_of (search_by w q passes) ≡ take n hits
  pub few : n ≤ capacity_of w
  pub room : n ≤ length hits
  pub cells : Cells w (take n hits)

unfoldable pub HitsFound : List ℕ → Region → (Grant → Bool) → List ℕ → Result ℕ Broken → Type 0
HitsFound w q passes hits (Err broken-off) = search_by w q passes ≡ broken
HitsFound w q passes hits (Ok n) = HitsAt w q passes hits n

abbrev pub TakenFound : List ℕ → Box → Choice → List ℕ → Result ℕ Broken → Type 0
TakenFound w b choice hits r = HitsFound w (range_of_box b) (taken choice b) hits r
