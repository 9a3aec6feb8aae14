-- What the memory of a running search stands for: the hits' cells in a list of 2,048 words, and its counters.
--   uncounted                        the counters of a search that has not begun
--   so_far hits counters             the state of a search that goes on
--   search_in ended hits counters    its state once it answered: broken, or as far as it got
--   Ready w c hits counters         what the walk goes by: the pool's length, and room for a hit of every cell
--   Fresh w c hits counters         the same before the walk, nothing met or found
--   Encodes c ended hits counters s  the memory stands for s, and serves the next step
--   Testing w c q hits counters k    what the test of the cell k goes by: a cell of the pool, and a search range
--   Visiting .. k n g                what its visit goes by: n levels below it, and its region g, which meets the range
--   Entering .. n p s k g            what `enter` goes by at the link of the cell p on the side s, which leads to the cell k: n levels below p, and
--                                    p's region g, which meets the range; at the root's link one level more than there are, and the root's region
--   link_entered n p s                the place of that link: the root's where n is more than there are levels
--   region_entered n s g              the region of the cell that it leads to: the half of g on a side, at the root all of it
--   tested, visited, entered         the state of the search after the test of a cell, after its visit, and once its subtree on a side was entered
-- The contracts of the walk cite these; no claim does. Assumes nothing: these are definitions.
use Rattle.std.specs.Prelude.{ℕ, suc, ◌-◌, ◌<◌, ◌≤◌, ◌≡◌, Bool, true, cond, List, leb, length, take, get_or, Result, Ok, Err, ⊤}
use Rattle.model.specs.Limits.{max_grants}
use Rattle.model.specs.declared.Grant.{Grant}
use Rattle.geometry.specs.declared.Side.{Side}
use Rattle.geometry.specs.Axis.{axis_of}
use Rattle.geometry.specs.Levels.{levels}
use Rattle.geometry.specs.Region.{Region, Shape, half, meets}
use Rattle.geometry.specs.SearchRange.{OneSided}
use Rattle.pool.specs.Layout.{root_place}
use Rattle.pool.specs.Capacity.{pool_length}
use Rattle.adt.specs.declared.Broken.{Broken}
use Rattle.adt.specs.declared.search.Counters.{Counters}
use Rattle.adt.specs.Node.{link_place}
use Rattle.adt.specs.Search.{Search, broken, going, meet, visit_by, enter}

-- nothing met or found
abbrev pub uncounted : Counters
uncounted = record { met = 0; found = 0; level = 0; link = 0 }

abbrev pub so_far : List ℕ → Counters → Search
so_far hits counters = going counters.met (take counters.found hits) (record { level = counters.level; link = counters.link })

abbrev pub search_in : Result ⊤ Broken → List ℕ → Counters → Search
search_in (Err broken-off) hits counters = broken
search_in (Ok done) hits counters = so_far hits counters

-- no more hits than cells met, no more cells met than there are
pub record Counted (c : ℕ) (hits : List ℕ) (counters : Counters) : Type 0 where
  pub hit_room : length hits ≡ max_grants
  pub found-met : counters.found ≤ counters.met
  pub met-cells : counters.met ≤ c

pub record Ready (w : List ℕ) (c : ℕ) (hits : List ℕ) (counters : Counters) : Type 0 where
  pub few : c ≤ max_grants
  pub long : length w ≡ pool_length c
  pub counted : Counted c hits counters

pub record Fresh (w : List ℕ) (c : ℕ) (hits : List ℕ) (counters : Counters) : Type 0 where
  pub few : c ≤ max_grants
  pub long : length w ≡ pool_length c
  pub hit_room : length hits ≡ max_grants
  pub unused : counters ≡ uncounted

pub record Encodes (c : ℕ) (ended : Result ⊤ Broken) (hits : List ℕ) (counters : Counters) (s : Search) : Type 0 where
  pub counted : Counted c hits counters
  pub state : search_in ended hits counters ≡ s

abbrev pub link_entered : ℕ → ℕ → Side → ℕ
link_entered n p s = cond (leb n levels) (link_place p s) root_place

abbrev pub region_entered : ℕ → Side → Region → Region
region_entered n s g = cond (leb n levels) (half s g (axis_of (levels - n))) g

module _ (w : List ℕ) (c : ℕ) (q : Region) (hits : List ℕ) (counters : Counters) where
  pub record Testing (k : ℕ) : Type 0 where
    pub ready : Ready w c hits counters
    pub some : 0 < k
    pub in_cells : k ≤ c
    pub one_sided : OneSided q

  pub record Visiting (k n : ℕ) (g : Region) : Type 0 where
    pub testing : Testing k
    pub in_levels : n ≤ levels
    pub shape : Shape g
    pub meeting : meets g q ≡ true

  pub record Entering (n p : ℕ) (s : Side) (k : ℕ) (g : Region) : Type 0 where
    pub ready : Ready w c hits counters
    pub cell : n ≤ levels → (0 < p) × (p ≤ c)
    pub leads : k ≡ get_or w (link_entered n p s) 0
    pub some : 0 < k
    pub in_levels : n ≤ suc levels
    pub one_sided : OneSided q
    pub shape : Shape g
    pub meeting : meets g q ≡ true

module _ (w : List ℕ) (c : ℕ) (q : Region) (passes : Grant → Bool) (hits : List ℕ) (counters : Counters) where
  abbrev pub tested : (k level link : ℕ) → Search
  tested k level link = meet w c q passes (record { level = level; link = link }) k (so_far hits counters)

  abbrev pub visited : (k n link : ℕ) → Region → Search
  visited k n link g = visit_by w c q passes (enter w c q passes n) (record { level = levels - n; link = link }) k g (so_far hits counters)

  abbrev pub entered : (n p : ℕ) → Side → Region → Search
  entered n p s g = enter w c q passes n p (link_entered n p s) (region_entered n s g) (so_far hits counters)
