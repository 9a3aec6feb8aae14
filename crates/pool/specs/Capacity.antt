-- How long a pool is, and the number of its cells: document 01's C (document 01, "The tree", and document 02, card 6: 3 + 11 × C words,
-- C from 1 to 2048).
--   pool_length c      the words of a pool of c cells
--   Sized w c         w is memory for a pool of c cells, c from 1 to 2,048, whatever it holds
--   InPool w k        the cell k, from 1 to 2,048, lies in the words w
--   capacity_of w      C, from the length of w
--   wrong_length w     fault 1: the pool's length is not as above
--   wrong_pool w       fault 1, except in start and load: that, or the first word is not its C
--   length_capacity w, pool_capacity w   C, or None where the pool is refused: what the program goes by
-- Assumes nothing: these are definitions.
use Rattle.std.specs.Prelude.{ℕ, ◌+◌, ◌-◌, ◌*◌, ◌/◌, ◌<◌, ◌≤◌, ◌≡◌, Bool, not, cond, ◌&&◌, ◌||◌, List, Option, None, Some, leb, eqb, length, get_or}
use Rattle.model.specs.Limits.{max_grants}
use Rattle.pool.specs.Layout.{capacity_place, header_words, cell_words}

abbrev pub pool_length : ℕ → ℕ
pool_length c = header_words + cell_words * c

pub record Sized (w : List ℕ) (c : ℕ) : Type 0 where
  pub some : 1 ≤ c
  pub few : c ≤ max_grants
  pub long : length w ≡ pool_length c

pub record InPool (w : List ℕ) (k : ℕ) : Type 0 where
  pub some : 0 < k
  pub few : k ≤ max_grants
  pub long : pool_length k ≤ length w

unfoldable pub capacity_of : List ℕ → ℕ
capacity_of w = (length w - header_words) / cell_words

unfoldable pub wrong_length : List ℕ → Bool
wrong_length w = let c = capacity_of w in not (leb 1 c && leb c max_grants && eqb (length w) (pool_length c))

unfoldable pub wrong_pool : List ℕ → Bool
wrong_pool w = wrong_length w || not (eqb (get_or w capacity_place 0) (capacity_of w))

abbrev pub length_capacity : List ℕ → Option ℕ
length_capacity w = cond (wrong_length w) None (Some (capacity_of w))

abbrev pub pool_capacity : List ℕ → Option ℕ
pool_capacity w = cond (wrong_pool w) None (Some (capacity_of w))
