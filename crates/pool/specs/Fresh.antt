-- Free cells, and the words that start makes (document 01, "The tree": a free cell has the next free cell in left and zeros elsewhere, its parent too;
-- start makes an empty index, free cells in rising order).
--   free_cell next     the words of a free cell
--   free_cells n k     n free cells from cell k on, each leading to the one after it, the last to none
--   fresh_pool c       what start leaves
-- Assumes nothing: these are definitions.
use Rattle.std.specs.Prelude.{ℕ, zero, suc, ◌-◌, cond, List, [], ◌∷◌, ◌++◌, eqb, replicate}
use Rattle.pool.specs.Layout.{cell_words}

abbrev pub free_cell : ℕ → List ℕ
free_cell next = next ∷ replicate (cell_words - 1) 0

unfoldable pub free_cells : ℕ → ℕ → List ℕ
free_cells zero k = []
free_cells (suc n) k = free_cell (cond (eqb n 0) 0 (suc k)) ++ free_cells n (suc k)

unfoldable pub fresh_pool : ℕ → List ℕ
fresh_pool c = c ∷ 0 ∷ 1 ∷ free_cells c 1
