-- A cell on the way up as a line of a table.
--   path_row cell level g     the cell's number and level, then the grant in it as in the table of all grants (panel/specs/Rows)
-- Assumes nothing: these are definitions.
use Rattle.std.specs.Prelude.{ℕ, List, [], ◌∷◌, ◌++◌}
use Rattle.model.specs.declared.Grant.{Grant}
use Rattle.text.specs.Columns.{columns}
use Rattle.panel.specs.Rows.{grant_row}

abbrev pub path_row : ℕ → ℕ → Grant → List ℕ
path_row cell level g = columns (cell ∷ level ∷ []) ++ grant_row g
