-- How many grants an index or a file may hold (document 01: C from 1 to 2048; n at most 2048).
-- The one file that names it. Assumes nothing: these are definitions.
use Rattle.std.specs.Prelude.{ℕ}

abbrev pub max_grants : ℕ
max_grants = 2048
