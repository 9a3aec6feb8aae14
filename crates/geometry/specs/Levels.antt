-- How often a region is halved until it is a single point (document 01, "The tree": level 112).
-- The one file that names it. Changed by card 11. Assumes nothing: these are definitions.
use Rattle.std.specs.Prelude.{ℕ}

abbrev pub levels : ℕ
levels = 112
