-- The axes, and the one that a level halves (document 01, "The tree": level l halves axis l mod 7).
-- The one file that names their number. Changed by card 11. Assumes nothing: these are definitions.
use Rattle.std.specs.Prelude.{ℕ, ◌%◌}

abbrev pub axes : ℕ
axes = 7

abbrev pub axis_of : ℕ → ℕ
axis_of level = level % axes
