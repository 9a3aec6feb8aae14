-- The width of an axis, in bits, and its highest coordinate (document 01: all fields are 16-bit, the root's ranges 0 to 65535).
-- The one file that names it. Changed by card 11. Assumes nothing: these are definitions.
use Rattle.std.specs.Prelude.{ℕ, ◌-◌, ◌^◌}

abbrev pub width_of : ℕ → ℕ
width_of axis = 16

abbrev pub top_of : ℕ → ℕ
top_of axis = 2 ^ width_of axis - 1
