-- Document 01's numbers of a kind ("The plain book": 0 bars, 1 opens).
--   kind_number k    the number of a kind
--   kind_of n        the kind of a number; a number above 1 is fault 4 and never reaches it
-- Assumes nothing: these are definitions.
use Rattle.std.specs.Prelude.{ℕ, cond, eqb}
use Rattle.model.specs.declared.Kind.{Kind}
use Rattle.model.specs.declared.Kind.TheVariants.{Bars, Opens}

abbrev pub kind_number : Kind → ℕ
kind_number Bars = 0
kind_number Opens = 1

abbrev pub kind_of : ℕ → Kind
kind_of n = cond (eqb n 1) Opens Bars
