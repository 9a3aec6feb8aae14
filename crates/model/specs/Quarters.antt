-- A range of quarters (document 02, card 2). It is half-open: its to is the first quarter that it no longer covers.
--   Quarters          from, and to
--   no_quarters r      it covers none: its from isn't below its to
--   covers r q        it covers the quarter q
--   top_quarter        the highest quarter, which no grant covers, as a to is at most that
--   coverable q       a grant can cover the quarter q
-- Assumes nothing: these are definitions.
use Rattle.std.specs.Prelude.{ℕ, Bool, ◌&&◌, leb, ltb}
use Rattle.model.specs.declared.Quarters as declared

abbrev pub Quarters : Type 0
Quarters = declared.Quarters

abbrev pub no_quarters : Quarters → Bool
no_quarters r = leb r.to r.from

abbrev pub covers : Quarters → ℕ → Bool
covers r q = leb r.from q && ltb q r.to

abbrev pub top_quarter : ℕ
top_quarter = 65535

abbrev pub coverable : ℕ → Bool
coverable q = ltb q top_quarter
