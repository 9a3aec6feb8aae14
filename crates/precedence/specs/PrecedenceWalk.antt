-- How the program finds a precedence: along the staff numbers by whole grants. The contracts of its steps cite these; no claim does.
--   share_staff a b          two boxes share a staff number
--   overrides_some g h       h overrides g for some staff number of g
--   further g s best h      the first staff number past h, if h overrides g at s and goes further than best; else best
--   reach g s best hs       the furthest that one of hs goes so
-- Assumes nothing: these are definitions.
use Rattle.std.specs.Prelude.{ℕ, ◌+◌, max, Bool, cond, not, ◌&&◌, List, [], ◌∷◌}
use Rattle.model.specs.declared.Box.{Box}
use Rattle.model.specs.declared.Grant.{Grant}
use Rattle.model.specs.Interval.{reversed}
use Rattle.model.specs.Box.{staff_of}
use Rattle.model.specs.Overlap.{overlap_on}
use Rattle.model.specs.Decide.{outranks}
use Rattle.precedence.specs.Precedence.{overrides}

unfoldable pub share_staff : Box → Box → Bool
share_staff a b = not (reversed (staff_of a)) && not (reversed (staff_of b)) && overlap_on (staff_of a) (staff_of b)

unfoldable pub overrides_some : Grant → Grant → Bool
overrides_some g h = outranks h g && share_staff g.bounds h.bounds

unfoldable pub further : Grant → ℕ → ℕ → Grant → ℕ
further g s best h = cond (overrides g s h) (max best (h.bounds.staff_to + 1)) best

unfoldable pub reach : Grant → ℕ → ℕ → List Grant → ℕ
reach g s best [] = best
reach g s best (h ∷ hs) = reach g s (further g s best h) hs
