-- What "who may open this door at this quarter" means in the plain book (document 01, "The plain book").
--   at_door door quarter g    the grant's box holds the door and covers the quarter, whatever its staff
--   ShowsTouching w live     the pool w shows, row by row, exactly those of the live grants, in the book's order, which ascends by number
--   TouchingClaim            so does every pool that start, or load of an accepted file, and any calls after it made
-- How far a grant stands is said in plain words by HasPrecedence of precedence/specs/Precedence, which precedence/proofs/PrecedenceLaws joins to `precedence`.
-- Assumes nothing: these are definitions.
use Rattle.std.specs.Prelude.{ℕ, ◌≡◌, Bool, ◌&&◌, List, Ok}
use Rattle.lists.specs.Tests.{filter}
use Rattle.model.specs.declared.Grant.{Grant}
use Rattle.model.specs.Interval.{holds}
use Rattle.model.specs.Quarters.{covers}
use Rattle.model.specs.Box.{doors_of, quarters_of}
use Rattle.claims.specs.Made.{Made}
use Rattle.panel.specs.Touching.{placed, touching_at}

abbrev pub at_door : ℕ → ℕ → Grant → Bool
at_door door quarter g = holds (doors_of g.bounds) door && covers (quarters_of g.bounds) quarter

abbrev pub ShowsTouching : List ℕ → List Grant → Type 0
ShowsTouching w live = (door quarter i : ℕ) → touching_at w door quarter i ≡ Ok (placed (filter (at_door door quarter) live) i)

unfoldable pub TouchingClaim : Type 0
TouchingClaim = (c : ℕ) (w : List ℕ) (gs : List Grant) → Made c w gs → ShowsTouching w gs
