-- The way from a grant's cell up to the root, by the parents that the cells name (document 02, card 6), asked for a cell at a time.
--   ancestor_from w k l i       the cell i steps above the cell k, which is at level l: with its level and the grant in it; None past level 0
--   ancestor_at w n i           what is refused of a number that is to be live (calls/specs/Calls `live_line`), else this from the first hit of the
--                              number's search, at its own level
--   ParentWalk w k l           what the code's way up goes by: a path of l steps to the cell k, along which each cell names the one before it
-- That they are the way down by the links is said in claims/specs/GrantPaths. Assumes nothing: these are definitions.
use Rattle.std.specs.Prelude.{ℕ, zero, suc, ◌≤◌, List, Option, None, Some, Result}
use Rattle.model.specs.declared.Fault.{Fault}
use Rattle.model.specs.Refusal.{first_fault}
use Rattle.geometry.specs.Levels.{levels}
use Rattle.pool.specs.Capacity.{Sized, capacity_of}
use Rattle.pool.specs.Cell.{grant_at}
use Rattle.adt.specs.Node.{parent_at}
use Rattle.adt.specs.Reach.{PathTo}
use Rattle.calls.specs.Walks.{number_search, first_hit, first_spot_of}
use Rattle.calls.specs.Calls.{live_line}
use Rattle.panel.specs.Answering.{answering}
use Rattle.grant_path.specs.declared.ancestors.Ancestor.{Ancestor}

unfoldable pub ancestor_from : List ℕ → ℕ → ℕ → ℕ → Option Ancestor
ancestor_from w k l zero = Some (record { cell = k; level = l; grant = grant_at w k })
ancestor_from w k zero (suc i) = None
ancestor_from w k (suc l) (suc i) = ancestor_from w (parent_at w k) l i

unfoldable pub ancestor_at : List ℕ → ℕ → ℕ → Result (Option Ancestor) Fault
ancestor_at w n i =
    let s = number_search w n in
    answering (first_fault (live_line w n)) (ancestor_from w (first_hit s) (first_spot_of s).level i)

pub record ParentWalk (w : List ℕ) (k l : ℕ) : Type 0 where
  pub sized : Sized w (capacity_of w)
  pub path : PathTo w (capacity_of w) k l
  pub deep : l ≤ levels
