-- What the code of grant and revoke knows once all walks and tests are done, and before it writes. Contracts of inner functions cite it;
-- no claim does.
--   GrantPlanned w r p               p refuses by the causes of grant, or says where the requested grant hangs
--   RemovalPlanned w n p             p refuses as revoke does, or says which cell goes and which takes its place
-- Assumes nothing: these are definitions.
use Rattle.std.specs.Prelude.{ℕ, ◌≡◌, List, None, Some, Result, Ok, Err}
use Rattle.model.specs.declared.Fault.{Fault}
use Rattle.model.specs.Refusal.{first_fault}
use Rattle.model.specs.Call.{Request}
use Rattle.pool.specs.Capacity.{Sized}
use Rattle.adt.specs.Remove.{terminal}
use Rattle.adt.specs.WalkResult.{Removable}
use Rattle.steps.specs.declared.insertion.Insertion.{Insertion}
use Rattle.steps.specs.Insertions.{InsertionPlanned}
use Rattle.index.specs.declared.revoke.Removal.{Removal}
use Rattle.calls.specs.Walks.{number_search, first_hit, first_spot_of, removal_of}
use Rattle.calls.specs.Calls.{grant_line, revoke_line}

abbrev pub GrantPlanned : List ℕ → Request → Result Insertion Fault → Type 0
GrantPlanned w r = InsertionPlanned (grant_line w r) w r

-- no cause is left, the number's first hit is the cell at the link's place, and its removal walk ends at the terminal cell
pub record Found (w : List ℕ) (n : ℕ) (p : Removal) : Type 0 where
  pub sized : Sized w p.cells
  pub passes : first_fault (revoke_line w n) ≡ None
  pub first : first_hit (number_search w n) ≡ p.cell
  pub spot : (first_spot_of (number_search w n)).link ≡ p.link
  pub ends : removal_of w (number_search w n) ≡ terminal p.leaf p.cut
  pub inside : Removable w p.cell p.link p.leaf p.cut

unfoldable pub RemovalPlanned : List ℕ → ℕ → Result Removal Fault → Type 0
RemovalPlanned w n (Err f) = first_fault (revoke_line w n) ≡ Some f
RemovalPlanned w n (Ok p) = Found w n p
