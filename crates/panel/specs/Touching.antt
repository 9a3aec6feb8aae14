-- Who may open a door at a quarter: the grants that touch both, ascending by number, each with how far it stands among them.
--   door_box door quarter           the box that is searched: the door, the quarter, every staff number
--   at_door_search w door quarter    its search; nothing is walked at the highest quarter, which no grant covers
--   grants_touching w door quarter  the grants in the cells that the search hits, ascending by number; on a scrambled pool with repetition
--   placed gs i                    the i-th of them, from 0, with its precedence among them all (precedence/specs/Precedence); None past the last
--   touching_at w door quarter i    that, or the first fault of decide's order line (calls/specs/Order) that holds
-- What they are in the plain book is said in claims/specs/PanelClaims. Assumes nothing: these are definitions.
use Rattle.std.specs.Prelude.{ℕ, zero, suc, ◌+◌, List, [], ◌∷◌, Option, None, Some, Result}
use Rattle.lists.specs.Sort.{sort_by}
use Rattle.model.specs.declared.Box.{Box}
use Rattle.model.specs.declared.Grant.{Grant}
use Rattle.model.specs.declared.Fault.{Fault}
use Rattle.model.specs.Refusal.{first_fault}
use Rattle.calls.specs.Walks.{quarter_search, is_broken, grants_hit}
use Rattle.calls.specs.Order.{look_order}
use Rattle.adt.specs.Search.{Search}
use Rattle.precedence.specs.Precedence.{precedence}
use Rattle.panel.specs.declared.touching.Touching.{Touching}
use Rattle.panel.specs.Answering.{answering}

abbrev pub door_box : ℕ → ℕ → Box
door_box door quarter =
    record {
      staff_from = 0;
      staff_to = 65535;
      door_from = door;
      door_to = door;
      quarter_from = quarter;
      quarter_to = quarter + 1;
    }

abbrev pub at_door_search : List ℕ → ℕ → ℕ → Search
at_door_search w door quarter = quarter_search w (door_box door quarter)

abbrev pub grants_touching : List ℕ → ℕ → ℕ → List Grant
grants_touching w door quarter = sort_by (λ g. g.number) (grants_hit w (at_door_search w door quarter))

-- the i-th of some grants, with its precedence among all
unfoldable pub placed_among : List Grant → List Grant → ℕ → Option Touching
placed_among all [] i = None
placed_among all (g ∷ gs) zero = Some (record { grant = g; precedence = precedence all g })
placed_among all (g ∷ gs) (suc i) = placed_among all gs i

abbrev pub placed : List Grant → ℕ → Option Touching
placed gs i = placed_among gs gs i

unfoldable pub touching_at : List ℕ → ℕ → ℕ → ℕ → Result (Option Touching) Fault
touching_at w door quarter i =
    answering
    (first_fault (look_order w (is_broken (at_door_search w door quarter))))
    (placed (grants_touching w door quarter) i)
