-- What the code knows of a grant's place once its walk and tests are done, and before it writes. Contracts of inner functions cite it; no
-- claim does.
--   slot_order w r                    the end of grant's order line, where the number isn't found
--   added w r                        the words with the requested grant added, where the number is known to be new: no search for it
--   added_all w gs                    the same of grants, one after the other
--   InsertionPlanned causes w r p    p refuses by these causes, or says where the requested grant hangs
--   SlotPlanned w r p                the same by `slot_order`'s causes
-- Assumes nothing: these are definitions.
use Rattle.std.specs.Prelude.{ℕ, ◌≡◌, ◌||◌, List, [], ◌∷◌, None, Some, Result, Ok, Err}
use Rattle.model.specs.declared.Fault.{Fault}
use Rattle.model.specs.declared.Fault.TheVariants.{BrokenLinks, Full}
use Rattle.model.specs.declared.Grant.{Grant}
use Rattle.model.specs.Refusal.{Cause, ◌if◌, first_fault, refusing}
use Rattle.model.specs.Answer.{accepted}
use Rattle.model.specs.Call.{Request, request_of}
use Rattle.adt.specs.Insert.{free_broken, blank_at}
use Rattle.adt.specs.WalkResult.{FreeSlot}
use Rattle.calls.specs.Walks.{insertion_walk}
use Rattle.calls.specs.Causes.{no_free_cell, insertion_broken}
use Rattle.calls.specs.Calls.{granted_words}
use Rattle.steps.specs.declared.insertion.Insertion.{Insertion}

unfoldable pub slot_order : List ℕ → Request → List Cause
slot_order w r = BrokenLinks if (insertion_broken (insertion_walk w r) || free_broken w) ∷ Full if no_free_cell w ∷ []

unfoldable pub added : List ℕ → Request → List ℕ
added w r = (refusing (slot_order w r) w [] (record { state = granted_words w r (insertion_walk w r); answer = accepted []; lent = [] })).state

-- one grant after the other
unfoldable pub added_all : List ℕ → List Grant → List ℕ
added_all w [] = w
added_all w (g ∷ gs) = added_all (added w (request_of g)) gs

-- no cause is left, the way down ends at the link's place, a link of the parent's, and the free head's cell can hang there
pub record Insertable (causes : List Cause) (w : List ℕ) (r : Request) (p : Insertion) : Type 0 where
  pub passes : first_fault causes ≡ None
  pub way : insertion_walk w r ≡ blank_at p.link p.parent
  pub slot : FreeSlot w p.link p.free p.next

unfoldable pub InsertionPlanned : List Cause → List ℕ → Request → Result Insertion Fault → Type 0
InsertionPlanned causes w r (Err f) = first_fault causes ≡ Some f
InsertionPlanned causes w r (Ok p) = Insertable causes w r p

abbrev pub SlotPlanned : List ℕ → Request → Result Insertion Fault → Type 0
SlotPlanned w r = InsertionPlanned (slot_order w r) w r
