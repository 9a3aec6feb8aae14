-- How a grant comes to its place, test by test.
--   planned_request                             a plan for the requested grant is one for the request
--   to_walks, absent_line                       where grant's arguments are right, its walks decide; where the number isn't found either, the
--                                               way down and the free head alone
--   slot_descent, slot-broken, free-above, free-none, free-next-above, free_planned   the way down and the free head
--   plan_inserts                                what the stores need
--   added-refused, added_done, added-grant      what is left where the number is known to be new; it is what grant leaves
-- Assumes nothing.
use Prim.Native.Nat.{ℕ, ◌<◌, ◌≤◌}
use mathlib.Core.Path.{◌≡◌, sym, ap, ◌∙◌}
use mathlib.Core.Bool.{false}
use mathlib.Core.List.{List, [], ◌∷◌}
use Rattle.std.proofs.Common.{None, Result, Ok, Err}
use native.Mathlib.Omega.{arith}
use borrow.Author.Tests.{lt-ltb, le-ltb, eq-eqb, ne_eqb}
use Rattle.model.specs.declared.Fault.{Fault}
use Rattle.model.specs.declared.Fault.TheVariants.{AlreadyLive, Full, BrokenLinks}
use Rattle.model.specs.declared.Grant.{Grant}
use Rattle.model.specs.Refusal.{Cause, ◌if◌, first_fault, refusing}
use Rattle.model.specs.Call.{Request, requested, request_of}
use Rattle.model.specs.Arguments.{request_causes}
use Rattle.model.proofs.ArgumentLaws.{requested-request_of}
use Rattle.model.proofs.RefusalLaws.{first_fault-append}
use Rattle.geometry.specs.Point.{point_of}
use Rattle.pool.specs.Capacity.{Sized, capacity_of, wrong_pool}
use Rattle.pool.proofs.CapacityLaws.{cell_in_pool, capacity_of-pool_length}
use Rattle.adt.specs.Insert.{blank_at, descend, free_head, next_free, free_broken, inserted}
use Rattle.adt.specs.Insert as insert
use Rattle.adt.specs.declared.Broken.{Broken}
use Rattle.adt.specs.declared.insert.Slot.{Slot}
use Rattle.adt.specs.WalkResult.{insertion_walk_of, FreeSlot}
use Rattle.adt.proofs.WithinLaws.{descent_within}
use Rattle.calls.specs.Walks.{number_search, is_broken, hits_of, insertion_walk}
use Rattle.calls.specs.Causes.{number_live, no_free_cell, grant_broken}
use Rattle.calls.specs.Order.{grant_order}
use Rattle.calls.specs.Calls.{grant_call, grant_line}
use Rattle.steps.specs.declared.insertion.Insertion.{Insertion}
use Rattle.steps.specs.Insertions.{slot_order, added, InsertionPlanned, SlotPlanned}

module _ (w : List ℕ) (r : Request) where
  -- the end of grant's line, behind its arguments
  abbrev pub walk_causes : List Cause
  walk_causes = BrokenLinks if grant_broken w r ∷ AlreadyLive if number_live (hits_of (number_search w r.number)) ∷ Full if no_free_cell w ∷ []

  module _ (p : wrong_pool w ≡ false) (faultless : first_fault (request_causes r) ≡ None) where
    pub to_walks : first_fault (grant_line w r) ≡ first_fault walk_causes
    unfolding grant_order first_fault
    to_walks = rw p (first_fault-append (request_causes r) walk_causes faultless)

    pub absent_line : is_broken (number_search w r.number) ≡ false → hits_of (number_search w r.number) ≡ []
        → first_fault (grant_line w r) ≡ first_fault (slot_order w r)
    unfolding first_fault grant_broken slot_order
    absent_line unbroken absent = to_walks ∙ rw (unbroken, absent)

  -- a plan for the requested grant is one for the request
  pub planned_request : (p : Result Insertion Fault) → SlotPlanned w (request_of (requested r)) p → SlotPlanned w r p
  unfolding InsertionPlanned slot_order
  planned_request (Err f) e = rw (requested-request_of (requested r)) at e
  planned_request (Ok p) e =
      let same : insertion_walk w (request_of (requested r)) ≡ insertion_walk w r =
      ap (λ (g : Grant). descend w (point_of g)) (requested-request_of (requested r)) in
      record { passes = rw same at e.passes; way = rw same at e.way; slot = e.slot }

  -- the way down, from what the code finds, and the free head
  pub slot_descent : {g : Grant} {point : List ℕ} {slot found : Result Slot Broken} → g ≡ requested r → point ≡ point_of g
      → insertion_walk_of slot ≡ descend w point → slot ≡ found → insertion_walk w r ≡ insertion_walk_of found
  slot_descent eg ep e es = ap (λ (g : Grant). descend w (point_of g)) (sym eg) ∙ ap (descend w) (sym ep) ∙ sym e ∙ ap insertion_walk_of es

  pub slot-broken : insertion_walk w r ≡ insert.broken → SlotPlanned w r (Err BrokenLinks)
  unfolding InsertionPlanned slot_order first_fault
  slot-broken e = rw e

  module _ {c link parent free : ℕ} (sized : Sized w c) (way : insertion_walk w r ≡ blank_at link parent) (head : free ≡ free_head w) where
    capacity_is : capacity_of w ≡ c
    capacity_is = capacity_of-pool_length w c sized.long

    pub free-above : c < free → SlotPlanned w r (Err BrokenLinks)
    unfolding InsertionPlanned slot_order first_fault free_broken
    free-above h = rw (way, capacity_is, ← head, lt-ltb c free h)

    module _ (le : free ≤ c) where
      pub free-none : free ≡ 0 → SlotPlanned w r (Err Full)
      unfolding InsertionPlanned slot_order first_fault free_broken
      free-none z = rw (way, capacity_is, ← head, le-ltb c free le, eq-eqb free 0 z)

      module _ (nz : ¬ (free ≡ 0)) {next : ℕ} (after : next ≡ next_free w) where
        pub free-next-above : c < next → SlotPlanned w r (Err BrokenLinks)
        unfolding InsertionPlanned slot_order first_fault free_broken
        free-next-above h = rw (way, capacity_is, ← after, ← head, le-ltb c free le, ne_eqb free 0 nz, lt-ltb c next h)

        pub free_planned : next ≤ c → SlotPlanned w r (Ok (record { link = link; parent = parent; free = free; next = next }))
        unfolding InsertionPlanned slot_order first_fault free_broken descend
        free_planned h = record {
          passes = rw (way, capacity_is, ← after, ← head, le-ltb c free le, ne_eqb free 0 nz, le-ltb c next h);
          way = way;
          slot =
              record {
                cell = cell_in_pool sized (omega arith) le;
                at = descent_within w c sized.long _ _ _ _ _ _ _ _ (omega (arith, sized.long)) (rw capacity_is at way);
                head = head;
                after = after;
              };
        }

  -- what the stores need
  pub plan_inserts : (causes : List Cause) (p : Insertion) → InsertionPlanned causes w r (Ok p) → FreeSlot w p.link p.free p.next
  unfolding InsertionPlanned
  plan_inserts causes p planned = planned.slot

  -- the same where the number is known to be new
  pub added-refused : (fault : Fault) → SlotPlanned w r (Err fault) → w ≡ added w r
  unfolding InsertionPlanned added refusing
  added-refused fault e = rw (added, e)

  pub added_done : (p : Insertion) {v : List ℕ} → SlotPlanned w r (Ok p) → v ≡ inserted w p.link p.parent (requested r) → v ≡ added w r
  unfolding InsertionPlanned added refusing
  added_done p planned e = e ∙ rw (added, planned.passes, planned.way)

  pub added-grant : first_fault (grant_line w r) ≡ first_fault (slot_order w r) → (grant_call w r).state ≡ added w r
  unfolding added grant_call refusing
  added-grant e = rw e
