-- The order lines give the same first fault, whether fault 9 and the hits are taken from the walks that stop or from document 01's links.
-- Where a walk is broken its hits may differ, but then 9 stands before what the hits decide.
--   grant_order_links, revoke_order_links, list_order_links, write_order_links
-- The lines of decide, count and match name no hits: `is_broken_links` of LinkCauseLaws is all they need.
-- Assumes nothing.
use Prim.Native.Nat.{ℕ}
use mathlib.Core.Path.{◌≡◌, refl}
use mathlib.Core.Bool.{Bool, true, false}
use mathlib.Core.List.{List, [], ◌∷◌}
use Rattle.model.specs.declared.Box.{Box}
use Rattle.model.specs.declared.Choice.{Choice}
use Rattle.model.specs.Interval.{Interval}
use Rattle.model.specs.declared.Fault.TheVariants.{BadPool, BrokenLinks, AlreadyLive, Full}
use Rattle.model.specs.Relation.{taken}
use Rattle.model.specs.Refusal.{Cause, ◌if◌, first_fault}
use Rattle.model.specs.Call.{Request}
use Rattle.model.specs.Arguments.{request_causes}
use Rattle.model.proofs.RefusalLaws.{first_fault-behind}
use Rattle.pool.specs.Capacity.{wrong_pool}
use Rattle.geometry.specs.SearchRange.{range_of_box, range_of_doors, range_of_number}
use Rattle.adt.proofs.LinkLaws.{or_left}
use Rattle.calls.specs.Walks.{number_search, box_search, door_search, is_broken, hits_of}
use Rattle.calls.specs.Causes.{number_live, no_free_cell, grant_broken, revoke_broken}
use Rattle.calls.specs.LinkCauses.{search_meets9, search_hits, box_hits, grant_meets9, revoke_meets9}
use Rattle.calls.specs.Order.{grant_order, revoke_order, list_order, write_order}
use Rattle.calls.proofs.LinkCauseLaws.{is_broken_links, hits_of_links, grant_broken_links, revoke_broken_links}

grant_broken-search : (w : List ℕ) (r : Request) → grant_broken w r ≡ false → is_broken (number_search w r.number) ≡ false
unfolding grant_broken
grant_broken-search w r whole = or_left (is_broken (number_search w r.number)) _ whole

revoke_broken-search : (w : List ℕ) (n : ℕ) → revoke_broken w n ≡ false → is_broken (number_search w n) ≡ false
unfolding revoke_broken
revoke_broken-search w n whole = or_left (is_broken (number_search w n)) _ whole

-- a line in which 9 stands before what the hits decide
order_same : (order : Bool → List ℕ → List Cause) → ((h k : List ℕ) → first_fault (order true h) ≡ first_fault (order true k))
    → {broken broken' : Bool} {hits hits' : List ℕ} → broken ≡ broken' → (broken ≡ false → hits ≡ hits')
    → first_fault (order broken hits) ≡ first_fault (order broken' hits')
order_same order before {broken} {broken'} {hits} {hits'} same found = rw (← same) (go broken found)
  where
    go : (b : Bool) → (b ≡ false → hits ≡ hits') → first_fault (order b hits) ≡ first_fault (order b hits')
    go true found = before hits hits'
    go false found = rw (found refl)

pub grant_order_links : (w : List ℕ) (r : Request)
    → first_fault (grant_order w r (grant_broken w r) (hits_of (number_search w r.number)))
    ≡ first_fault (grant_order w r (grant_meets9 w r) (search_hits w (range_of_number r.number)))
unfolding grant_order first_fault
grant_order_links w r =
    order_same (grant_order w r) (λ h k. first_fault-behind (BadPool if wrong_pool w ∷ request_causes r) (walked h) (walked k) refl) (grant_broken_links w r)
    (λ whole. hits_of_links w (range_of_number r.number) _ (grant_broken-search w r whole))
  where
    -- the end of the line, where a walk is broken
    walked : List ℕ → List Cause
    walked hits = BrokenLinks if true ∷ AlreadyLive if number_live hits ∷ Full if no_free_cell w ∷ []

pub revoke_order_links : (w : List ℕ) (n : ℕ)
    → first_fault (revoke_order w n (revoke_broken w n) (hits_of (number_search w n)))
    ≡ first_fault (revoke_order w n (revoke_meets9 w n) (search_hits w (range_of_number n)))
unfolding revoke_order first_fault
revoke_order_links w n =
    order_same (revoke_order w n) (λ h k. refl) (revoke_broken_links w n)
    (λ whole. hits_of_links w (range_of_number n) _ (revoke_broken-search w n whole))

pub list_order_links : (w : List ℕ) (q : Box) (choice : Choice) (lent : List ℕ)
    → first_fault (list_order w q lent (is_broken (box_search w q choice)) (hits_of (box_search w q choice)))
    ≡ first_fault (list_order w q lent (search_meets9 w (range_of_box q)) (box_hits w q choice))
unfolding list_order first_fault
list_order_links w q choice lent =
    order_same (list_order w q lent) (λ h k. refl) (is_broken_links w (range_of_box q) _) (hits_of_links w (range_of_box q) (taken choice q))

pub write_order_links : (w : List ℕ) (doors : Interval) (lent : List ℕ)
    → first_fault (write_order w doors lent (is_broken (door_search w doors)) (hits_of (door_search w doors)))
    ≡ first_fault (write_order w doors lent (search_meets9 w (range_of_doors doors)) (search_hits w (range_of_doors doors)))
unfolding write_order first_fault
write_order_links w doors lent =
    order_same (write_order w doors lent) (λ h k. refl) (is_broken_links w (range_of_doors doors) _) (hits_of_links w (range_of_doors doors) _)
