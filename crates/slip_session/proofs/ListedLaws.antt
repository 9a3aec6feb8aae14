-- list never writes more than document 01's highest C, on any words: a walk that meets more than C cells gives 9.
--   list-few     an accepted list answers at most 2,048
-- Assumes nothing.
use Prim.Native.Nat.{ℕ, ◌≤◌}
use mathlib.Core.Path.{◌≡◌, ap}
use mathlib.Core.List.{List, [], ◌∷◌}
use native.Mathlib.Omega.{arith}
use lib.ListN.{length}
use Rattle.model.specs.declared.Box.{Box}
use Rattle.model.specs.declared.Choice.{Choice}
use Rattle.model.specs.Limits.{max_grants}
use Rattle.model.specs.Answer.{accepted}
use Rattle.model.specs.Refusal.{Step}
use Rattle.model.proofs.RefusalLaws.{causes_absent, accepted-none, accepted_done}
use Rattle.pool.proofs.CapacityLaws.{capacity_of-pool_length, wrong_pool_iff}
use Rattle.calls.specs.Walks.{box_search, hits_of}
use Rattle.calls.specs.Order.{list_order}
use Rattle.calls.specs.Calls.{list_call}
use Rattle.calls.proofs.FewHitsLaws.{box_few}

pub list-few : (w : List ℕ) (q : Box) (choice : Choice) (lent : List ℕ) (n : ℕ) → (list_call w q choice lent).answer ≡ accepted (n ∷ []) → n ≤ max_grants
unfolding list_call list_order
list-few w q choice lent n e =
    let right = (causes_absent _ _ (accepted-none _ w lent _ _ e)).0 in
    let sized = (wrong_pool_iff w).0 right in
    let done = ap (λ (r : Step (List ℕ)). r.answer) (accepted_done _ w lent _ _ e) in
    let count : length (hits_of (box_search w q choice)) ≡ n = cc in
    omega (arith, box_few w q choice, capacity_of-pool_length w sized.0 sized.1.long, sized.1.few, count)
