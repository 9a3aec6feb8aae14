-- What is answered of a door and a quarter, test by test.
--   touching_bad, touching-broken    the refusals, in their order
--   touching_late                    between them: at a quarter that no grant can cover there is none
--   touching_done                    the grant at the place asked for, or that there is none
-- Assumes nothing.
use Prim.Native.Nat.{ℕ}
use mathlib.Core.Path.{◌≡◌, sym, ap, ◌∙◌}
use mathlib.Core.Bool.{true, false}
use mathlib.Core.List.{List, map}
use lib.ListN.{take}
use Rattle.std.proofs.Common.{Option, None, Some, Result, Ok, Err}
use Rattle.adt.specs.declared.Broken.{Broken}
use Rattle.lists.specs.Sort.{sort_by}
use Rattle.model.specs.declared.Box.{Box}
use Rattle.model.specs.declared.Grant.{Grant}
use Rattle.model.specs.declared.Choice.TheVariants as choice
use Rattle.model.specs.declared.Fault.TheVariants.{BadPool, BrokenLinks}
use Rattle.model.specs.Quarters.{coverable}
use Rattle.model.specs.Refusal.{first_fault}
use Rattle.pool.specs.Capacity.{pool_capacity}
use Rattle.pool.specs.Cell.{grant_at}
use Rattle.steps.specs.Hits.{TakenFound, grants_at}
use Rattle.calls.specs.Order.{look_order}
use Rattle.steps.proofs.HitsLaws.{taken-broken, taken-hits}
use Rattle.calls.proofs.RefusalSteps.{pool_refused, pool_taken}
use Rattle.panel.specs.declared.touching.Touching.{Touching}
use Rattle.panel.specs.Touching.{door_box, placed_among, placed, touching_at}

module _ (w : List ℕ) (door quarter i : ℕ) {o : Option ℕ} (e : o ≡ pool_capacity w) where
  pub touching_bad : o ≡ None → Err BadPool ≡ touching_at w door quarter i
  unfolding touching_at look_order first_fault
  touching_bad z = rw (pool_refused w e z)

  pub touching_late : {c : ℕ} → o ≡ Some c → coverable quarter ≡ false → Ok None ≡ touching_at w door quarter i
  unfolding touching_at look_order first_fault sort_by placed_among
  touching_late n late = rw (late, (pool_taken w e n).right)

  module _ {c : ℕ} (n : o ≡ Some c) (early : coverable quarter ≡ true) {b : Box} (asked : b ≡ door_box door quarter) where
    module _ (h : List ℕ) {r : Result ℕ Broken} (f : TakenFound w b choice.Touching h r) where
      pub touching-broken : {d : Broken} → r ≡ Err d → Err BrokenLinks ≡ touching_at w door quarter i
      unfolding touching_at look_order first_fault
      touching-broken met = rw (early, (pool_taken w e n).right, taken-broken w choice.Touching asked h f met)

      pub touching_done : {found : ℕ} → r ≡ Ok found → {t : Option Touching} → t ≡ placed (sort_by (λ g. g.number) (grants_at w (take found h))) i
          → Ok t ≡ touching_at w door quarter i
      unfolding touching_at look_order first_fault
      touching_done unmet {t} done =
          let at = taken-hits w choice.Touching asked h f unmet in
          rw (early, (pool_taken w e n).right, at.unbroken)
          (ap (λ (x : Option Touching). Ok x)
          (done ∙ ap (λ (ks : List ℕ). placed (sort_by (λ (g : Grant). g.number) (map (grant_at w) ks)) i) (sym at.found)))
