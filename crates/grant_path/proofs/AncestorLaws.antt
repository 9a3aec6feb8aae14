-- The way up along a path whose cells name their parents: it is the way down, read upward.
--   ancestor_on      up to the root, the cell i steps above the end of a path is the one at the path without its last i steps
--   ancestor_past    past the root there is none
-- Assumes nothing.
use Prim.Native.Nat.{ℕ, zero, suc, ◌<◌, ◌≤◌}
use mathlib.Core.Path.{◌≡◌, sym, ◌∙◌}
use mathlib.Core.List.{List, [], ◌∷◌}
use Rattle.std.proofs.Common.{None, Some}
use native.Mathlib.Omega.{arith}
use lib.ListN.{length, drop}
use Rattle.geometry.specs.declared.Side.{Side}
use Rattle.pool.specs.Cell.{grant_at}
use Rattle.adt.specs.Reach.{node_at, cell_before, NamesBefore, ParentsAlong}
use Rattle.grant_path.specs.GrantPath.{ancestor_from}
use Rattle.grant_path.proofs.AncestorSteps.{ancestor_here, ancestor_far}

module _ (w : List ℕ) (c : ℕ) where
  -- a step up is a step of the path less
  path_up : (s : Side) (p : List Side) (i : ℕ) → NamesBefore w c (s ∷ p)
      → ancestor_from w (node_at w (s ∷ p)) (suc (length p)) (suc i) ≡ ancestor_from w (node_at w p) (length p) i
  unfolding ancestor_from cell_before
  path_up s p i before = rw before.named

  pub ancestor_on : (p : List Side) (i : ℕ) → ParentsAlong w c p → i ≤ length p
      → ancestor_from w (node_at w p) (length p) i
      ≡ Some (record { cell = node_at w (drop i p); level = length (drop i p); grant = grant_at w (node_at w (drop i p)) })
  unfolding ParentsAlong
  ancestor_on p zero along le = sym (ancestor_here w (node_at w p) (length p) zero (omega arith))
  ancestor_on [] (suc i) along le = absurd (omega arith)
  ancestor_on (s ∷ p) (suc i) along le = path_up s p i along.0 ∙ ancestor_on p i along.1 (omega arith)

  pub ancestor_past : (p : List Side) (i : ℕ) → length p < i → ancestor_from w (node_at w p) (length p) i ≡ None
  ancestor_past p i lt = sym (ancestor_far w (node_at w p) (length p) i lt)
