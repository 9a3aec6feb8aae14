-- When two points are not one.
--   Differ p x          they have not the same coordinate on every axis
--   numbers-differ      grants of different numbers have different points
-- Assumes nothing.
use Prim.Native.Nat.{ℕ, ◌<◌}
use mathlib.Core.Logic.{◌≢◌}
use mathlib.Core.Path.{◌≡◌}
use mathlib.Core.List.{List}
use lib.Dec.{lit<}
use lib.ListN.{get_or}
use Rattle.model.specs.declared.Grant.{Grant}
use Rattle.geometry.specs.Axis.{axes}
use Rattle.geometry.specs.Point.{point_of}

pub record Differ (p x : List ℕ) : Type 0 where
  pub differ : ((a : ℕ) → a < axes → get_or p a 0 ≡ get_or x a 0) → ⊥

pub numbers-differ : (g h : Grant) → g.number ≢ h.number → Differ (point_of g) (point_of h)
unfolding point_of
numbers-differ g h n = record { differ = λ same. n (same 6 (lit< tt)) }
