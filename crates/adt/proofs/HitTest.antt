-- A cell's point against a search range, comparison by comparison.
--   beyond, short     a coordinate above the range's high, or below its low
-- Assumes nothing.
use Prim.Native.Nat.{ℕ, ◌<◌}
use mathlib.Core.Path.{◌≡◌, sym}
use mathlib.Core.Bool.{false}
use mathlib.Core.List.{List}
use native.Mathlib.Omega.{arith}
use lib.ListN.{get_or}
use Rattle.geometry.specs.Axis.{axes}
use Rattle.geometry.specs.Region.{Region, low, high}
use Rattle.geometry.specs.Point.{inside}
use Rattle.geometry.proofs.RegionLaws.{outside_on}

module _ (q : Region) (p : List ℕ) (a : ℕ) (h : a < axes) {x : ℕ} (e : x ≡ get_or p a 0) where
  pub beyond : high q a < x → false ≡ inside q p
  beyond above = sym (outside_on q p a h (λ s. omega (arith, e, s.below, above)))

  pub short : {y : ℕ} → y ≡ low q a → x < y → false ≡ inside q p
  short f below = sym (outside_on q p a h (λ s. omega (arith, e, f, s.above, below)))
