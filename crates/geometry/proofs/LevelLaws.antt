-- The levels of specs/Levels are enough: with none left, a region is a single point.
--   halvings n a       how often the last n levels halve the axis
--   Wide n g           the region has on each axis as many coordinates as a region with n levels left
--   root_wide          the root has all levels left
--   half_wide          a half has one less
--   wide_single        two points of a region with none left are one
-- Assumes nothing.
use Prim.Native.Nat.{ℕ, zero, suc, ◌+◌, ◌-◌, ◌*◌, ◌^◌, ◌<◌}
use mathlib.Core.Path.{◌≡◌, refl}
use mathlib.Core.Bool.{true, cond}
use mathlib.Core.List.{List}
use native.Mathlib.Omega.{arith}
use native.Mathlib.Decide.{ℕ_discrete}
use native.Mathlib.Nat.{pow-succ'}
use native.Mathlib.Numerals.{add-one}
use lib.Dec.{eqb}
use lib.ListN.{get_or}
use lib.Pow.{pow_pos}
use borrow.Author.Tests.{eqb-true, eq-eqb, ne_eqb}
use Rattle.lists.specs.Tests.{each}
use Rattle.lists.proofs.TestLaws.{each_all}
use Rattle.geometry.specs.declared.Side.{Side}
use Rattle.geometry.specs.declared.Side.TheVariants.{Left, Right}
use Rattle.geometry.specs.Axis.{axes, axis_of}
use Rattle.geometry.specs.Levels.{levels}
use Rattle.geometry.specs.Width.{width_of}
use Rattle.geometry.specs.Region.{Region, root_region, low, high, half}
use Rattle.geometry.specs.Point.{inside}
use Rattle.geometry.proofs.AxisLaws.{axis_lt}
use Rattle.geometry.proofs.RegionLaws.{Shape, inside-ends, low_of, high_of, half_other, half-low, half_high, root_row}

-- the first of the last n levels is `levels - n`
unfoldable pub halvings : ℕ → ℕ → ℕ
halvings zero a = 0
halvings (suc n) a = halvings n a + cond (eqb a (axis_of (levels - suc n))) 1 0

pub record Wide (n : ℕ) (g : Region) : Type 0 where
  pub many : (a : ℕ) → a < axes → high g a + 1 ≡ low g a + 2 ^ halvings n a

halvings_on : (n : ℕ) → let a = axis_of (levels - suc n) in 2 ^ halvings (suc n) a ≡ 2 * 2 ^ halvings n a
unfolding halvings
halvings_on n = rw (eq-eqb (axis_of (levels - suc n)) (axis_of (levels - suc n)) refl, add-one, pow-succ')

halvings_off : (n a : ℕ) → (a ≡ axis_of (levels - suc n) → ⊥) → halvings (suc n) a ≡ halvings n a
unfolding halvings
halvings_off n a f = rw (ne_eqb a (axis_of (levels - suc n)) f) (omega arith)

-- all levels halve each axis once for every bit of its width
halvings_all : (a : ℕ) → a < axes → halvings levels a ≡ width_of a
unfolding halvings each
halvings_all a h = eqb-true (halvings levels a) (width_of a) (each_all axes (λ a. eqb (halvings levels a) (width_of a)) refl a h)

pub root_wide : Wide levels root_region
root_wide = record { many = λ a h. rw (root_row a h, halvings_all a h) }

pub half_wide : (s : Side) {n : ℕ} {g : Region} → Shape g → Wide (suc n) g → Wide n (half s g (axis_of (levels - suc n)))
half_wide s {n} {g} v f = record { many = λ b h. go b h (ℕ_discrete b a) }
  where
    a : ℕ
    a = axis_of (levels - suc n)

    lt : a < axes
    lt = axis_lt (levels - suc n)

    on : (s : Side) → high_of s g a + 1 ≡ low_of s g a + 2 ^ halvings n a
    on Left = omega (arith, f.many a lt, halvings_on n, pow_pos (halvings n a))
    on Right = omega (arith, f.many a lt, halvings_on n, pow_pos (halvings n a))

    go : (b : ℕ) → b < axes → Dec (b ≡ a) → high (half s g a) b + 1 ≡ low (half s g a) b + 2 ^ halvings n b
    go b h (yes q) = rw (q, half-low s g a v lt, half_high s g a v lt) (on s)
    go b h (no k) = rw (half_other s g a b k, ← halvings_off n b k) (f.many b h)

pub wide_single : {g : Region} (p x : List ℕ) → Wide 0 g → inside g p ≡ true → inside g x ≡ true → (a : ℕ) → a < axes → get_or p a 0 ≡ get_or x a 0
unfolding halvings
wide_single {g} p x f i j a h =
    let one = f.many a h in
    let first = inside-ends g p i a h in
    let second = inside-ends g x j a h in
    omega arith
