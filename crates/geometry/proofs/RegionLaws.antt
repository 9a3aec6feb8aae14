-- Laws of regions, over any axis and either side. Nothing here names an axis or a width.
--   Spans g a x, Shares r q a    a coordinate between the ends; two regions with a coordinate in common on the axis
--   inside-ends, ends-inside     the test of a point as orders of its coordinates
--   outside_on                   a point that is outside on one axis is outside
--   meets-ends, ends-meets       the test of two regions as orders of their ends
--   low_of s g a, high_of s g a    the ends of a half on the axis that was halved: half-low, half_high
--   half_other                   the other axes stay
--   root_shape, half-shape       the root region has the shape, and a half keeps it
--   half-inside                  a point of a half is one of the whole
--   inside-half                  a point of the whole is one of the half on its side
--   common_meets                 regions with a common point meet
-- Assumes nothing.
use Prim.Native.Nat.{ℕ, ◌+◌, ◌/◌, ◌<◌, ◌≤◌}
use mathlib.Core.Logic.{◌≢◌}
use mathlib.Core.Path.{◌≡◌, refl, ap, ◌∙◌}
use mathlib.Core.Bool.{Bool, true, false, cond}
use mathlib.Core.List.{List, []}
use native.Mathlib.Omega.{arith}
use native.Mathlib.Nat.{zero-add}
use native.Mathlib.Decide.{ℕ_discrete}
use lib.Dec.{leb}
use lib.ListN.{length, get_or, set, length-set, length-map}
use lib.Seq.{get_or-set_same, get_or-set_other}
use borrow.Author.Tests.{leb-true, leb-false}
use Rattle.lists.specs.Ranges.{count_from}
use Rattle.lists.proofs.TestLaws.{both_le, le_both, each_all, all_each}
use Rattle.lists.proofs.ElementLaws.{get_d_map}
use Rattle.lists.proofs.RangeLaws.{length-count_from, get_d_count_from}
use Rattle.geometry.specs.declared.Side.{Side}
use Rattle.geometry.specs.declared.Side.TheVariants.{Left, Right}
use Rattle.geometry.specs.Axis.{axes}
pub use Rattle.geometry.specs.Region.{Shape}
use Rattle.geometry.specs.Region.{Region, free, root_region, low, high, middle, side_of, half, meets_on, meets}
use Rattle.geometry.specs.Point.{inside_on, inside}

-- x lies between the ends on the axis; both count
pub record Spans (g : Region) (a x : ℕ) : Type 0 where
  pub above : low g a ≤ x
  pub below : x ≤ high g a

-- the two have a coordinate in common on the axis
pub record Shares (r q : Region) (a : ℕ) : Type 0 where
  pub starts : low q a ≤ high r a
  pub ends : low r a ≤ high q a

pub inside-ends : (q : Region) (p : List ℕ) → inside q p ≡ true → (a : ℕ) → a < axes → Spans q a (get_or p a 0)
unfolding inside
inside-ends q p e a h =
    let x = get_or p a 0 in
    let both = both_le (low q a) x x (high q a) (each_all axes (inside_on q p) e a h) in
    record { above = both.0; below = both.1 }

pub ends-inside : (q : Region) (p : List ℕ) → ((a : ℕ) → a < axes → Spans q a (get_or p a 0)) → inside q p ≡ true
unfolding inside
ends-inside q p f = all_each axes (inside_on q p) (λ a h. let x = get_or p a 0 in le_both (low q a) x x (high q a) (f a h).above (f a h).below)

pub outside_on : (q : Region) (p : List ℕ) (a : ℕ) → a < axes → (Spans q a (get_or p a 0) → ⊥) → inside q p ≡ false
outside_on q p a h out = go (inside q p) refl
  where
    go : (b : Bool) → inside q p ≡ b → b ≡ false
    go true e = absurd (out (inside-ends q p e a h))
    go false e = refl

pub meets_on-ends : (r q : Region) (a : ℕ) → meets_on r q a ≡ true → Shares r q a
meets_on-ends r q a e = let both = both_le (low q a) (high r a) (low r a) (high q a) e in record { starts = both.0; ends = both.1 }

pub ends-meets_on : (r q : Region) (a : ℕ) → Shares r q a → meets_on r q a ≡ true
ends-meets_on r q a s = le_both (low q a) (high r a) (low r a) (high q a) s.starts s.ends

pub meets-ends : (r q : Region) → meets r q ≡ true → (a : ℕ) → a < axes → Shares r q a
unfolding meets
meets-ends r q e a h = meets_on-ends r q a (each_all axes (meets_on r q) e a h)

pub ends-meets : (r q : Region) → ((a : ℕ) → a < axes → Shares r q a) → meets r q ≡ true
unfolding meets
ends-meets r q f = all_each axes (meets_on r q) (λ a h. ends-meets_on r q a (f a h))

pub common_meets : (g q : Region) (p : List ℕ) → inside g p ≡ true → inside q p ≡ true → meets g q ≡ true
common_meets g q p e f =
    ends-meets g q
    (λ a h.
    let i = inside-ends g p e a h in
    let j = inside-ends q p f a h in
    record { starts = omega arith; ends = omega arith })

-- the ends of a half on the axis that was halved
abbrev pub low_of : Side → Region → ℕ → ℕ
low_of Left g a = low g a
low_of Right g a = (low g a + high g a + 1) / 2

abbrev pub high_of : Side → Region → ℕ → ℕ
high_of Left g a = middle g a
high_of Right g a = high g a

-- a half is the region with one end of one row stored anew
abbrev end_at : Side → ℕ
end_at Left = 1
end_at Right = 0

abbrev new_end : Side → Region → ℕ → ℕ
new_end Left g a = high_of Left g a
new_end Right g a = low_of Right g a

half-set : (s : Side) (g : Region) (a : ℕ) → half s g a ≡ set g a (set (get_or g a []) (end_at s) (new_end s g a))
unfolding half
half-set Left g a = refl
half-set Right g a = refl

pub half_other : (s : Side) (g : Region) (a b : ℕ) → b ≢ a → get_or (half s g a) b [] ≡ get_or g b []
half_other s g a b n = rw (half-set s g a) (get_or-set_other g a b _ [] n)

module _ (s : Side) (g : Region) (a : ℕ) (w : Shape g) (lt : a < axes) where
  half_row : get_or (half s g a) a [] ≡ set (get_or g a []) (end_at s) (new_end s g a)
  half_row = rw (half-set s g a) (get_or-set_same g a _ [] (omega (arith, w.rows)))

  pub half-shape : Shape (half s g a)
  half-shape = record {
    rows = rw (half-set s g a) (length-set g a _ ∙ w.rows);
    ends = λ b h. go b h (ℕ_discrete b a);
  }
    where
      go : (b : ℕ) → b < axes → Dec (b ≡ a) → length (get_or (half s g a) b []) ≡ 2
      go b h (yes q) = rw (q, half_row) (length-set (get_or g a []) (end_at s) (new_end s g a) ∙ w.ends a lt)
      go b h (no q) = rw (half_other s g a b q) (w.ends b h)

  pub half-low : low (half s g a) a ≡ low_of s g a
  half-low = rw half_row (go s)
    where
      go : (s : Side) → get_or (set (get_or g a []) (end_at s) (new_end s g a)) 0 0 ≡ low_of s g a
      go Left = get_or-set_other (get_or g a []) 1 0 _ 0 (omega arith)
      go Right = get_or-set_same (get_or g a []) 0 _ 0 (omega (arith, w.ends a lt))

  pub half_high : high (half s g a) a ≡ high_of s g a
  half_high = rw half_row (go s)
    where
      go : (s : Side) → get_or (set (get_or g a []) (end_at s) (new_end s g a)) 1 0 ≡ high_of s g a
      go Left = get_or-set_same (get_or g a []) 1 _ 0 (omega (arith, w.ends a lt))
      go Right = get_or-set_other (get_or g a []) 0 1 _ 0 (omega arith)

  -- a coordinate of a half is one of the whole
  half_spans : (b x : ℕ) → Spans (half s g a) b x → Spans g b x
  half_spans b x h = go (ℕ_discrete b a)
    where
      on : (s : Side) → low_of s g a ≤ x → x ≤ high_of s g a → Spans g a x
      on Left i j = record { above = i; below = omega arith }
      on Right i j = record { above = omega arith; below = j }

      go : Dec (b ≡ a) → Spans g b x
      go (yes q) = let here : Spans (half s g a) a x = rw q at h in rw q (on s (rw half-low at here.above) (rw half_high at here.below))
      go (no n) = record { above = rw (half_other s g a b n) at h.above; below = rw (half_other s g a b n) at h.below }

  -- and a coordinate of the whole is one of the half, where it is on the axis that was halved
  spans_half : (b x : ℕ) → Spans g b x → (b ≡ a → (low_of s g a ≤ x) × (x ≤ high_of s g a)) → Spans (half s g a) b x
  spans_half b x h on = go (ℕ_discrete b a)
    where
      go : Dec (b ≡ a) → Spans (half s g a) b x
      go (yes q) = rw q (record { above = rw half-low (on q).0; below = rw half_high (on q).1 })
      go (no n) = record { above = rw (half_other s g a b n) h.above; below = rw (half_other s g a b n) h.below }

  pub half-inside : (p : List ℕ) → inside (half s g a) p ≡ true → inside g p ≡ true
  half-inside p e = ends-inside g p (λ b h. half_spans b (get_or p b 0) (inside-ends (half s g a) p e b h))

-- the side of a coordinate has it
side_spans : (g : Region) (a x : ℕ) → Spans g a x → (low_of (side_of g a x) g a ≤ x) × (x ≤ high_of (side_of g a x) g a)
side_spans g a x h = go (leb x (middle g a)) refl
  where
    go : (t : Bool) → leb x (middle g a) ≡ t → (low_of (cond t Left Right) g a ≤ x) × (x ≤ high_of (cond t Left Right) g a)
    go true i = (h.above, leb-true x (middle g a) i)
    go false i = (omega (arith, leb-false x (middle g a) i), h.below)

pub inside-half : (g : Region) (a : ℕ) → Shape g → a < axes → (p : List ℕ) → inside g p ≡ true → inside (half (side_of g a (get_or p a 0)) g a) p ≡ true
inside-half g a w lt p e =
    let s = side_of g a (get_or p a 0) in
    ends-inside (half s g a) p
    (λ b h. spans_half s g a w lt b (get_or p b 0) (inside-ends g p e b h) (λ q. rw q (side_spans g a (get_or p a 0) (inside-ends g p e a lt))))

pub root_row : (a : ℕ) → a < axes → get_or root_region a [] ≡ free a
unfolding root_region
root_row a h = get_d_map free (count_from 0 axes) a 0 [] (rw length-count_from h) ∙ ap free (get_d_count_from 0 axes a 0 h ∙ zero-add a)

pub root_shape : Shape root_region
unfolding root_region
root_shape = record {
  rows = length-map (count_from 0 axes) free ∙ length-count_from 0 axes;
  ends = λ a h. ap length (root_row a h);
}
