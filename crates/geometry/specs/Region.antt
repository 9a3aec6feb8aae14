-- Regions (document 01, "The tree"): seven ranges, each a low and a high, both of it. Search ranges have the same form.
--   Shape r               r has seven ranges of two numbers each
--   low r a, high r a     the ends on an axis
--   root_region            all of every axis
--   middle r a            where the axis is parted: the last coordinate of the lower half
--   side_of r a x          the half that holds the coordinate x
--   half s r a            that half: one range changes
--   half_of s l h          the half of the range l to h on a side
--   meets_on r q a, meets r q   the two share a coordinate on the axis, and on every axis
--   Halving r q a         a region that meets the range q, and the axis that is halved
-- Source 001's (2b) names the left child's low where the right child's is meant; (3) is half-open, so its end is one above `high`.
-- Assumes nothing: these are definitions.
use Rattle.std.specs.Prelude.{ℕ, ◌+◌, ◌/◌, ◌<◌, ◌≡◌, Bool, true, cond, ◌&&◌, List, [], ◌∷◌, map, leb, length, get_or, set}
use Rattle.lists.specs.Tests.{each}
use Rattle.lists.specs.Ranges.{count_from}
use Rattle.geometry.specs.declared.Side.{Side}
use Rattle.geometry.specs.declared.Side.TheVariants.{Left, Right}
use Rattle.geometry.specs.Axis.{axes}
use Rattle.geometry.specs.Width.{top_of}

abbrev pub Region : Type 0
Region = List (List ℕ)

pub record Shape (r : Region) : Type 0 where
  pub rows : length r ≡ axes
  pub ends : (a : ℕ) → a < axes → length (get_or r a []) ≡ 2

-- one range
abbrev pub range : ℕ → ℕ → List ℕ
range lowest highest = lowest ∷ highest ∷ []

-- the whole of an axis
abbrev pub free : ℕ → List ℕ
free a = range 0 (top_of a)

unfoldable pub root_region : Region
root_region = map free (count_from 0 axes)

abbrev pub low : Region → ℕ → ℕ
low r a = get_or (get_or r a []) 0 0

abbrev pub high : Region → ℕ → ℕ
high r a = get_or (get_or r a []) 1 0

abbrev pub middle : Region → ℕ → ℕ
middle r a = (low r a + high r a) / 2

abbrev pub side_of : Region → ℕ → ℕ → Side
side_of r a x = cond (leb x (middle r a)) Left Right

-- the upper half begins above the middle: a range that is halved has an odd sum of its ends
unfoldable pub half : Side → Region → ℕ → Region
half Left r a = set r a (set (get_or r a []) 1 (middle r a))
half Right r a = set r a (set (get_or r a []) 0 ((low r a + high r a + 1) / 2))

abbrev pub half_of : Side → ℕ → ℕ → List ℕ
half_of Left lowest highest = range lowest ((lowest + highest) / 2)
half_of Right lowest highest = range ((lowest + highest + 1) / 2) highest

abbrev pub meets_on : Region → Region → ℕ → Bool
meets_on r q a = leb (low q a) (high r a) && leb (low r a) (high q a)

unfoldable pub meets : Region → Region → Bool
meets r q = each axes (meets_on r q)

pub record Halving (r q : Region) (a : ℕ) : Type 0 where
  pub shape : Shape r
  pub axis : a < axes
  pub whole : meets r q ≡ true
