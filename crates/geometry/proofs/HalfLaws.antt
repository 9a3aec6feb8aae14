-- The half of a region, as the code makes it and tests it against a search range.
--   set_half_of                a half is the region with the half's range on the axis
--   meets_half                of a region that meets a search range, a half meets it exactly if it does on the axis that was halved
--   meets-left, meets_right   and there only the end that moved can fail
-- Assumes nothing.
use Prim.Native.Nat.{ℕ, ◌+◌, ◌/◌, ◌<◌}
use mathlib.Core.Path.{◌≡◌, refl, sym, ap, ◌∙◌}
use mathlib.Core.Bool.{true, ◌&&◌, and-true}
use mathlib.Core.List.{List, [], ◌∷◌}
use native.Mathlib.Omega.{arith}
use native.Mathlib.Decide.{ℕ_discrete}
use lib.Dec.{leb}
use lib.ListN.{length, get_or, set}
use borrow.Author.Tests.{le-leb}
use Rattle.lists.proofs.TestLaws.{tests_agree}
use Rattle.geometry.specs.declared.Side.{Side}
use Rattle.geometry.specs.declared.Side.TheVariants.{Left, Right}
use Rattle.geometry.specs.Axis.{axes}
use Rattle.geometry.specs.Region.{Region, Shape, Halving, range, low, high, middle, half, half_of, meets_on, meets}
use Rattle.geometry.proofs.RegionLaws.{Shares, meets_on-ends, ends-meets_on, meets-ends, ends-meets, low_of, high_of, half-low, half_high, half_other}

-- a row of two numbers is its ends
row_ends : (l : List ℕ) → length l ≡ 2 → l ≡ range (get_or l 0 0) (get_or l 1 0)
row_ends [] e = absurd (omega arith)
row_ends (x ∷ []) e = absurd (omega arith)
row_ends (x ∷ y ∷ []) e = refl
row_ends (x ∷ y ∷ z ∷ l) e = absurd (omega arith)

pub set_half_of : (s : Side) (g : Region) (a : ℕ) → Shape g → a < axes → set g a (half_of s (low g a) (high g a)) ≡ half s g a
unfolding half
set_half_of Left g a w lt = ap (λ (l : List ℕ). set g a (set l 1 (high_of Left g a))) (sym (row_ends (get_or g a []) (w.ends a lt)))
set_half_of Right g a w lt = ap (λ (l : List ℕ). set g a (set l 0 (low_of Right g a))) (sym (row_ends (get_or g a []) (w.ends a lt)))

module _ {g q : Region} {a : ℕ} (h : Halving g q a) where
  meets_half : (s : Side) → meets (half s g a) q ≡ meets_on (half s g a) q a
  meets_half s =
      tests_agree (meets (half s g a) q) (meets_on (half s g a) q a)
      (λ i. ends-meets_on (half s g a) q a (meets-ends (half s g a) q i a h.axis))
      (λ i. ends-meets (half s g a) q (λ b k. go i b k (ℕ_discrete b a)))
    where
      go : meets_on (half s g a) q a ≡ true → (b : ℕ) → b < axes → Dec (b ≡ a) → Shares (half s g a) q b
      go i b k (yes e) = rw e (meets_on-ends (half s g a) q a i)
      go i b k (no n) =
          let whole = meets-ends g q h.whole b k in
          record { starts = rw (half_other s g a b n) whole.starts; ends = rw (half_other s g a b n) whole.ends }

  ends-half : (s : Side) → meets (half s g a) q ≡ (leb (low q a) (high_of s g a) && leb (low_of s g a) (high q a))
  ends-half s = meets_half s ∙ rw (half-low s g a h.shape h.axis, half_high s g a h.shape h.axis)

  whole : Shares g q a
  whole = meets-ends g q h.whole a h.axis

  pub meets-left : meets (half Left g a) q ≡ leb (low q a) (middle g a)
  meets-left = ends-half Left ∙ rw (le-leb (low g a) (high q a) whole.ends, and-true)

  pub meets_right : meets (half Right g a) q ≡ leb ((low g a + high g a + 1) / 2) (high q a)
  meets_right = ends-half Right ∙ rw (le-leb (low q a) (high g a) whole.starts)
