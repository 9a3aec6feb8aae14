-- Copying the numbers of the grants in the cells of hits.
--   length-numbers_at    as many numbers as cells
--   numbers_more        one number more is copied
-- Assumes nothing.
use Prim.Native.Nat.{ℕ, ◌+◌, ◌<◌}
use mathlib.Core.Path.{◌≡◌, ap, ◌∙◌}
use mathlib.Core.List.{List, [], ◌∷◌, ◌++◌, map-append}
use native.Mathlib.Numerals.{add-one}
use lib.ListN.{length, take, get_or, set, length-map}
use lib.Seq.{take-suc, take-suc-set}
use Rattle.pool.specs.declared.Field.TheVariants.{Number}
use Rattle.pool.specs.Layout.{field_of}
use Rattle.pool.specs.Cell.{grant_at}
use Rattle.steps.specs.Hits.{numbers_at}

pub length-numbers_at : (w ks : List ℕ) → length (numbers_at w ks) ≡ length ks
length-numbers_at w ks = simp length-map

module _ (w hits : List ℕ) where
  pub numbers_more : (l : List ℕ) (i : ℕ) → i < length l → i < length hits → {k v : ℕ} → k ≡ get_or hits i 0 → v ≡ field_of w k Number
      → take i l ≡ numbers_at w (take i hits) → take (i + 1) (set l i v) ≡ numbers_at w (take (i + 1) hits)
  unfolding grant_at
  numbers_more l i p q {k} {v} at e before =
      rw (add-one i, take-suc-set l i v p, take-suc hits i 0 q, e, at)
      (ap (λ (xs : List ℕ). xs ++ field_of w (get_or hits i 0) Number ∷ []) before ∙ simp map-append)
