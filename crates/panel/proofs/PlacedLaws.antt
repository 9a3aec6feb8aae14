-- The grant at a place of the hits' cells (specs/Touching).
--   placed_end      the place is past the last
--   placed_at       the grant in its cell
--   placed-sorted   the hits' cells sorted by number give the sorted grants
-- Assumes nothing.
use Prim.Native.Nat.{ℕ, zero, suc, ◌<◌, ◌≤◌}
use mathlib.Core.Path.{◌≡◌, refl, sym, ap, ◌∙◌}
use mathlib.Core.List.{List, [], ◌∷◌, map}
use Rattle.std.proofs.Common.{Option, None, Some}
use native.Mathlib.Omega.{arith}
use lib.ListN.{length, get_or}
use Rattle.lists.specs.Sort.{sort_by}
use Rattle.model.specs.declared.Grant.{Grant}
use Rattle.pool.specs.Cell.{grant_at}
use Rattle.steps.specs.Hits.{grants_at}
use Rattle.steps.specs.SortKeys.{number_in}
use Rattle.steps.proofs.SortedCellLaws.{grants-sorted}
use Rattle.precedence.specs.declared.Precedence.{Precedence}
use Rattle.precedence.specs.Precedence.{precedence}
use Rattle.panel.specs.declared.touching.Touching.{Touching}
use Rattle.panel.specs.Touching.{placed_among, placed}

past : (all : List Grant) (f : ℕ → Grant) (ks : List ℕ) (i : ℕ) → length ks ≤ i → placed_among all (map f ks) i ≡ None
unfolding placed_among
past all f [] i end = refl
past all f (k ∷ ks) zero end = absurd (omega arith)
past all f (k ∷ ks) (suc i) end = past all f ks i (omega arith)

within : (all : List Grant) (f : ℕ → Grant) (ks : List ℕ) (i : ℕ) → i < length ks
    → placed_among all (map f ks) i ≡ Some (record { grant = f (get_or ks i 0); precedence = precedence all (f (get_or ks i 0)) })
unfolding placed_among
within all f [] i lt = absurd (omega arith)
within all f (k ∷ ks) zero lt = refl
within all f (k ∷ ks) (suc i) lt = within all f ks i (omega arith)

module _ (w hits : List ℕ) (i : ℕ) where
  abbrev grants : List Grant
  grants = grants_at w hits

  pub placed_end : length hits ≤ i → None ≡ placed grants i
  placed_end end = sym (past grants (grant_at w) hits i end)

  pub placed_at : i < length hits → {k : ℕ} {g : Grant} {s : Precedence} → k ≡ get_or hits i 0 → g ≡ grant_at w k → s ≡ precedence grants g
      → Some (record { grant = g; precedence = s }) ≡ placed grants i
  placed_at lt at e stands = rw (stands, e, at) (sym (within grants (grant_at w) hits i lt))

pub placed-sorted : (w hits : List ℕ) (i : ℕ) {cells : List ℕ} {t : Option Touching} → cells ≡ sort_by (number_in w) hits
    → t ≡ placed (grants_at w cells) i → t ≡ placed (sort_by (λ g. g.number) (grants_at w hits)) i
placed-sorted w hits i sorted e =
    e ∙ ap (λ (gs : List Grant). placed gs i) (ap (map (grant_at w)) sorted ∙ grants-sorted w hits)
