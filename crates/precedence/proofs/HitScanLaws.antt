-- One pass over the hits of a search, hit by hit.
--   any_found, any_passed, any_none    a test of the next grant passes, fails; all have been passed
--   reach_passed, reach-end            the next grant has its say on how far the grants reach; all have had it
-- Assumes nothing.
use Prim.Native.Nat.{ℕ, suc, ◌+◌, ◌<◌, ◌≤◌}
use mathlib.Core.Path.{◌≡◌, sym, ap, ◌∙◌}
use mathlib.Core.Bool.{Bool, true, false, ◌||◌}
use mathlib.Core.List.{List, [], ◌∷◌}
use native.Mathlib.Numerals.{add-one}
use lib.ListN.{length, get_or, drop_of_length-le}
use lib.Seq.{drop-cons}
use Rattle.lists.specs.Tests.{any}
use Rattle.model.specs.declared.Grant.{Grant}
use Rattle.pool.specs.Cell.{grant_at}
use Rattle.steps.proofs.HitsLaws.{grants_from}
use Rattle.precedence.specs.PrecedenceWalk.{further, reach}

module _ (w hits : List ℕ) where
  next : (i : ℕ) → i < length hits → grants_from w hits i ≡ grant_at w (get_or hits i 0) ∷ grants_from w hits (suc i)
  next i lt = rw (drop-cons hits i 0 lt)

  last : (i : ℕ) → length hits ≤ i → grants_from w hits i ≡ []
  last i end = rw (drop_of_length-le hits end)

  module _ {i : ℕ} (lt : i < length hits) {k : ℕ} {h : Grant} (at : k ≡ get_or hits i 0) (e : h ≡ grant_at w k) where
    turn : grants_from w hits i ≡ h ∷ grants_from w hits (i + 1)
    turn = rw (e, at, add-one i) (next i lt)

    module _ (t : Grant → Bool) {all : Bool} (before : any t (grants_from w hits i) ≡ all) where
      now_any : t h || any t (grants_from w hits (i + 1)) ≡ all
      unfolding any
      now_any = ap (any t) (sym turn) ∙ before

      pub any_found : t h ≡ true → true ≡ all
      any_found p = rw p at now_any

      pub any_passed : t h ≡ false → any t (grants_from w hits (i + 1)) ≡ all
      any_passed p = rw p at now_any

    pub reach_passed : (g : Grant) (s best : ℕ) {b all : ℕ} → reach g s best (grants_from w hits i) ≡ all → b ≡ further g s best h
        → reach g s b (grants_from w hits (i + 1)) ≡ all
    unfolding reach
    reach_passed g s best before f = rw f (ap (reach g s best) (sym turn) ∙ before)

  pub any_none : (t : Grant → Bool) {all : Bool} (i : ℕ) → length hits ≤ i → any t (grants_from w hits i) ≡ all → false ≡ all
  unfolding any
  any_none t i end before = rw (last i end) at before

  pub reach-end : (g : Grant) (s best : ℕ) {all : ℕ} (i : ℕ) → length hits ≤ i → reach g s best (grants_from w hits i) ≡ all → best ≡ all
  unfolding reach
  reach-end g s best i end before = rw (last i end) at before
