-- One pass over the hits finds the grant that decides.
--   rest_of, rest_at            the hits behind the first, as the code takes them apart; each of them
--   decides-none                nothing is hit
--   decides_over, decides_under the next grant outranks the one that decides so far, or not
--   decides-end                 all have been passed
-- Assumes nothing.
use Prim.Native.Nat.{ℕ, suc, ◌+◌, ◌-◌, ◌<◌}
use mathlib.Core.Path.{◌≡◌, sym, ap, ◌∙◌}
use mathlib.Core.Bool.{Bool, true, false, cond}
use mathlib.Core.List.{List, [], ◌∷◌}
use native.Mathlib.Numerals.{add-one}
use native.Mathlib.Omega.{arith}
use Rattle.std.proofs.lemmas.List.{nil_from_length}
use lib.ListN.{length, take, drop, get_or, length-drop}
use lib.Seq.{drop-cons, drop-length, take_all}
use Rattle.model.specs.declared.Grant.{Grant}
use Rattle.model.specs.declared.Decision.TheVariants as decision
use Rattle.model.specs.Decide.{outranks, deciding_of, decision_of, decide_among}
use Rattle.pool.specs.Cell.{grant_at}
use Rattle.steps.specs.Hits.{grants_at}
use Rattle.steps.proofs.HitsLaws.{grants_from}

deciding_of-next : (g h : Grant) (hs : List Grant) {b : Bool} → outranks h g ≡ b → deciding_of g (h ∷ hs) ≡ deciding_of (cond b h g) hs
unfolding deciding_of
deciding_of-next g h hs o = ap (λ (b : Bool). deciding_of (cond b h g) hs) o

-- the hits behind the first, as the code takes them apart
pub rest_of : (hits : List ℕ) → take (length hits - 1) (drop 1 hits) ≡ drop 1 hits
rest_of hits = take_all (length hits - 1) (drop 1 hits) (omega (arith, length-drop 1 hits))

pub rest_at : (hits : List ℕ) (i : ℕ) {k : ℕ} → k ≡ get_or (take (length hits - 1) (drop 1 hits)) i 0 → k ≡ get_or hits (i + 1) 0
rest_at [] i at = at
rest_at (x ∷ xs) i at = rw (add-one i) (at ∙ ap (λ (l : List ℕ). get_or l i 0) (rest_of (x ∷ xs)))

module _ (w hits : List ℕ) where
  next : (i : ℕ) → i < length hits → grants_from w hits i ≡ grant_at w (get_or hits i 0) ∷ grants_from w hits (suc i)
  next i lt = rw (drop-cons hits i 0 lt)

  pub decides-none : length hits ≡ 0 → decision.None ≡ decide_among (grants_at w hits)
  unfolding decide_among
  decides-none z = rw (nil_from_length hits z)

  module _ {i : ℕ} (lt : i < length hits) {k : ℕ} {g : Grant} (at : k ≡ get_or hits i 0) (e : g ≡ grant_at w k) (d : Grant) {all : Grant}
      (before : deciding_of d (grants_from w hits i) ≡ all) where
    turn : deciding_of d (g ∷ grants_from w hits (i + 1)) ≡ all
    turn = rw (e, at, add-one i, ← next i lt) before

    pub decides_over : outranks g d ≡ true → deciding_of g (grants_from w hits (i + 1)) ≡ all
    decides_over o = sym (deciding_of-next d g _ o) ∙ turn

    pub decides_under : outranks g d ≡ false → deciding_of d (grants_from w hits (i + 1)) ≡ all
    decides_under o = sym (deciding_of-next d g _ o) ∙ turn

  none_after : (d : Grant) → deciding_of d (grants_from w hits (length hits)) ≡ d
  unfolding deciding_of
  none_after d = rw (drop-length hits)

  pub decides-end : (i : ℕ) → i ≡ length hits → 0 < length hits → {k : ℕ} {g : Grant} → k ≡ get_or hits 0 0 → g ≡ grant_at w k → (d : Grant)
      → deciding_of d (grants_from w hits i) ≡ deciding_of g (grants_from w hits 1)
      → decision_of d.kind d ≡ decide_among (grants_at w hits)
  unfolding decide_among
  decides-end i end some {k} {g} at e d before =
      let same : d ≡ deciding_of g (grants_from w hits 1) = sym (none_after d) ∙ ap (λ (j : ℕ). deciding_of d (grants_from w hits j)) (sym end) ∙ before in
      let all : g ∷ grants_from w hits 1 ≡ grants_at w hits = rw (e, at) (sym (next 0 some)) in
      ap (λ (x : Grant). decision_of x.kind x) same ∙ ap decide_among all
