-- One turn of match's loop over the pool's grants and the file's (`first_difference`, calls/specs/FileCalls).
--   drop_end, drop_here         what a list holds from place i on, by what `slice_get` reads there
--   get_here                    and what `slice_get` reads, by what the list holds
--   both_end                    neither side has a grant at place i
--   theirs_left, ours_left      one side alone has one
--   unequal_here, equal_here    both have one, and the two are unequal or equal
-- Assumes nothing.
use Prim.Native.Nat.{ℕ, zero, suc, ◌+◌, min}
use mathlib.Core.Path.{◌≡◌, refl, sym, ap}
use mathlib.Core.Bool.{true, false}
use mathlib.Core.List.{List, [], ◌∷◌}
use Rattle.std.proofs.Common.{Some, None}
use Rattle.std.proofs.lemmas.Option.{none-some, same_Some}
use Rattle.std.specs.List.{slice_get}
use native.Mathlib.Numerals.{add-one}
use native.Mathlib.Omega.{arith}
use lib.ListN.{drop}
use Rattle.model.specs.declared.Grant.{Grant}
use Rattle.model.specs.Grant.{same_grant}
use Rattle.calls.specs.FileCalls.{first_difference}

module _ {A : Type 0} where
  drop_end : (xs : List A) (i : ℕ) → slice_get xs i ≡ None → drop i xs ≡ []
  drop_end [] zero e = refl
  drop_end [] (suc i) e = refl
  drop_end (x ∷ xs) zero e = absurd (none-some x (sym e))
  drop_end (x ∷ xs) (suc i) e = drop_end xs i e

  drop_next : (xs : List A) (i : ℕ) {y : A} → slice_get xs i ≡ Some y → drop i xs ≡ y ∷ drop (suc i) xs
  drop_next [] i {y} e = absurd (none-some y e)
  drop_next (x ∷ xs) zero {y} e = ap (λ (z : A). z ∷ xs) (same_Some x y e)
  drop_next (x ∷ xs) (suc i) e = drop_next xs i e

  pub get_here : (xs : List A) (i : ℕ) {y : A} {ys : List A} → drop i xs ≡ y ∷ ys → slice_get xs i ≡ Some y
  get_here [] zero e = let z : ◌≡◌ {A = ℕ} 0 1 = cc in absurd (omega arith)
  get_here [] (suc i) e = let z : ◌≡◌ {A = ℕ} 0 1 = cc in absurd (omega arith)
  get_here (x ∷ xs) zero {y} e = cc
  get_here (x ∷ xs) (suc i) e = get_here xs i e

  drop_here : (xs : List A) (i : ℕ) {y : A} → slice_get xs i ≡ Some y → drop i xs ≡ y ∷ drop (i + 1) xs
  drop_here xs i e = rw (add-one i) (drop_next xs i e)

module _ (gs hs : List Grant) (i : ℕ) where
  pub both_end : slice_get gs i ≡ None → slice_get hs i ≡ None → None ≡ first_difference (drop i gs) (drop i hs)
  unfolding first_difference
  both_end p q = rw (drop_end gs i p, drop_end hs i q)

  pub theirs_left : slice_get gs i ≡ None → {h : Grant} → slice_get hs i ≡ Some h → Some h.number ≡ first_difference (drop i gs) (drop i hs)
  unfolding first_difference
  theirs_left p q = rw (drop_end gs i p, drop_here hs i q)

  pub ours_left : {g : Grant} → slice_get gs i ≡ Some g → slice_get hs i ≡ None → Some g.number ≡ first_difference (drop i gs) (drop i hs)
  unfolding first_difference
  ours_left p q = rw (drop_here gs i p, drop_end hs i q)

  module _ {g h : Grant} (ours : slice_get gs i ≡ Some g) (theirs : slice_get hs i ≡ Some h) where
    pub unequal_here : same_grant g h ≡ false → Some (min g.number h.number) ≡ first_difference (drop i gs) (drop i hs)
    unfolding first_difference
    unequal_here u = rw (drop_here gs i ours, drop_here hs i theirs, u)

    pub equal_here : same_grant g h ≡ true → first_difference (drop (i + 1) gs) (drop (i + 1) hs) ≡ first_difference (drop i gs) (drop i hs)
    unfolding first_difference
    equal_here u = rw (drop_here gs i ours, drop_here hs i theirs, u)
