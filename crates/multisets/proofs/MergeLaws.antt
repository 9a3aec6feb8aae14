-- Two ascending lists gone through side by side.
--   merge_turn     a turn: the lower of the two heads goes, both where they are equal, and then one more agrees
--   merge_ends-left, merge_ends_right   where either list is used up, nothing more agrees
-- Assumes nothing.
use Prim.Native.Nat.{ℕ, zero, suc, ◌+◌, ◌<◌, ◌≤◌}
use mathlib.Core.Path.{◌≡◌, refl}
use mathlib.Core.Logic.{◌≢◌}
use mathlib.Core.Bool.{cond}
use mathlib.Core.List.{List, ◌∷◌, Memᴰ}
use native.Mathlib.Omega.{arith}
use native.Mathlib.Decide.{dec_lt}
use lib.Dec.{eqb, leb}
use lib.ListN.{length, get_or, drop, drop_of_length-le}
use lib.Seq.{drop-cons, drop-drop}
use borrow.Author.Tests.{le-leb, lt-leb, eq-eqb, ne_eqb}
use Rattle.lists.proofs.SortLaws.{Ascends, ascends_none, ascends_more}
use Rattle.multisets.specs.Multiplicity.{count}
use Rattle.multisets.specs.Agreement.{agree}
use Rattle.multisets.proofs.MultiplicityLaws.{count_none}
use Rattle.multisets.proofs.AgreementLaws.{agree_both, agree-only-left, agree-only_right, agree_nil_left, agree_nil_right}

ascends_drop : {A : Type 0} (key : A → ℕ) (n : ℕ) {xs : List A} → Ascends key xs → Ascends key (drop n xs)
ascends_drop key zero a = a
ascends_drop key (suc n) ascends_none = ascends_none
ascends_drop key (suc n) (ascends_more {x = x} {xs = xs} h a) = ascends_drop key n a

-- what is below the head of an ascending list stands nowhere in it
below-head : (x y : ℕ) (ys : List ℕ) → Ascends (λ n. n) (y ∷ ys) → x < y → count x (y ∷ ys) ≡ 0
below-head x y ys (ascends_more h a) l = count_none x (y ∷ ys) other
  where
    other : (z : ℕ) → Memᴰ z (y ∷ ys) → x ≢ z
    other z (Memᴰ.head e) q = omega arith
    other z (Memᴰ.tail m) q = omega (arith, h z m)

merge_heads : (x y : ℕ) (xs ys : List ℕ) → Ascends (λ n. n) (x ∷ xs) → Ascends (λ n. n) (y ∷ ys)
    → cond (eqb x y) 1 0 + agree (drop (cond (leb x y) 1 0) (x ∷ xs)) (drop (cond (leb y x) 1 0) (y ∷ ys)) ≡ agree (x ∷ xs) (y ∷ ys)
merge_heads x y xs ys a b = go (dec_lt x y) (dec_lt y x)
  where
    go : Dec (x < y) → Dec (y < x)
        → cond (eqb x y) 1 0 + agree (drop (cond (leb x y) 1 0) (x ∷ xs)) (drop (cond (leb y x) 1 0) (y ∷ ys)) ≡ agree (x ∷ xs) (y ∷ ys)
    go (yes l) d =
        rw (ne_eqb x y (λ e. omega arith), le-leb x y (omega arith), lt-leb y x l)
        (omega (arith, agree-only-left x xs (y ∷ ys) (below-head x y ys b l)))
    go (no n) (yes l) =
        rw (ne_eqb x y (λ e. omega arith), lt-leb x y l, le-leb y x (omega arith))
        (omega (arith, agree-only_right y (x ∷ xs) ys (below-head y x xs a l)))
    go (no n) (no m) =
        let e : y ≡ x = omega arith in
        rw (e, eq-eqb x x refl, le-leb x x (omega arith)) (omega (arith, agree_both x xs ys))

module _ (xs ys : List ℕ) (a : Ascends (λ n. n) xs) (b : Ascends (λ n. n) ys) where
  pub merge_turn : (i j : ℕ) → i < length xs → j < length ys → let x = get_or xs i 0 in let y = get_or ys j 0 in
      cond (eqb x y) 1 0 + agree (drop (i + cond (leb x y) 1 0) xs) (drop (j + cond (leb y x) 1 0) ys) ≡ agree (drop i xs) (drop j ys)
  merge_turn i j h l =
      let x = get_or xs i 0 in
      let y = get_or ys j 0 in
      let ascends : Ascends (λ n. n) (x ∷ drop (suc i) xs) = rw (drop-cons xs i 0 h) at (ascends_drop (λ n. n) i a) in
      let other : Ascends (λ n. n) (y ∷ drop (suc j) ys) = rw (drop-cons ys j 0 l) at (ascends_drop (λ n. n) j b) in
      rw (← drop-drop (cond (leb x y) 1 0) i xs, ← drop-drop (cond (leb y x) 1 0) j ys, drop-cons xs i 0 h, drop-cons ys j 0 l)
      (merge_heads x y (drop (suc i) xs) (drop (suc j) ys) ascends other)

pub merge_ends-left : (xs ys : List ℕ) (i : ℕ) → length xs ≤ i → agree (drop i xs) ys ≡ 0
merge_ends-left xs ys i h = rw (drop_of_length-le xs h) (agree_nil_left ys)

pub merge_ends_right : (xs ys : List ℕ) (j : ℕ) → length ys ≤ j → agree xs (drop j ys) ≡ 0
merge_ends_right xs ys j h = rw (drop_of_length-le ys h) (agree_nil_right xs)
