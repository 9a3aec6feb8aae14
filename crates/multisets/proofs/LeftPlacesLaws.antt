-- Laws of the places at which numbers are left (specs/Agreement).
--   is_left_of            the test of a place, by the number that stands there
--   left_places-count     of a number, as many places as it stands here more often than there
--   left_places-length    in all, as many as are left
--   is_left_later         of a kind the last are left: behind one that is left, each of its kind is left
-- Assumes nothing.
use Prim.Native.Nat.{ℕ, zero, suc, ◌+◌, ◌-◌, ◌≤◌}
use mathlib.Core.Path.{◌≡◌, refl, sym, ap, ◌∙◌}
use mathlib.Core.Bool.{Bool, true, false, cond}
use mathlib.Core.List.{List, [], ◌∷◌, ◌++◌, map}
use native.Mathlib.Nat.{zero-add}
use native.Mathlib.Numerals.{add-one}
use native.Mathlib.Omega.{arith}
use native.Mathlib.Decide.{ℕ_discrete}
use lib.Dec.{eqb, leb}
use lib.ListN.{length, get_or, take, drop, length-append, length-map}
use lib.Seq.{take-suc, take-add, take-length}
use borrow.Author.Tests.{leb-true, leb-false, le-leb, eq-eqb, ne_eqb}
use Rattle.lists.specs.Tests.{filter}
use Rattle.lists.specs.Ranges.{count_from}
use Rattle.lists.proofs.TestLaws.{filter-append, filter_map}
use Rattle.lists.proofs.ListLaws.{count_from-append}
use Rattle.multisets.specs.Multiplicity.{count}
use Rattle.multisets.specs.Agreement.{left, is_left, left_places}
use Rattle.multisets.proofs.MultiplicityLaws.{count_nil, count_here, count_other, count-append}
use Rattle.multisets.proofs.AgreementLaws.{left_counts, left_nil_right}

-- one place, tested twice
length_tests : (t u : ℕ → Bool) (i : ℕ) → length (filter t (filter u (i ∷ []))) ≡ cond (u i) (cond (t i) 1 0) 0
unfolding filter
length_tests t u i = go (u i)
  where
    here : (b : Bool) → length (cond b (i ∷ []) []) ≡ cond b 1 0
    here true = refl
    here false = refl

    go : (b : Bool) → length (filter t (cond b (i ∷ []) [])) ≡ cond b (cond (t i) 1 0) 0
    go true = here (t i)
    go false = refl

count_from-last : (m : ℕ) → count_from 0 (suc m) ≡ count_from 0 m ++ m ∷ []
unfolding count_from
count_from-last m = ap (count_from 0) (sym (add-one m)) ∙ count_from-append 0 m 1 ∙ rw (zero-add m)

module _ (xs ys : List ℕ) (x : ℕ) where
  -- those of some places that are left, and hold x
  abbrev kept : List ℕ → List ℕ
  kept is = filter (λ i. eqb x (get_or xs i 0)) (filter (is_left xs ys) is)

  pub is_left_of : (i : ℕ) → x ≡ get_or xs i 0 → is_left xs ys i ≡ leb (count x ys) (count x (take i xs))
  unfolding is_left
  is_left_of i q = rw q

  kept_one : (i : ℕ) → (count x (take i xs) - count x ys) + length (kept (i ∷ [])) ≡ count x (take i xs ++ get_or xs i 0 ∷ []) - count x ys
  kept_one i =
      rw (length_tests (λ j. eqb x (get_or xs j 0)) (is_left xs ys) i, count-append x (take i xs) (get_or xs i 0 ∷ [])) (go (ℕ_discrete x (get_or xs i 0)))
    where
      passed : (b : Bool) → leb (count x ys) (count x (take i xs)) ≡ b
          → (count x (take i xs) - count x ys) + cond b 1 0 ≡ (count x (take i xs) + 1) - count x ys
      passed true e = omega (arith, leb-true (count x ys) (count x (take i xs)) e)
      passed false e = omega (arith, leb-false (count x ys) (count x (take i xs)) e)

      none : (b : Bool) → ◌≡◌ {A = ℕ} (cond b 0 0) 0
      none true = refl
      none false = refl

      go : Dec (x ≡ get_or xs i 0)
          → (count x (take i xs) - count x ys) + cond (is_left xs ys i) (cond (eqb x (get_or xs i 0)) 1 0) 0
          ≡ (count x (take i xs) + count x (get_or xs i 0 ∷ [])) - count x ys
      go (yes q) =
          rw (eq-eqb x (get_or xs i 0) q, is_left_of i q, ← q, count_here x [], count_nil x) (passed (leb (count x ys) (count x (take i xs))) refl)
      go (no n) = rw (ne_eqb x (get_or xs i 0) n, none (is_left xs ys i), count_other x (get_or xs i 0) [] n, count_nil x) (omega arith)

  kept_append : (is js : List ℕ) → kept (is ++ js) ≡ kept is ++ kept js
  kept_append is js = rw (filter-append (is_left xs ys) is js) (filter-append (λ i. eqb x (get_or xs i 0)) (filter (is_left xs ys) is) (filter (is_left xs ys) js))

  kept-below : (m : ℕ) → m ≤ length xs → length (kept (count_from 0 m)) ≡ count x (take m xs) - count x ys
  unfolding filter count_from
  kept-below zero h = omega arith
  kept-below (suc m) h =
      ap (λ (l : List ℕ). length (kept l)) (count_from-last m)
      ∙ ap length (kept_append (count_from 0 m) (m ∷ []))
      ∙ length-append (kept (count_from 0 m)) (kept (m ∷ []))
      ∙ ap (λ (n : ℕ). n + length (kept (m ∷ []))) (kept-below m (omega arith))
      ∙ kept_one m
      ∙ ap (λ (l : List ℕ). count x l - count x ys) (sym (take-suc xs m 0 h))

  pub left_places-count : length (filter (λ i. eqb x (get_or xs i 0)) (left_places xs ys)) ≡ count x xs - count x ys
  unfolding left_places
  left_places-count = kept-below (length xs) (omega arith) ∙ ap (λ (l : List ℕ). count x l - count x ys) (take-length xs)

pub left_places-length : (xs ys : List ℕ) → length (left_places xs ys) ≡ left xs ys
left_places-length xs ys = sym (length-map (left_places xs ys) (λ i. get_or xs i 0)) ∙ sym (left_nil_right held) ∙ left_counts held xs [] ys each
  where
    held : List ℕ
    held = map (λ i. get_or xs i 0) (left_places xs ys)

    each : (x : ℕ) → count x held - count x [] ≡ count x xs - count x ys
    each x = rw (count_nil x, filter_map (eqb x) (λ i. get_or xs i 0) (left_places xs ys), length-map) (omega (arith, left_places-count xs ys x))

-- a longer front has no fewer
count-take : (x : ℕ) (xs : List ℕ) (i j : ℕ) → i ≤ j → count x (take i xs) ≤ count x (take j xs)
count-take x xs i j h =
    let further : i + (j - i) ≡ j = omega arith in
    let parts : take j xs ≡ take i xs ++ take (j - i) (drop i xs) = rw further at (take-add i (j - i) xs) in
    rw (parts, count-append x (take i xs) (take (j - i) (drop i xs))) (omega arith)

pub is_left_later : (xs ys : List ℕ) (i j : ℕ) → i ≤ j → get_or xs i 0 ≡ get_or xs j 0 → is_left xs ys i ≡ true → is_left xs ys j ≡ true
is_left_later xs ys i j h e l =
    let x = get_or xs i 0 in
    let before : count x ys ≤ count x (take i xs) = leb-true (count x ys) (count x (take i xs)) (sym (is_left_of xs ys x i refl) ∙ l) in
    is_left_of xs ys x j e ∙ le-leb (count x ys) (count x (take j xs)) (omega (arith, count-take x xs i j h))
