-- Laws of what two lists have in common and what is left of each (specs/Agreement).
--   total_split                          a sum over a list: a number's share, times over, and the others'
--   agree_peel, left_peel                what agrees, or is left, of one number, and of the lists without it
--   agree_both                           one more agrees where both lists start with the same number
--   agree-only-left, agree-only_right    a number that the other list does not have changes nothing
--   agree_nil_left, agree_nil_right      nothing agrees with the empty list
--   left_nil_left, left_nil_right        nothing of the empty list is left, and against it everything
--   agree_counts, left_counts            only how often each number stands matters
--   agree-exchange                       which list comes first does not matter to what agrees
--   agree-sorted                         nor does the order within each
--   agree-left-total                     what agrees and what is left make up the list
-- Assumes nothing.
use Prim.Native.Nat.{ℕ, zero, suc, ◌+◌, ◌-◌, ◌*◌, min}
use mathlib.Core.Logic.{◌≢◌}
use mathlib.Core.Path.{◌≡◌, refl, sym, ap, ap₂, ◌∙◌}
use mathlib.Core.List.{List, [], ◌∷◌, map, Memᴰ}
use native.Mathlib.Nat.{min_comm}
use native.Mathlib.Omega.{arith}
use native.Mathlib.Decide.{ℕ_discrete}
use lib.ListN.{length}
use Rattle.lists.specs.Sort.{sort_by}
use Rattle.lists.proofs.ListLaws.{map_same}
use Rattle.lists.specs.Total.{total}
use Rattle.multisets.specs.Multiplicity.{count, without, distinct}
use Rattle.multisets.specs.Agreement.{agree, left}
use Rattle.multisets.proofs.MultiplicityLaws.{count_nil, count_here, count_other, count-sort_by, without_nil, without_here, without_other, mem_without}
use Rattle.multisets.proofs.MultiplicityLaws.{count-without-same, count-without_other, length_without, distinct_nil, distinct_without, count-distinct}
use Rattle.multisets.proofs.MultiplicityLaws.{peeling}

total_nil : total [] ≡ 0
unfolding total
total_nil = refl

total_cons : (n : ℕ) (ns : List ℕ) → total (n ∷ ns) ≡ n + total ns
unfolding total
total_cons n ns = refl

pub total_split : (f : ℕ → ℕ) (ds : List ℕ) (x : ℕ) → total (map f ds) ≡ count x ds * f x + total (map f (without x ds))
total_split f [] x = rw (count_nil x, without_nil x) (omega arith)
total_split f (d ∷ ds) x = go (total_split f ds x) (ℕ_discrete x d)
  where
    go : total (map f ds) ≡ count x ds * f x + total (map f (without x ds)) → Dec (x ≡ d)
        → total (map f (d ∷ ds)) ≡ count x (d ∷ ds) * f x + total (map f (without x (d ∷ ds)))
    go e (yes q) = rw (← q, count_here x ds, without_here x ds) (omega (arith, total_cons (f x) (map f ds)))
    go e (no n) =
        rw (count_other x d ds n, without_other x d ds n)
        (omega (arith, total_cons (f d) (map f ds), total_cons (f d) (map f (without x ds))))

total_zero : (f : ℕ → ℕ) (ds : List ℕ) → ((x : ℕ) → f x ≡ 0) → total (map f ds) ≡ 0
total_zero f [] h = total_nil
total_zero f (d ∷ ds) h = omega (arith, total_cons (f d) (map f ds), h d, total_zero f ds h)

-- the sum of what h makes of each number's times in both lists: agree has the smaller for h, and left the difference
module _ (h : ℕ → ℕ → ℕ) where
  abbrev shares : List ℕ → List ℕ → ℕ
  shares xs ys = total (map (λ x. h (count x xs) (count x ys)) (distinct xs))

  module _ (none : (b : ℕ) → h 0 b ≡ 0) where
    shares_peel : (xs ys : List ℕ) (x : ℕ) → shares xs ys ≡ h (count x xs) (count x ys) + shares (without x xs) (without x ys)
    shares_peel xs ys x = total_split share (distinct xs) x ∙ ap₂ ◌+◌ (once (count x xs) (count-distinct x xs)) (sym rest)
      where
        share : ℕ → ℕ
        share z = h (count z xs) (count z ys)

        once : (a : ℕ) → count x (distinct xs) ≡ min 1 a → count x (distinct xs) * h a (count x ys) ≡ h a (count x ys)
        once zero e = rw (e, none (count x ys))
        once (suc a) e = let one : count x (distinct xs) ≡ 1 = omega arith in rw one (omega arith)

        other : (z : ℕ) → Memᴰ z (without x (distinct xs)) → z ≢ x
        other z m q = mem_without x z (distinct xs) m (sym q)

        rest : shares (without x xs) (without x ys) ≡ total (map share (without x (distinct xs)))
        rest =
            rw (distinct_without x xs)
            (ap total
            (map_same (λ z. h (count z (without x xs)) (count z (without x ys))) share (without x (distinct xs))
            (λ z m. ap₂ h (count-without_other z x xs (other z m)) (count-without_other z x ys (other z m)))))

    shares_nil : (ys : List ℕ) → shares [] ys ≡ 0
    shares_nil ys = rw distinct_nil total_nil

    shares_same : (xs ys zs ws : List ℕ) → ((x : ℕ) → h (count x xs) (count x ys) ≡ h (count x zs) (count x ws)) → shares xs ys ≡ shares zs ws
    shares_same =
        peeling (λ xs. (ys zs ws : List ℕ) → ((x : ℕ) → h (count x xs) (count x ys) ≡ h (count x zs) (count x ws)) → shares xs ys ≡ shares zs ws)
        (λ ys zs ws e.
        shares_nil ys ∙ sym (total_zero (λ x. h (count x zs) (count x ws)) (distinct zs) (λ x. sym (e x) ∙ rw (count_nil x) (none (count x ys)))))
        (λ x xs before ys zs ws e.
        shares_peel (x ∷ xs) ys x
        ∙ ap₂ ◌+◌ (e x) (rw (without_here x xs) (before (without x ys) (without x zs) (without x ws) (λ z. go x xs ys zs ws (e z) (ℕ_discrete z x))))
        ∙ sym (shares_peel zs ws x))
      where
        go : {z : ℕ} (x : ℕ) (xs ys zs ws : List ℕ) → h (count z (x ∷ xs)) (count z ys) ≡ h (count z zs) (count z ws) → Dec (z ≡ x)
            → h (count z (without x xs)) (count z (without x ys)) ≡ h (count z (without x zs)) (count z (without x ws))
        go x xs ys zs ws e (yes q) =
            rw (q, count-without-same x xs, count-without-same x ys, count-without-same x zs, count-without-same x ws)
        go {z} x xs ys zs ws e (no n) =
            rw (count-without_other z x xs n, count-without_other z x ys n, count-without_other z x zs n, count-without_other z x ws n)
            (rw (count_other z x xs n) at e)

pub agree_peel : (xs ys : List ℕ) (x : ℕ) → agree xs ys ≡ min (count x xs) (count x ys) + agree (without x xs) (without x ys)
unfolding agree
agree_peel = shares_peel min (λ b. omega arith)

pub left_peel : (xs ys : List ℕ) (x : ℕ) → left xs ys ≡ (count x xs - count x ys) + left (without x xs) (without x ys)
unfolding left
left_peel = shares_peel ◌-◌ (λ b. omega arith)

pub agree_both : (x : ℕ) (xs ys : List ℕ) → agree (x ∷ xs) (x ∷ ys) ≡ suc (agree xs ys)
agree_both x xs ys =
    rw (agree_peel (x ∷ xs) (x ∷ ys) x, agree_peel xs ys x, count_here x xs, count_here x ys, without_here x xs, without_here x ys) (omega arith)

pub agree-only-left : (x : ℕ) (xs ys : List ℕ) → count x ys ≡ 0 → agree (x ∷ xs) ys ≡ agree xs ys
agree-only-left x xs ys e = rw (agree_peel (x ∷ xs) ys x, agree_peel xs ys x, without_here x xs) (omega arith)

pub agree-only_right : (y : ℕ) (xs ys : List ℕ) → count y xs ≡ 0 → agree xs (y ∷ ys) ≡ agree xs ys
agree-only_right y xs ys e = rw (agree_peel xs (y ∷ ys) y, agree_peel xs ys y, without_here y ys) (omega arith)

pub agree_nil_left : (ys : List ℕ) → agree [] ys ≡ 0
unfolding agree
agree_nil_left = shares_nil min (λ b. omega arith)

pub left_nil_left : (ys : List ℕ) → left [] ys ≡ 0
unfolding left
left_nil_left = shares_nil ◌-◌ (λ b. omega arith)

pub agree_counts : (xs xs' ys ys' : List ℕ) → ((x : ℕ) → count x xs ≡ count x xs') → ((x : ℕ) → count x ys ≡ count x ys') → agree xs ys ≡ agree xs' ys'
unfolding agree
agree_counts xs xs' ys ys' e f = shares_same min (λ b. omega arith) xs ys xs' ys' (λ x. ap₂ min (e x) (f x))

pub left_counts : (xs xs' ys ys' : List ℕ) → ((x : ℕ) → count x xs - count x ys ≡ count x xs' - count x ys') → left xs ys ≡ left xs' ys'
unfolding left
left_counts xs xs' ys ys' = shares_same ◌-◌ (λ b. omega arith) xs ys xs' ys'

pub agree-exchange : (xs ys : List ℕ) → agree xs ys ≡ agree ys xs
unfolding agree
agree-exchange xs ys = shares_same min (λ b. omega arith) xs ys ys xs (λ x. min_comm (count x xs) (count x ys))

pub agree_nil_right : (xs : List ℕ) → agree xs [] ≡ 0
agree_nil_right xs = agree-exchange xs [] ∙ agree_nil_left xs

pub agree-sorted : (xs ys : List ℕ) → agree (sort_by (λ n. n) xs) (sort_by (λ n. n) ys) ≡ agree xs ys
agree-sorted xs ys =
    agree_counts (sort_by (λ n. n) xs) xs (sort_by (λ n. n) ys) ys (λ x. count-sort_by (λ n. n) x xs) (λ x. count-sort_by (λ n. n) x ys)

pub agree-left-total : (xs ys : List ℕ) → agree xs ys + left xs ys ≡ length xs
agree-left-total =
    peeling (λ xs. (ys : List ℕ) → agree xs ys + left xs ys ≡ length xs)
    (λ ys. rw (agree_nil_left ys, left_nil_left ys))
    (λ x xs before ys.
    rw (agree_peel (x ∷ xs) ys x, left_peel (x ∷ xs) ys x, count_here x xs, without_here x xs)
    (omega (arith, before (without x ys), length_without x xs)))

pub left_nil_right : (xs : List ℕ) → left xs [] ≡ length xs
left_nil_right xs = omega (arith, agree-left-total xs [], agree_nil_right xs)
