-- The numbers that two lists have in common, as a list.
--   Agreed xs ys es    in es each number stands the smaller of its times in xs and in ys, and es is as long as as many agree
--   agreed             there is such a list
-- Assumes nothing.
use Prim.Native.Nat.{ℕ, zero, suc, min}
use mathlib.Core.Path.{◌≡◌, sym}
use mathlib.Core.Logic.{◌≢◌}
use mathlib.Core.List.{List, [], ◌∷◌, ◌++◌}
use native.Mathlib.Omega.{arith}
use native.Mathlib.Decide.{ℕ_discrete}
use lib.ListN.{length, replicate, length-append, length-replicate}
use Rattle.multisets.specs.Multiplicity.{count, without}
use Rattle.multisets.specs.Agreement.{agree}
use Rattle.multisets.proofs.MultiplicityLaws.{count_nil, count_here, count_other, count-append, count-without-same, count-without_other}
use Rattle.multisets.proofs.MultiplicityLaws.{without_here, peeling}
use Rattle.multisets.proofs.AgreementLaws.{agree_peel, agree_nil_left}

pub record Agreed (xs ys es : List ℕ) : Type 0 where
  pub times : (e : ℕ) → count e es ≡ min (count e xs) (count e ys)
  pub size : length es ≡ agree xs ys

count_repeat : (x n : ℕ) → count x (replicate n x) ≡ n
count_repeat x zero = count_nil x
count_repeat x (suc n) = rw (count_here x (replicate n x), count_repeat x n)

count_repeat_other : (z x n : ℕ) → z ≢ x → count z (replicate n x) ≡ 0
count_repeat_other z x zero h = count_nil z
count_repeat_other z x (suc n) h = rw (count_other z x (replicate n x) h) (count_repeat_other z x n h)

module _ (x : ℕ) (xs ys es : List ℕ) (found : Agreed (without x xs) (without x ys) es) where
  abbrev both : ℕ
  both = min (count x (x ∷ xs)) (count x ys)

  more_times : (e : ℕ) → Dec (e ≡ x) → count e (replicate both x ++ es) ≡ min (count e (x ∷ xs)) (count e ys)
  more_times e (yes q) =
      rw (q, count-append x (replicate both x) es, count_repeat x both, found.times x, count-without-same x xs, count-without-same x ys) (omega arith)
  more_times e (no n) =
      rw (
        count-append e (replicate both x) es,
        count_repeat_other e x both n,
        found.times e,
        count-without_other e x xs n,
        count-without_other e x ys n,
        count_other e x xs n,
      )
      (omega arith)

  agreed_more : Agreed (x ∷ xs) ys (replicate both x ++ es)
  agreed_more =
      record {
        times = λ e. more_times e (ℕ_discrete e x);
        size =
            rw (length-append (replicate both x) es, length-replicate both x, found.size, agree_peel (x ∷ xs) ys x, without_here x xs);
      }

pub agreed : (xs ys : List ℕ) → (es : List ℕ) × Agreed xs ys es
agreed =
    peeling (λ xs. (ys : List ℕ) → (es : List ℕ) × Agreed xs ys es)
    (λ ys. ([], record { times = λ e. rw (count_nil e) (omega arith); size = sym (agree_nil_left ys) }))
    (λ x xs before ys. let found = before (without x ys) in (_, agreed_more x xs ys found.0 found.1))
