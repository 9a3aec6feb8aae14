-- Which numbers a run of specs/Ranges has.
--   mem_count_from, count_from_mem     those from its first on, as many as asked for
--   distinct-count_from               each once
-- Assumes nothing.
use Prim.Native.Nat.{ℕ, zero, suc, ◌+◌, ◌<◌, ◌≤◌}
use mathlib.Core.Path.{◌≡◌}
use mathlib.Core.List.Memᴰ
use mathlib.Core.List.{Memᴰ}
use native.Mathlib.Omega.{arith}
use native.Mathlib.Decide.{ℕ_discrete}
use Rattle.lists.specs.Ranges.{count_from}
use Rattle.lists.proofs.DistinctLaws.{Distinct, distinct_none, distinct_more}

pub mem_count_from : (k n j : ℕ) → k ≤ j → j < k + n → Memᴰ j (count_from k n)
unfolding count_from
mem_count_from k zero j h l = absurd (omega arith)
mem_count_from k (suc n) j h l = go (mem_count_from (suc k) n j) (ℕ_discrete j k)
  where
    go : (suc k ≤ j → j < suc k + n → Memᴰ j (count_from (suc k) n)) → Dec (j ≡ k) → Memᴰ j (count_from k (suc n))
    go f (yes e) = Memᴰ.head e
    go f (no d) = Memᴰ.tail (f (omega arith) (omega arith))

pub count_from_mem : (k n j : ℕ) → Memᴰ j (count_from k n) → (k ≤ j) × (j < k + n)
unfolding count_from
count_from_mem k zero j m = absurd (Memᴰ.not-nil m)
count_from_mem k (suc n) j (Memᴰ.head e) = (omega arith, omega arith)
count_from_mem k (suc n) j (Memᴰ.tail m) = let r = count_from_mem (suc k) n j m in (omega arith, omega arith)

pub distinct-count_from : (k n : ℕ) → Distinct (count_from k n)
unfolding count_from
distinct-count_from k zero = distinct_none
distinct-count_from k (suc n) = distinct_more (λ m. let r = count_from_mem (suc k) n k m in omega arith) (distinct-count_from (suc k) n)
