-- Laws of the runs of specs/Ranges.
--   length-count_from     as many as asked for
--   get_d_count_from       each is one more than the last
-- Assumes nothing.
use Prim.Native.Nat.{ℕ, zero, suc, ◌+◌, ◌<◌}
use mathlib.Core.Path.{◌≡◌, refl, ap, ◌∙◌}
use native.Mathlib.Omega.{arith}
use lib.ListN.{length, get_or}
use Rattle.lists.specs.Ranges.{count_from}

pub length-count_from : (k n : ℕ) → length (count_from k n) ≡ n
unfolding count_from
length-count_from k zero = refl
length-count_from k (suc n) = ap suc (length-count_from (suc k) n)

pub get_d_count_from : (k n i d : ℕ) → i < n → get_or (count_from k n) i d ≡ k + i
unfolding count_from
get_d_count_from k zero i d h = absurd (omega arith)
get_d_count_from k (suc n) zero d h = omega arith
get_d_count_from k (suc n) (suc i) d h = get_d_count_from (suc k) n i d (omega arith) ∙ omega arith
