-- Laws of a pool's length and C.
--   Sized w c                w is as long as a pool of c cells, c from 1 to 2048
--   cell_in_pool              a cell from 1 to c is in a pool of c cells
--   capacity_of-pool_length    C of a list as long as a pool of c cells is c
--   wrong_length_iff          the length is right exactly where w is so sized; C is then c
--   wrong_pool_iff            the same with the first word
-- Assumes nothing.
use Prim.Native.Nat.{ℕ, ◌<◌, ◌≤◌}
use mathlib.Core.Logic.{◌↔◌}
use mathlib.Core.Path.{◌≡◌, refl, sym, ◌∙◌}
use mathlib.Core.Bool.{Bool, true, false, not, ◌&&◌, ◌||◌, and-eq-true_iff, true≢false}
use mathlib.Core.List.{List}
use native.Mathlib.Omega.{arith}
use lib.Dec.{leb, eqb}
use lib.ListN.{length, get_or}
use borrow.Author.Tests.{leb-true, eqb-true, le-leb, eq-eqb, not-false}
use Rattle.model.specs.Limits.{max_grants}
use Rattle.pool.specs.Layout.{capacity_place}
pub use Rattle.pool.specs.Capacity.{Sized}
use Rattle.pool.specs.Capacity.{pool_length, InPool, capacity_of, wrong_length, wrong_pool}

pub cell_in_pool : {w : List ℕ} {c k : ℕ} → Sized w c → 0 < k → k ≤ c → InPool w k
cell_in_pool s pos le = record { some = pos; few = omega (arith, s.few, le); long = omega (arith, s.long, le) }

pub capacity_of-pool_length : (w : List ℕ) (c : ℕ) → length w ≡ pool_length c → capacity_of w ≡ c
unfolding capacity_of
capacity_of-pool_length w c long = rw long (omega arith)

pub wrong_length_iff : (w : List ℕ) → (wrong_length w ≡ false) ↔ ((c : ℕ) × Sized w c)
unfolding wrong_length
wrong_length_iff w = (there, back)
  where
    c : ℕ
    c = capacity_of w

    there : not (leb 1 c && leb c max_grants && eqb (length w) (pool_length c)) ≡ false → (c : ℕ) × Sized w c
    there e =
        let h = (and-eq-true_iff (leb 1 c && leb c max_grants) (eqb (length w) (pool_length c))).0 (not-false _ e) in
        let i = (and-eq-true_iff (leb 1 c) (leb c max_grants)).0 h.0 in
        (c, record { some = leb-true 1 c i.0; few = leb-true c max_grants i.1; long = eqb-true _ _ h.1 })

    back : (d : ℕ) × Sized w d → not (leb 1 c && leb c max_grants && eqb (length w) (pool_length c)) ≡ false
    back s =
        let d = s.0 in
        let h = s.1 in
        rw (capacity_of-pool_length w d h.long, le-leb 1 d h.some, le-leb d max_grants h.few, eq-eqb (length w) (pool_length d) h.long) refl

pub wrong_pool_iff : (w : List ℕ) → (wrong_pool w ≡ false) ↔ ((c : ℕ) × Sized w c × (get_or w capacity_place 0 ≡ c))
unfolding wrong_pool
wrong_pool_iff w = (there (wrong_length w) refl, back)
  where
    first : Bool
    first = eqb (get_or w capacity_place 0) (capacity_of w)

    there : (b : Bool) → wrong_length w ≡ b → b || not first ≡ false → (c : ℕ) × Sized w c × (get_or w capacity_place 0 ≡ c)
    there true e f = absurd (true≢false f)
    there false e f =
        let s = (wrong_length_iff w).0 e in
        (s.0, s.1, eqb-true _ _ (not-false first f) ∙ capacity_of-pool_length w s.0 s.1.long)

    back : (c : ℕ) × Sized w c × (get_or w capacity_place 0 ≡ c) → wrong_length w || not first ≡ false
    back s = rw ((wrong_length_iff w).1 (s.0, s.1), eq-eqb _ _ (s.2 ∙ sym (capacity_of-pool_length w s.0 s.1.long))) refl
