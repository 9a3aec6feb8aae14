-- The capacity that a program goes by, test by test.
--   length_short, length_many, length_odd, length_right    of the length alone
--   length_some                                            a capacity is that of specs/Capacity
--   length_header                                          a pool that has one has a header
--   pool_none, pool_other, pool_right                      of the length and the first word
-- Assumes nothing.
use Rattle.std.proofs.Common.{None, Some}
use Rattle.std.proofs.lemmas.Option.{none-some, same_Some}
use Prim.Native.Nat.{ℕ, ◌-◌, ◌/◌, ◌<◌, ◌≤◌}
use mathlib.Core.Path.{◌≡◌, refl, sym, ◌∙◌}
use mathlib.Core.Bool.{Bool, true, false, cond}
use mathlib.Core.List.{List}
use native.Mathlib.Omega.{arith}
use lib.ListN.{length, get_or}
use borrow.Author.Tests.{le-leb, lt-leb, eq-eqb, ne_eqb}
use Rattle.model.specs.Limits.{max_grants}
use Rattle.pool.specs.Layout.{capacity_place, header_words, cell_words}
use Rattle.pool.specs.Capacity.{pool_length, capacity_of, wrong_length, wrong_pool, length_capacity, pool_capacity}
use Rattle.pool.proofs.CapacityLaws.{wrong_length_iff}

module _ (w : List ℕ) where
  abbrev cells : ℕ
  cells = (length w - header_words) / cell_words

  pub length_short : length w < pool_length 1 → None ≡ length_capacity w
  unfolding wrong_length capacity_of
  length_short h = rw (lt-leb 1 cells (omega arith))

  pub length_many : max_grants < cells → None ≡ length_capacity w
  unfolding wrong_length capacity_of
  length_many m = rw (le-leb 1 cells (omega arith), lt-leb cells max_grants m)

  pub length_odd : pool_length 1 ≤ length w → cells ≤ max_grants → ¬ (length w ≡ pool_length cells) → None ≡ length_capacity w
  unfolding wrong_length capacity_of
  length_odd h m n = rw (le-leb 1 cells (omega arith), le-leb cells max_grants m, ne_eqb (length w) (pool_length cells) n)

  pub length_right : pool_length 1 ≤ length w → cells ≤ max_grants → length w ≡ pool_length cells → Some cells ≡ length_capacity w
  unfolding wrong_length capacity_of
  length_right h m e = rw (le-leb 1 cells (omega arith), le-leb cells max_grants m, eq-eqb (length w) (pool_length cells) e)

  -- which of the two a capacity is
  right_some : (b : Bool) {c : ℕ} → Some c ≡ cond b None (Some (capacity_of w)) → (b ≡ false) × (capacity_of w ≡ c)
  right_some true {c} e = absurd (none-some c (sym e))
  right_some false e = (refl, sym (same_Some _ _ e))

  pub length_some : {c : ℕ} → Some c ≡ length_capacity w → (wrong_length w ≡ false) × (capacity_of w ≡ c)
  length_some e = right_some (wrong_length w) e

  pub length_header : {c : ℕ} → Some c ≡ length_capacity w → header_words < length w
  length_header e = let s = (wrong_length_iff w).0 (length_some e).0 in omega (arith, s.1.some, s.1.long)

  pub pool_none : None ≡ length_capacity w → None ≡ pool_capacity w
  unfolding wrong_pool
  pool_none e = go (wrong_length w) refl
    where
      length_of : wrong_length w ≡ false → length_capacity w ≡ Some (capacity_of w)
      length_of f = rw f refl

      go : (b : Bool) → wrong_length w ≡ b → None ≡ pool_capacity w
      go true f = rw f
      go false f = absurd (none-some (capacity_of w) (e ∙ length_of f))

  module _ {c first : ℕ} (e : Some c ≡ length_capacity w) (f : first ≡ get_or w capacity_place 0) where
    pub pool_other : ¬ (first ≡ c) → None ≡ pool_capacity w
    unfolding wrong_pool
    pool_other d = let r = length_some e in rw (r.0, r.1, ← f, ne_eqb first c d)

    pub pool_right : first ≡ c → Some c ≡ pool_capacity w
    unfolding wrong_pool
    pool_right d = let r = length_some e in rw (r.0, r.1, ← f, eq-eqb first c d)
