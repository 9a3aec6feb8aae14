-- A step of the search on the memory that stands for its state: what `test` leaves, case by case.
--   test_full       every cell has been met before
--   test_outside    the grant doesn't pass the test
--   test_later      a hit that is not the first
--   test_first      the first hit
-- Assumes nothing.
use Prim.Native.Nat.{ℕ, zero, suc, ◌+◌, ◌<◌, ◌≤◌}
use mathlib.Core.Path.{◌≡◌, refl, ◌∙◌}
use mathlib.Core.Bool.{Bool, true, false}
use Rattle.std.proofs.Common.{Ok, Err}
use mathlib.Core.List.{List, [], ◌∷◌}
use native.Mathlib.Numerals.{add-one}
use native.Mathlib.Omega.{arith}
use lib.ListN.{length, take, set, length-set}
use lib.Seq.{take-suc-set}
use borrow.Author.Tests.{lt-ltb, le-ltb}
use Rattle.model.specs.declared.Grant.{Grant}
use Rattle.geometry.specs.Region.{Region}
use Rattle.model.specs.Limits.{max_grants}
use Rattle.pool.specs.Cell.{grant_at}
use Rattle.adt.specs.declared.search.Counters.{Counters}
use Rattle.adt.specs.Search.{Spot, Search, first_spot, meet}
use Rattle.adt.specs.SearchMemory.{so_far, Counted, Encodes}

take-some : (f : ℕ) (h : List ℕ) → 0 < f → 0 < length h → (x : ℕ) × (xs : List ℕ) × (take f h ≡ x ∷ xs)
take-some zero h p n = absurd (omega arith)
take-some (suc f) [] p n = absurd (omega arith)
take-some (suc f) (x ∷ xs) p n = (x, take f xs, refl)

later_spot : (f : ℕ) (h : List ℕ) (before here : Spot) → 0 < f → 0 < length h → first_spot (take f h) before here ≡ before
later_spot f h before here p n = let t = take-some f h p n in rw t.2

module _ (w : List ℕ) (c : ℕ) (q : Region) (passes : Grant → Bool) (here : Spot) (k : ℕ) (h : List ℕ) (few : c ≤ max_grants) (t : Counters) (n : Counted c h t) where
  -- the state of the search once the cell k is met
  abbrev after : Search
  after = meet w c q passes here k (so_far h t)

  pub test_full : c ≤ t.met → Encodes c (Err (record {})) h t after
  unfolding meet
  test_full full = record { counted = n; state = rw (le-ltb t.met c full) }

  module _ (lt : t.met < c) where
    pub test_outside : passes (grant_at w k) ≡ false → Encodes c (Ok tt) h (record t { met = t.met + 1 }) after
    unfolding meet
    test_outside out =
        record {
          counted = record { hit_room = n.hit_room; found-met = omega (arith, n.found-met); met-cells = omega arith };
          state = rw (lt-ltb t.met c lt, out, add-one t.met);
        }

    module _ (hit : passes (grant_at w k) ≡ true) where
      hit_counted : (level link : ℕ) → Counted c (set h t.found k) (record { met = t.met + 1; found = t.found + 1; level = level; link = link })
      hit_counted level link =
          record {
            hit_room = length-set h t.found k ∙ n.hit_room;
            found-met = omega (arith, n.found-met);
            met-cells = omega arith;
          }

      pub test_later : 0 < t.found → Encodes c (Ok tt) (set h t.found k) (record t { met = t.met + 1; found = t.found + 1 }) after
      unfolding meet
      test_later pos =
          record {
            counted = hit_counted t.level t.link;
            state =
                rw (
                  lt-ltb t.met c lt,
                  hit,
                  later_spot t.found h (record { level = t.level; link = t.link }) here pos (omega (arith, n.hit_room)),
                  add-one t.met,
                  add-one t.found,
                  take-suc-set h t.found k (omega (arith, n.hit_room, n.found-met)),
                );
          }

      pub test_first : t.found ≡ 0
          → Encodes c (Ok tt) (set h t.found k) (record t { met = t.met + 1; found = t.found + 1; level = here.level; link = here.link }) after
      unfolding meet
      test_first z =
          record {
            counted = hit_counted here.level here.link;
            state = rw (z, lt-ltb t.met c lt, hit, add-one t.met, take-suc-set h 0 k (omega (arith, n.hit_room)));
          }
