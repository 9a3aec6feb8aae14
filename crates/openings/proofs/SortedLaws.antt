-- Laws of the places of a record in the order of their entries (specs/Sorted).
--   length-sorted_places, sorted_places-inside    as many as the record has entries, and each is one of them
--   sorted_places-room                           what the sort leaves, in memory for as many
--   to_go r i s j                                how many agree of the entries from i on in the one order, and from j on in the other
--   agreeing_starts, agreeing_turn              all, and after a turn of the comparison
--   agreeing_few                                no more agree than a record has entries
--   agreeing_ends-left, agreeing_ends_right     none where either record is used up
-- Assumes nothing.
use Prim.Native.Nat.{ℕ, ◌+◌, ◌<◌, ◌≤◌}
use mathlib.Core.Path.{◌≡◌, sym, ap, ◌∙◌}
use mathlib.Core.Bool.{cond}
use mathlib.Core.List.{List}
use native.Mathlib.Omega.{arith}
use lib.Dec.{eqb, leb}
use lib.ListN.{length, get_or, drop}
use Rattle.lists.specs.Sort.{sort_by}
use Rattle.lists.specs.Ranges.{count_from}
use Rattle.lists.proofs.ElementLaws.{get_d_map, mem_get_d}
use Rattle.lists.proofs.ListLaws.{count_from_mem}
use Rattle.lists.proofs.RangeLaws.{length-count_from}
use Rattle.lists.proofs.SortLaws.{length-sort_by, sort_by_mem, sort_by_ascends, map-sort_by}
use Rattle.multisets.specs.Agreement.{agree}
use Rattle.multisets.proofs.AgreementLaws.{agree-sorted, agree-left-total}
use Rattle.multisets.proofs.MergeLaws.{merge_turn, merge_ends-left, merge_ends_right}
use Rattle.openings.specs.Entry.{entries_in, entry_at, entries_of}
use Rattle.openings.specs.Sorted.{sorted_places}
use Rattle.openings.proofs.EntryLaws.{length-entries}

abbrev sorted : List ℕ → List ℕ
sorted r = sort_by (λ n. n) (entries_of r)

abbrev pub to_go : List ℕ → ℕ → List ℕ → ℕ → ℕ
to_go r i s j = agree (drop i (sort_by (λ n. n) (entries_of r))) (drop j (sort_by (λ n. n) (entries_of s)))

length-sorted : (r : List ℕ) → length (sorted r) ≡ entries_in r
length-sorted r = length-sort_by (λ n. n) (entries_of r) ∙ length-entries r

module _ (r : List ℕ) where
  pub length-sorted_places : length (sorted_places r) ≡ entries_in r
  unfolding sorted_places
  length-sorted_places = length-sort_by (entry_at r) (count_from 0 (entries_in r)) ∙ length-count_from 0 (entries_in r)

  pub sorted_places-inside : (i : ℕ) → i < length (sorted_places r) → get_or (sorted_places r) i 0 < entries_in r
  unfolding sorted_places
  sorted_places-inside i h =
      let place = sort_by_mem (entry_at r) (count_from 0 (entries_in r)) (mem_get_d (sorted_places r) i 0 h) in
      omega (arith, (count_from_mem 0 (entries_in r) (get_or (sorted_places r) i 0) place).1)

  -- an entry by its place among them
  sorted-at : (i : ℕ) → i < length (sorted_places r) → get_or (sorted r) i 0 ≡ entry_at r (get_or (sorted_places r) i 0)
  unfolding sorted_places entries_of
  sorted-at i h =
      ap (λ (l : List ℕ). get_or l i 0) (sym (map-sort_by (entry_at r) (count_from 0 (entries_in r))))
      ∙ get_d_map (entry_at r) (sorted_places r) i 0 0 h

-- the places as the sort leaves them
pub sorted_places-room : (r places sorted : List ℕ) → length places ≡ entries_in r
    → sorted ≡ sort_by (entry_at r) (count_from 0 (length places)) → sorted ≡ sorted_places r
unfolding sorted_places
sorted_places-room r places sorted room e = e ∙ ap (λ (n : ℕ). sort_by (entry_at r) (count_from 0 n)) room

pub agreeing_starts : (r s : List ℕ) → to_go r 0 s 0 ≡ agree (entries_of r) (entries_of s)
agreeing_starts r s = agree-sorted (entries_of r) (entries_of s)

pub agreeing_turn : (r s : List ℕ) (i j : ℕ) → i < length (sorted_places r) → j < length (sorted_places s)
    → let x = entry_at r (get_or (sorted_places r) i 0) in let y = entry_at s (get_or (sorted_places s) j 0) in
    cond (eqb x y) 1 0 + to_go r (i + cond (leb x y) 1 0) s (j + cond (leb y x) 1 0) ≡ to_go r i s j
agreeing_turn r s i j h l =
    rw (← sorted-at r i h, ← sorted-at s j l)
    (merge_turn (sorted r) (sorted s) (sort_by_ascends (λ n. n) (entries_of r)) (sort_by_ascends (λ n. n) (entries_of s)) i j
    (omega (arith, length-sorted r, length-sorted_places r)) (omega (arith, length-sorted s, length-sorted_places s)))

-- the same of what the code has counted, with the results of its tests
pub agreeing_again : (r s : List ℕ) (i j n m x y e a b : ℕ) → i < length (sorted_places r) → j < length (sorted_places s)
    → x ≡ entry_at r (get_or (sorted_places r) i 0) → y ≡ entry_at s (get_or (sorted_places s) j 0)
    → e ≡ cond (eqb x y) 1 0 → a ≡ cond (leb x y) 1 0 → b ≡ cond (leb y x) 1 0
    → n + to_go r i s j ≡ m → (n + e) + to_go r (i + a) s (j + b) ≡ m
agreeing_again r s i j n m x y e a b h l at_x at_y is-e is-a is_b so_far =
    rw (is-e, is-a, is_b, at_x, at_y) (omega (arith, agreeing_turn r s i j h l))

pub agreeing_few : (r s : List ℕ) → agree (entries_of r) (entries_of s) ≤ length (sorted_places r)
agreeing_few r s = omega (arith, agree-left-total (entries_of r) (entries_of s), length-entries r, length-sorted_places r)

pub agreeing_ends-left : (r s : List ℕ) (i j : ℕ) → length (sorted_places r) ≤ i → to_go r i s j ≡ 0
agreeing_ends-left r s i j h = merge_ends-left (sorted r) (drop j (sorted s)) i (omega (arith, length-sorted r, length-sorted_places r))

pub agreeing_ends_right : (r s : List ℕ) (i j : ℕ) → length (sorted_places s) ≤ j → to_go r i s j ≡ 0
agreeing_ends_right r s i j h = merge_ends_right (drop i (sorted r)) (sorted s) j (omega (arith, length-sorted s, length-sorted_places s))
