-- Laws of the entries of a record that are left (specs/Left).
--   is_left_entry             the test of a place, by the entry that stands there
--   left_from-at, left_from-none     the next one that is left stands at a place of the record, or there is none
--   left_from_is, left_from-ends     what an answer says of the places that were passed over
-- Assumes nothing.
use Prim.Native.Nat.{ℕ, ◌+◌, ◌-◌, ◌<◌, ◌≤◌}
use mathlib.Core.Path.{◌≡◌, sym, ap, ◌∙◌}
use mathlib.Core.Bool.{Bool, false}
use mathlib.Core.List.{List}
use native.Mathlib.Omega.{arith}
use native.Mathlib.Decide.{dec_lt}
use lib.Dec.{leb}
use lib.ListN.{take}
use lib.Seq.{take_all}
use borrow.Author.Tests.{lt-ltb, le-ltb}
use Rattle.std.proofs.Common.{Some, None}
use Rattle.std.proofs.lemmas.Option.{none-some, same_Some}
use Rattle.multisets.specs.Multiplicity.{count}
use Rattle.multisets.specs.Agreement.{is_left}
use Rattle.multisets.proofs.LeftPlacesLaws.{is_left_of}
use Rattle.openings.specs.declared.Opening.{Opening}
use Rattle.openings.specs.declared.LeftEntry.{LeftEntry}
use Rattle.openings.specs.Entry.{entries_in, entry_at, entries_of, opening_of}
use Rattle.openings.specs.Left.{next_left, left_at, left_from, FirstLeft}
use Rattle.openings.proofs.FirstLaws.{first-least, first_passes, first_before}
use Rattle.openings.proofs.EntryLaws.{length-entries, get_d_entries}

module _ (r s : List ℕ) where
  pub is_left_entry : (i : ℕ) → i < entries_in r
      → leb (count (entry_at r i) (take (entries_in s) (entries_of s))) (count (entry_at r i) (take i (entries_of r))) ≡ is_left (entries_of r) (entries_of s) i
  is_left_entry i h =
      rw (take_all (entries_in s) (entries_of s) (omega (arith, length-entries s)))
      (sym (is_left_of (entries_of r) (entries_of s) (entry_at r i) i (sym (get_d_entries r i h))))

  module _ (k : ℕ) where
    pub left_from-none : entries_in r ≤ next_left r s k → None ≡ left_from r s k
    unfolding left_from
    left_from-none h = rw (le-ltb (next_left r s k) (entries_in r) h)

    pub left_from-at : next_left r s k < entries_in r → Some (left_at r (next_left r s k)) ≡ left_from r s k
    unfolding left_from
    left_from-at h = rw (lt-ltb (next_left r s k) (entries_in r) h)

    pub left_from_is : (n : ℕ) (o : Opening) → left_from r s k ≡ Some (record { number = n; opening = o }) → FirstLeft r s k n o
    left_from_is n o e = go (dec_lt (next_left r s k) (entries_in r))
      where
        test : ℕ → Bool
        test = is_left (entries_of r) (entries_of s)

        go : Dec (next_left r s k < entries_in r) → FirstLeft r s k n o
        go (yes h) =
            let at = same_Some _ _ (left_from-at h ∙ e) in
            let number : next_left r s k + 1 ≡ n = ap (λ (l : LeftEntry). l.number) at in
            let place : next_left r s k ≡ n - 1 = omega arith in
            let opening : opening_of (entry_at r (next_left r s k)) ≡ o = ap (λ (l : LeftEntry). l.opening) at in
            let least = first-least test k (entries_in r - k) in
            record {
              behind = omega arith;
              inside = omega arith;
              opening = sym opening ∙ ap (λ (j : ℕ). opening_of (entry_at r j)) place;
              is-left = ap test (sym place) ∙ first_passes test k (entries_in r - k) (omega arith);
              none_before = λ j l m. first_before test k (entries_in r - k) j l (omega arith);
            }
        go (no m) = absurd (none-some _ (left_from-none (omega arith) ∙ e))

    pub left_from-ends : left_from r s k ≡ None → (j : ℕ) → k ≤ j → j < entries_in r → is_left (entries_of r) (entries_of s) j ≡ false
    left_from-ends e j l m = go (dec_lt (next_left r s k) (entries_in r))
      where
        go : Dec (next_left r s k < entries_in r) → is_left (entries_of r) (entries_of s) j ≡ false
        go (yes h) = absurd (none-some _ (sym e ∙ sym (left_from-at h)))
        go (no n) = first_before (is_left (entries_of r) (entries_of s)) k (entries_in r - k) j l (omega arith)
