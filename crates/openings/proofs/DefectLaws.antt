-- Laws of what is wrong in a record (specs/Defects).
--   first_fall-least              the first place at which a quarter falls is no record's first
--   order_sound, order_falls      nothing is wrong in the order, or it is at that place
--   size-not_whole, size-too_many, size-sound   what is wrong in the size, by the tests that find it
--   defect-size, defect-order     what is wrong is what is wrong in the size, or else in the order
--   told_size, told_order         whether something is wrong in the size, in the order, says whether the record has 24's cause, 25's cause
--   wrong_size-sized              without 24's cause the bytes are whole entries, and not too many
-- Assumes nothing.
use Prim.Native.Nat.{ℕ, ◌+◌, ◌-◌, ◌%◌, ◌<◌, ◌≤◌}
use mathlib.Core.Path.{◌≡◌, refl, sym, ap, ◌∙◌}
use mathlib.Core.Bool.{Bool, true, false, cond, ◌||◌}
use mathlib.Core.List.{List}
use native.Mathlib.Omega.{arith}
use native.Mathlib.Decide.{dec_le}
use lib.Dec.{eqb, ltb}
use lib.ListN.{length}
use borrow.Author.Tests.{lt-ltb, le-ltb, ltb-false, eqb-true, eq-eqb, ne_eqb, not-false}
use Rattle.std.proofs.Common.{Result, Ok, Err}
use Rattle.std.specs.Bool.{⊤}
use Rattle.std.specs.Result.{is_err}
use Rattle.lists.proofs.OrLaws.{or_false_iff}
use Rattle.openings.specs.declared.RecordDefect.{RecordDefect}
use Rattle.openings.specs.declared.RecordDefect.TheVariants.{NotWhole, TooMany, Unordered}
use Rattle.openings.specs.Entry.{entry_bytes, max_entries, entry_quarter, entries_in, entry_at}
use Rattle.openings.specs.Record.{not_whole, too_many, wrong_size, falls_at, unordered}
use Rattle.openings.specs.Defects.{first_fall, size_defect, order_defect, openings_defect}
use Rattle.openings.specs.Sorted.{SizedRecord}
use Rattle.openings.proofs.FirstLaws.{first-least, first_any}

abbrev wrong : RecordDefect → Result ⊤ RecordDefect
wrong d = Err d

abbrev sound : Result ⊤ RecordDefect
sound = Ok tt

module _ (r : List ℕ) where
  pub first_fall-least : 1 ≤ first_fall r
  first_fall-least = first-least (falls_at r) 1 (entries_in r - 1)

  pub order_sound : (i : ℕ) → entries_in r ≤ i → Ok tt ≡ order_defect r i
  order_sound i h = rw (le-ltb i (entries_in r) h)

  pub order_falls : (i : ℕ) → i < entries_in r → Err (Unordered (i + 1) (entry_quarter (entry_at r (i - 1))) (entry_quarter (entry_at r i))) ≡ order_defect r i
  order_falls i h = rw (lt-ltb i (entries_in r) h)

  pub size-not_whole : (length r % entry_bytes ≡ 0 → ⊥) → Err (NotWhole (length r)) ≡ size_defect r
  unfolding size_defect
  size-not_whole n = rw (ne_eqb (length r % entry_bytes) 0 n)

  pub size-too_many : length r % entry_bytes ≡ 0 → max_entries < entries_in r → Err (TooMany (entries_in r)) ≡ size_defect r
  unfolding size_defect
  size-too_many e h = rw (eq-eqb (length r % entry_bytes) 0 e, lt-ltb max_entries (entries_in r) h)

  pub size-sound : length r % entry_bytes ≡ 0 → entries_in r ≤ max_entries → Ok tt ≡ size_defect r
  unfolding size_defect
  size-sound e h = rw (eq-eqb (length r % entry_bytes) 0 e, le-ltb max_entries (entries_in r) h)

  pub defect-size : (d : RecordDefect) → size_defect r ≡ Err d → Err d ≡ openings_defect r
  unfolding size_defect openings_defect
  defect-size d = go (not_whole r) (too_many r) _ _ _
    where
      go : (a b : Bool) (n m : ℕ) (o : Result ⊤ RecordDefect) → cond a (wrong (NotWhole n)) (cond b (wrong (TooMany m)) sound) ≡ Err d
          → Err d ≡ cond a (wrong (NotWhole n)) (cond b (wrong (TooMany m)) o)
      go true b n m o e = sym e
      go false true n m o e = sym e
      go false false n m o e = absurd cc

  pub defect-order : size_defect r ≡ Ok tt → order_defect r (first_fall r) ≡ openings_defect r
  unfolding size_defect openings_defect
  defect-order = go (not_whole r) (too_many r) _ _ _
    where
      go : (a b : Bool) (n m : ℕ) (o : Result ⊤ RecordDefect) → cond a (wrong (NotWhole n)) (cond b (wrong (TooMany m)) sound) ≡ Ok tt
          → o ≡ cond a (wrong (NotWhole n)) (cond b (wrong (TooMany m)) o)
      go true b n m o e = absurd cc
      go false true n m o e = absurd cc
      go false false n m o e = refl

  size-told : is_err (size_defect r) ≡ wrong_size r
  unfolding size_defect wrong_size
  size-told = go (not_whole r) (too_many r) _ _
    where
      go : (a b : Bool) (n m : ℕ) → is_err (cond a (wrong (NotWhole n)) (cond b (wrong (TooMany m)) sound)) ≡ (a || b)
      go true b n m = refl
      go false true n m = refl
      go false false n m = refl

  -- 25's cause by the first place
  unordered-first : unordered r ≡ ltb (first_fall r) (entries_in r)
  unfolding unordered
  unordered-first = first_any (falls_at r) 1 (entries_in r - 1) ∙ go (dec_le 1 (entries_in r))
    where
      go : Dec (1 ≤ entries_in r) → ltb (first_fall r) (1 + (entries_in r - 1)) ≡ ltb (first_fall r) (entries_in r)
      go (yes h) = let all : 1 + (entries_in r - 1) ≡ entries_in r = omega arith in rw all
      go (no n) =
          le-ltb (first_fall r) (1 + (entries_in r - 1)) (omega (arith, first_fall-least))
          ∙ sym (le-ltb (first_fall r) (entries_in r) (omega (arith, first_fall-least)))

  order-told : is_err (order_defect r (first_fall r)) ≡ unordered r
  order-told = go (ltb (first_fall r) (entries_in r)) _ _ _ ∙ sym unordered-first
    where
      go : (c : Bool) (i k p : ℕ) → is_err (cond c (wrong (Unordered i k p)) sound) ≡ c
      go true i k p = refl
      go false i k p = refl

  -- by the results of the tests
  module _ {d : Result ⊤ RecordDefect} {b t : Bool} (told : b ≡ is_err d) (is-t : b ≡ t) where
    pub told_size : d ≡ size_defect r → wrong_size r ≡ t
    told_size is-d = sym size-told ∙ ap is_err (sym is-d) ∙ sym told ∙ is-t

    pub told_order : d ≡ order_defect r (first_fall r) → unordered r ≡ t
    told_order is-d = sym order-told ∙ ap is_err (sym is-d) ∙ sym told ∙ is-t

  pub wrong_size-sized : wrong_size r ≡ false → SizedRecord r
  unfolding wrong_size
  wrong_size-sized e =
      let right = (or_false_iff (not_whole r) (too_many r)).0 e in
      let whole : length r % entry_bytes ≡ 0 = eqb-true (length r % entry_bytes) 0 (not-false (eqb (length r % entry_bytes) 0) right.0) in
      record { whole = omega arith; few = ltb-false max_entries (entries_in r) right.1 }
