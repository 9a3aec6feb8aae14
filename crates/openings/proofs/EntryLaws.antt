-- Laws of a record's entries (specs/Entry).
--   length-entries      there are as many as the record has whole entries
--   get_d_entries        each at its place
--   count_turn          how often an entry stands among the first ones and one more
--   from_bool_cond, from_bool_le     a test as a number is 1 where it holds, else 0
-- Assumes nothing.
use Prim.Native.Nat.{ℕ, ◌+◌, ◌<◌, ◌≤◌}
use mathlib.Core.Path.{◌≡◌, refl, sym, ap, ◌∙◌}
use mathlib.Core.Bool.{Bool, true, false, cond}
use mathlib.Core.List.{List, [], ◌∷◌}
use native.Mathlib.Nat.{zero-add}
use native.Mathlib.Numerals.{add-one}
use native.Mathlib.Omega.{arith}
use native.Mathlib.Decide.{ℕ_discrete}
use lib.Dec.{eqb}
use lib.ListN.{length, get_or, take, length-map}
use lib.Seq.{take-suc}
use borrow.Author.Tests.{eq-eqb, ne_eqb}
use Rattle.std.specs.Int.{from_bool}
use Rattle.lists.specs.Ranges.{count_from}
use Rattle.lists.proofs.ElementLaws.{get_d_map}
use Rattle.lists.proofs.RangeLaws.{length-count_from, get_d_count_from}
use Rattle.multisets.specs.Multiplicity.{count}
use Rattle.multisets.proofs.MultiplicityLaws.{count_nil, count_here, count_other, count-append}
use Rattle.openings.specs.Entry.{entries_in, entry_at, entries_of}

pub length-entries : (r : List ℕ) → length (entries_of r) ≡ entries_in r
unfolding entries_of
length-entries r = length-map (count_from 0 (entries_in r)) (entry_at r) ∙ length-count_from 0 (entries_in r)

module _ (r : List ℕ) (i : ℕ) (h : i < entries_in r) where
  pub get_d_entries : get_or (entries_of r) i 0 ≡ entry_at r i
  unfolding entries_of
  get_d_entries =
      get_d_map (entry_at r) (count_from 0 (entries_in r)) i 0 0 (omega (arith, length-count_from 0 (entries_in r)))
      ∙ ap (entry_at r) (get_d_count_from 0 (entries_in r) i 0 h ∙ zero-add i)

  pub count_turn : (e : ℕ) → count e (take (i + 1) (entries_of r)) ≡ count e (take i (entries_of r)) + cond (eqb (entry_at r i) e) 1 0
  count_turn e =
      rw (
        add-one i,
        take-suc (entries_of r) i 0 (omega (arith, length-entries r)),
        count-append e (take i (entries_of r)) (get_or (entries_of r) i 0 ∷ []),
        get_d_entries,
      )
      (ap (λ (n : ℕ). count e (take i (entries_of r)) + n) (go (ℕ_discrete e (entry_at r i))))
    where
      go : Dec (e ≡ entry_at r i) → count e (entry_at r i ∷ []) ≡ cond (eqb (entry_at r i) e) 1 0
      go (yes q) = rw (← q, eq-eqb e e refl, count_here e [], count_nil e)
      go (no n) = rw (ne_eqb (entry_at r i) e (λ q. n (sym q)), count_other e (entry_at r i) [] n, count_nil e)

-- a test as a number
pub from_bool_cond : (b : Bool) → from_bool b ≡ cond b 1 0
from_bool_cond true = refl
from_bool_cond false = refl

pub from_bool_le : (b : Bool) → from_bool b ≤ 1
from_bool_le true = omega arith
from_bool_le false = omega arith
