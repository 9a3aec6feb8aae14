-- write on words that stand for a plain book: the file of the doors and of the live grants that touch them.
--   touching-found      the door search is whole, and hits those grants
--   length_needed_lem       the length that write answers is the file's
--   represents_writes   what write answers and leaves, where the lent bytes are enough
--   touching-set        the live grants that touch a door range are a file's set
-- Assumes nothing.
use Prim.Native.Nat.{ℕ, ◌*◌, ◌≤◌}
use mathlib.Core.Path.{◌≡◌, sym, ap, subst, ◌∙◌}
use mathlib.Core.Bool.{Bool, false}
use mathlib.Core.List.{List, [], ◌∷◌, Memᴰ}
use Rattle.std.proofs.Common.{None}
use native.Mathlib.Omega.{arith}
use lib.ListN.{length}
use borrow.Author.Tests.{le-ltb}
use Rattle.lists.specs.Tests.{filter}
use Rattle.lists.specs.Overwrite.{overwrite}
use Rattle.lists.proofs.TestLaws.{filter_mem, length-filter}
use Rattle.lists.proofs.SortLaws.{rises_filter}
use Rattle.model.specs.declared.Grant.{Grant}
use Rattle.model.specs.Interval.{Interval}
use Rattle.model.specs.Grant.{touches}
use Rattle.model.specs.Arguments.{reversed_doors}
use Rattle.model.specs.Answer.{accepted}
use Rattle.model.specs.Refusal.{first_fault, refusing}
use Rattle.model.specs.Book.{Book}
use Rattle.model.specs.Call.{request_of}
use Rattle.model.proofs.ArgumentLaws.{request-numbered}
use Rattle.geometry.specs.SearchRange.{range_of_doors}
use Rattle.geometry.proofs.SearchRangeLaws.{doors-hits}
use Rattle.pool.specs.Capacity.{wrong_pool}
use Rattle.grants_file.specs.Layout.{block_bytes}
use Rattle.grants_file.specs.File.{blocks_for, file_of}
use Rattle.grants_file.specs.FileSets.{DoorRange, FileSet}
use Rattle.grants_file.proofs.FileLaws.{length-file_of}
use Rattle.grants_file.proofs.SetLaws.{rises_ascending}
use Rattle.calls.specs.Walks.{door_search, hits_of}
use Rattle.calls.specs.Causes.{length_needed}
use Rattle.calls.specs.Order.{write_order}
use Rattle.calls.specs.FileCalls.{write_call}
use Rattle.calls.proofs.Represents.{grant_number, Carried, Represents, represents_pool, represents_cell, represents_live, represents_rises}
use Rattle.calls.proofs.Represents.{represents_count, Hits, range-hits}

-- no cause answers where the pool is right, the doors are in order, no walk is broken and the lent bytes are enough
write-order : (w : List ℕ) (doors : Interval) (lent : List ℕ) {broken : Bool} (hits : List ℕ) → wrong_pool w ≡ false → reversed_doors doors ≡ false
    → broken ≡ false
    → length_needed hits ≤ length lent → first_fault (write_order w doors lent broken hits) ≡ None
unfolding write_order first_fault
write-order w doors lent hits pool order whole room = rw (pool, order, whole, le-ltb (length lent) (length_needed hits) room)

module _ {w : List ℕ} {b : Book} (h : Represents w b) (doors : Interval) where
  -- the file
  abbrev file : List ℕ
  file = file_of doors (filter (touches doors) b.live)

  pub touching-found : Hits w b.live (touches doors) (door_search w doors)
  touching-found = range-hits h (range_of_doors doors) (touches doors) (λ g fits. doors-hits g fits doors)

  pub length_needed_lem : length_needed (hits_of (door_search w doors)) ≡ length file
  length_needed_lem = ap (λ (n : ℕ). block_bytes * blocks_for n) touching-found.count ∙ sym (length-file_of doors (filter (touches doors) b.live))

  pub represents_writes : reversed_doors doors ≡ false → (lent : List ℕ) → length file ≤ length lent
      → write_call w doors lent ≡ record { state = w; answer = accepted (length file ∷ []); lent = overwrite file lent }
  unfolding write_call refusing
  represents_writes order lent room =
      rw (
        write-order w doors lent (hits_of (door_search w doors)) (represents_pool h) order touching-found.whole (rw length_needed_lem room),
        length_needed_lem,
        touching-found.grants,
      )

  -- a live grant, in its cell
  live-carried : (g : Grant) → Memᴰ g b.live → (k : ℕ) × Carried w k g
  live-carried g m =
      let o = represents_cell h g (represents_live h g m) in
      (o.0, subst (Carried w o.0) o.2 (h.carried o.0 o.1))

  pub touching-set : DoorRange doors → FileSet doors (filter (touches doors) b.live)
  touching-set range =
      record {
        doors = range;
        few = omega (arith, length-filter (touches doors) b.live, represents_count h, h.few);
        ascending =
            rises_ascending 0 (rises_filter grant_number (touches doors) (represents_rises h))
            (λ g m. request-numbered (request_of g) (live-carried g (filter_mem (touches doors) b.live g m).0).1.faultless);
        each = λ g m.
            let kept = filter_mem (touches doors) b.live g m in
            let carried = (live-carried g kept.0).1 in
            record { fits = carried.fits; faultless = carried.faultless; touching = kept.1 };
      }
