-- start, on memory as long as a pool: it is accepted, and the words then stand for the empty book.
--   represents_fresh_pool     the words that start makes
--   start-sized              what start answers and leaves
--   start_refines            so it begins what the book begins
-- Assumes nothing.
use Prim.Native.Nat.{ℕ, ◌≤◌}
use mathlib.Core.Path.{◌≡◌, refl}
use mathlib.Core.List.{List, []}
use Rattle.lists.specs.Ranges.{count_from}
use Rattle.lists.specs.Sort.{sort_by}
use Rattle.lists.proofs.DistinctLaws.{distinct_none}
use Rattle.model.specs.Limits.{max_grants}
use Rattle.model.specs.Answer.{accepted}
use Rattle.model.specs.Refusal.{first_fault, refusing}
use Rattle.model.specs.Book.{empty_book}
use Rattle.pool.specs.Fresh.{fresh_pool}
use Rattle.pool.proofs.CapacityLaws.{Sized, capacity_of-pool_length, wrong_length_iff}
use Rattle.adt.proofs.Spells.{blank, cells_of}
use Rattle.adt.proofs.TreeLaws.{no_cell}
use Rattle.adt.proofs.Linked.{linked_fresh_pool}
use Rattle.calls.specs.Order.{start_order}
use Rattle.calls.specs.Calls.{start_call}
use Rattle.calls.proofs.Represents.{Represents}

pub represents_fresh_pool : (c : ℕ) → 1 ≤ c → c ≤ max_grants → Represents (fresh_pool c) (empty_book c)
unfolding cells_of sort_by
represents_fresh_pool c some few = record {
  tree = blank;
  free = count_from 1 c;
  linked = linked_fresh_pool c some;
  some = some;
  few = few;
  carried = λ k m. absurd (no_cell k m);
  distinct = distinct_none;
  live = refl;
}

pub start-sized : {c : ℕ} (memory : List ℕ) → Sized memory c → start_call memory ≡ record { state = fresh_pool c; answer = accepted []; lent = [] }
unfolding start_call start_order refusing first_fault
start-sized {c} memory h = rw ((wrong_length_iff memory).1 (c, h), capacity_of-pool_length memory c h.long)

pub start_refines : {c : ℕ} (memory : List ℕ) → Sized memory c
    → ((start_call memory).answer ≡ accepted []) × Represents (start_call memory).state (empty_book c)
start_refines {c} memory h = rw (start-sized memory h) (refl, represents_fresh_pool c h.some h.few)
