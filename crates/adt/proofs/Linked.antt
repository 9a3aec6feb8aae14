-- A pool whose links hold together: what start leaves, and every accepted call keeps.
--   Linked w c t ks      in the words w of a pool of c cells the root spells the tree t, the free head leads through the cells ks, and
--                        each of the cells 1 to c is in one of the two, once; those of t name their parents; of the free cells every
--                        field but left is 0
--   linked_distinct, linked_upto, linked_all     no cell is there twice; they are of 1 to c; each of 1 to c is there
--   linked_count         tree and free cells are c together
--   linked_capacity      C, by the length
--   linked_fresh_pool     the pool that start leaves
-- Assumes nothing.
use Prim.Native.Nat.{ℕ, suc, ◌+◌, ◌<◌, ◌≤◌}
use mathlib.Core.Path.{◌≡◌}
use mathlib.Core.List.{List, ◌++◌, Memᴰ}
use native.Mathlib.Omega.{arith}
use lib.ListN.{length, get_or, length-append}
use Rattle.lists.specs.Ranges.{count_from}
use Rattle.lists.proofs.DistinctLaws.{Distinct, Upto}
use Rattle.lists.proofs.PermLaws.{Perm, perm_refl, perm_sym, perm_mem, perm_distinct, length_perm}
use Rattle.lists.proofs.RangeLaws.{length-count_from}
use Rattle.lists.proofs.CountLaws.{mem_count_from, count_from_mem, distinct-count_from}
use Rattle.geometry.specs.Levels.{levels}
use Rattle.geometry.specs.Region.{root_region}
use Rattle.pool.specs.Layout.{capacity_place, root_place}
use Rattle.pool.specs.Capacity.{pool_length, capacity_of}
use Rattle.pool.specs.Fresh.{fresh_pool}
use Rattle.pool.proofs.CapacityLaws.{capacity_of-pool_length}
use Rattle.pool.proofs.FreshLaws.{length-fresh_pool, capacity-fresh_pool}
use Rattle.pool.proofs.FreeCellLaws.{Cleared, cleared_fresh_pool}
use Rattle.adt.specs.Insert.{free_head}
use Rattle.adt.proofs.Spells.{Tree, blank, cells_of, size, Spells, FreeChain}
use Rattle.adt.proofs.Parents.{Parented, parented_blank}
use Rattle.adt.proofs.TreeLaws.{cells-size}
use Rattle.adt.proofs.FreshLaws.{spells_fresh_pool, chain_fresh_pool}

pub record Linked (w : List ℕ) (c : ℕ) (t : Tree) (ks : List ℕ) : Type 0 where
  pub long : length w ≡ pool_length c
  pub capacity : get_or w capacity_place 0 ≡ c
  pub spells : Spells w c (suc levels) root_region (get_or w root_place 0) t
  pub parents : Parented w 0 t
  pub free : FreeChain w c (free_head w) ks
  pub cells : Perm (count_from 1 c) (cells_of t ++ ks)
  pub cleared : (k : ℕ) → Memᴰ k ks → Cleared w k

module _ {w : List ℕ} {c : ℕ} {t : Tree} {ks : List ℕ} (h : Linked w c t ks) where
  pub linked_distinct : Distinct (cells_of t ++ ks)
  linked_distinct = perm_distinct h.cells (distinct-count_from 1 c)

  pub linked_upto : Upto c (cells_of t ++ ks)
  linked_upto k m = let r = count_from_mem 1 c k (perm_mem (perm_sym h.cells) m) in (omega arith, omega arith)

  pub linked_all : (k : ℕ) → 0 < k → k ≤ c → Memᴰ k (cells_of t ++ ks)
  linked_all k pos le = perm_mem h.cells (mem_count_from 1 c k pos (omega arith))

  pub linked_count : size t + length ks ≡ c
  linked_count = omega (arith, cells-size t, length-append (cells_of t) ks, length_perm h.cells, length-count_from 1 c)

  pub linked_capacity : capacity_of w ≡ c
  linked_capacity = capacity_of-pool_length w c h.long

pub linked_fresh_pool : (c : ℕ) → 1 ≤ c → Linked (fresh_pool c) c blank (count_from 1 c)
unfolding cells_of
linked_fresh_pool c some = record {
  long = length-fresh_pool c;
  capacity = capacity-fresh_pool c;
  spells = spells_fresh_pool c;
  parents = parented_blank;
  free = chain_fresh_pool c some;
  cells = perm_refl (count_from 1 c);
  cleared = λ k m. let r = count_from_mem 1 c k m in cleared_fresh_pool c k (omega arith) (omega arith);
}
