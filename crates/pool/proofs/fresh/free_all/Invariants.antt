-- `fresh::free_all` meets its contract. The invariant: the cells above k are done, and stand as a tail of the words. Assumes nothing.
use Rattle.pool.specs.Fresh.{free_cells}
use Rattle.pool.specs.Capacity.{pool_length}
use Rattle.pool.specs.Layout.{header_words}
use lib.ListN.{length, take, drop}
use lib.Dec.{eqb}
use mathlib.Core.Bool.{cond}
use mathlib.Core.Path.{◌≡◌}
use Prim.Native.Nat.{suc, ◌-◌, ◌≤◌}
use Rattle.pool.proofs.fresh.free_all.Given as goal

abbrev pub invariant-loop-k : goal.invariant-loop-k
invariant-loop-k l =
    (l.k ≤ l.cells)
    × (length l.pool ≡ pool_length l.cells)
    × (l.next ≡ cond (eqb (l.cells - l.k) 0) 0 (suc l.k))
    × (drop (pool_length l.k) l.pool ≡ free_cells (l.cells - l.k) (suc l.k))
    × (take header_words l.pool ≡ take header_words l.initial.pool)
