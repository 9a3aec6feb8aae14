-- What start leaves, as tree and free chain.
--   spells_fresh_pool      its root is blank
--   chain_fresh_pool       its free cells are 1 to c, in rising order
-- Assumes nothing.
use Prim.Native.Nat.{ℕ, zero, suc, ◌+◌, ◌≤◌, ◌<◌}
use mathlib.Core.Path.{◌≡◌}
use mathlib.Core.List.{[]}
use lib.ListN.{get_or}
use native.Mathlib.Omega.{arith}
use borrow.Author.Tests.{eq-eqb, ne_eqb}
use Rattle.lists.specs.Ranges.{count_from}
use Rattle.geometry.specs.Levels.{levels}
use Rattle.geometry.specs.Region.{root_region}
use Rattle.pool.specs.Layout.{root_place, field_of}
use Rattle.pool.specs.Fresh.{fresh_pool}
use Rattle.pool.proofs.FreshLaws.{root_fresh_pool, free-fresh_pool, left-fresh_pool}
use Rattle.adt.specs.Insert.{free_head}
use Rattle.adt.proofs.Spells.{blank, Spells, spells_blank, FreeChain, chain_end, chain_more}

pub spells_fresh_pool : (c : ℕ) → Spells (fresh_pool c) c (suc levels) root_region (get_or (fresh_pool c) root_place 0) blank
spells_fresh_pool c = rw (root_fresh_pool c) spells_blank

-- the last n + 1 cells
chain_last : (c k n : ℕ) → 0 < k → k + n ≡ c → FreeChain (fresh_pool c) c k (count_from k (suc n))
unfolding count_from field_of
chain_last c k zero pos e = chain_more {ks = []} pos (omega arith) (rw (left-fresh_pool c k pos (omega arith), eq-eqb k c (omega arith)) chain_end)
chain_last c k (suc n) pos e =
    chain_more {ks = count_from (suc k) (suc n)} pos (omega arith)
    (rw (left-fresh_pool c k pos (omega arith), ne_eqb k c (omega arith)) (chain_last c (suc k) n (omega arith) (omega arith)))

pub chain_fresh_pool : (c : ℕ) → 1 ≤ c → FreeChain (fresh_pool c) c (free_head (fresh_pool c)) (count_from 1 c)
chain_fresh_pool zero h = absurd (omega arith)
chain_fresh_pool (suc c) h = rw (free-fresh_pool (suc c)) (chain_last (suc c) 1 c (omega arith) (omega arith))
