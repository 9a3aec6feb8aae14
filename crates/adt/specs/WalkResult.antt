-- What the answers of the code's walks stand for. The contracts of the walks cite these; no claim does.
--   insertion_walk_of r              the end of a way down (Insert)
--   FreeSlot w link free next      the place of a link, and the free list's first cell with what follows it
--   removal_walk_of r                the end of a removal walk (Remove)
--   RemovalStep w c below k met    a removal walk in a pool of c cells may go on from the cell k
--   Removable w k link leaf cut    the cells and link places of a removal lie in the pool
-- Assumes nothing: these are definitions.
use Rattle.std.specs.Prelude.{ℕ, ◌<◌, ◌≤◌, ◌≡◌, List, length, Result, Ok, Err}
use Rattle.geometry.specs.Levels.{levels}
use Rattle.pool.specs.Capacity.{Sized, InPool}
use Rattle.adt.specs.declared.Broken.{Broken}
use Rattle.adt.specs.declared.insert.Slot.{Slot}
use Rattle.adt.specs.declared.remove.Terminal.{Terminal}
use Rattle.adt.specs.Insert as insert
use Rattle.adt.specs.Remove as remove

abbrev pub insertion_walk_of : Result Slot Broken → insert.InsertionWalk
insertion_walk_of (Err broken) = insert.broken
insertion_walk_of (Ok slot) = insert.blank_at slot.link slot.parent

abbrev pub removal_walk_of : Result Terminal Broken → remove.RemovalWalk
removal_walk_of (Err broken) = remove.broken
removal_walk_of (Ok end) = remove.terminal end.cell end.link

-- the free head's cell, which is to hang at the link's place, and the free head after it
pub record FreeSlot (w : List ℕ) (link free next : ℕ) : Type 0 where
  pub cell : InPool w free
  pub at : link < length w
  pub head : free ≡ insert.free_head w
  pub after : next ≡ insert.next_free w

-- the cell k has so many levels below it, and so many cells were met, k among them
pub record RemovalStep (w : List ℕ) (c below k met : ℕ) : Type 0 where
  pub sized : Sized w c
  pub deep : below ≤ levels
  pub some : 0 < k
  pub few : k ≤ c
  pub met-cells : met ≤ c

-- the cell that goes and the place of its link; the terminal cell and the place of the link that is cut
pub record Removable (w : List ℕ) (k link leaf cut : ℕ) : Type 0 where
  pub cell : InPool w k
  pub terminal : InPool w leaf
  pub at : link < length w
  pub cut_at : cut < length w
