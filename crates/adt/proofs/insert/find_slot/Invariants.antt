-- `insert::find_slot` meets its contract. The invariant looks forward: the rest of the way is the whole way. Assumes nothing.
use Rattle.adt.specs.Insert.{descend_from, descend}
use lib.ListN.{length}
use mathlib.Core.Path.{◌≡◌}
use Rattle.geometry.specs.Region.{Shape}
use Prim.Native.Nat.{◌≤◌, ◌<◌, ◌-◌}
use Rattle.adt.proofs.insert.find_slot.Given as goal

abbrev pub invariant-loop-level : goal.invariant-loop-level
invariant-loop-level l =
    (l.level ≤ 113)
    × (l.link < length l.pool)
    × Shape l.region
    × (descend_from l.pool l.cells l.point (113 - l.level) l.parent l.link l.region l.level ≡ descend l.pool l.point)
