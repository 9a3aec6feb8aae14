-- `region::meets_range` meets its contract. The invariant: the axes passed met the test, so those below decide. Assumes nothing.
use Prim.Native.Nat.{◌≤◌}
use mathlib.Core.Path.{◌≡◌}
use Rattle.lists.specs.Tests.{each}
use Rattle.geometry.specs.Region.{meets, meets_on}
use Rattle.geometry.proofs.region.meets_range.Given as goal

abbrev pub invariant-loop-n : goal.invariant-loop-n
invariant-loop-n l = (l.n ≤ 7) × (meets l.region l.range ≡ each l.n (meets_on l.region l.range))
