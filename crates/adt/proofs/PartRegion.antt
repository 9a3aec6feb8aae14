-- The region of a part of a tree.
--   region_in q g       the region of the part q, where the whole tree has the region g
--   region_shape       it has the shape
--   region_spells      the part's link spells the part in it
-- Assumes nothing.
use Prim.Native.Nat.{ℕ, ◌-◌}
use mathlib.Core.Path.{◌≡◌, refl}
use mathlib.Core.List.{List}
use lib.ListN.{get_or}
use Rattle.geometry.specs.Axis.{axis_of}
use Rattle.geometry.specs.Levels.{levels}
use Rattle.geometry.specs.Region.{Region, half}
use Rattle.geometry.proofs.AxisLaws.{axis_lt}
use Rattle.geometry.proofs.RegionLaws.{Shape, half-shape}
use Rattle.adt.proofs.Spells.{Tree, Spells}
use Rattle.adt.proofs.TreeLaws.{spells_child}
use Rattle.adt.proofs.PartLaws.{Part, part_here, part_child}

unfoldable pub region_in : {n at m link : ℕ} {t u : Tree} → Part n at t m link u → Region → Region
region_in part_here g = g
region_in (part_child {n = n} s q) g = region_in q (half s g (axis_of (levels - n)))

pub region_shape : {n at m link : ℕ} {t u : Tree} {g : Region} (q : Part n at t m link u) → Shape g → Shape (region_in q g)
unfolding region_in
region_shape part_here v = v
region_shape {g = g} (part_child {n = n} s q) v = region_shape q (half-shape s g (axis_of (levels - n)) v (axis_lt (levels - n)))

pub region_spells : {w : List ℕ} {c n at m link k : ℕ} {g : Region} {t u : Tree} (q : Part n at t m link u) → get_or w at 0 ≡ k → Spells w c n g k t
    → Spells w c m (region_in q g) (get_or w link 0) u
unfolding region_in
region_spells part_here e x = rw e x
region_spells (part_child s q) e x = region_spells q refl (spells_child s x)
