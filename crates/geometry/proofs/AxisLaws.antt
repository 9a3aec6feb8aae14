-- Laws of the axis of a level. Assumes nothing.
use Prim.Native.Nat.{ℕ, ◌<◌}
use native.Mathlib.Omega.{arith}
use Rattle.geometry.specs.Axis.{axes, axis_of}

pub axis_lt : (level : ℕ) → axis_of level < axes
axis_lt level = omega arith
