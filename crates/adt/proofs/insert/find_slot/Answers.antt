use lib.Dec.{lit≤}
use Rattle.adt.proofs.DescentSteps.{descent_end, descent_blank, descent_above, descent_full, descent_parent, descent_next}
use Rattle.adt.specs.Insert.{descend}
use Rattle.pool.proofs.CapacityLaws.{capacity_of-pool_length}
use native.Mathlib.Omega.{arith}
use mathlib.Core.Path.{◌≡◌, sym, ap, subst, ◌∙◌}
use lib.ListN.{set}
use Prim.Native.Nat.{◌+◌, ◌-◌}
use Rattle.geometry.specs.Axis.{axis_of}
use Rattle.geometry.specs.Levels.{levels}
use Rattle.geometry.specs.Region.{Shape}
use Rattle.geometry.proofs.RegionLaws.{root_shape, half-shape}
use Rattle.geometry.proofs.HalfLaws.{set_half_of}
use Rattle.adt.proofs.insert.find_slot.Goals as goal

pub loop-level-init : goal.loop-level-init
unfolding descend
loop-level-init c =
    let long = c.requires.long in
    let root = c.root_region-region.ensures in
    (lit≤ tt, omega (arith, long), subst Shape (sym root) root_shape, rw (root, capacity_of-pool_length _ _ long))

pub returns-then-k-eq0 : goal.returns-then-k-eq0
returns-then-k-eq0 c =
    descent_blank _ _ _ _ _ _ _ _ _ (omega arith) c.from-k.ensures c.if-k-eq0.true ∙ c.loop-level.invariant.3

pub returns-then-cells-k : goal.returns-then-cells-k
returns-then-cells-k c =
    descent_above _ _ _ _ _ _ _ _ _ (omega arith) c.from-k.ensures c.if-k-eq0.false c.if-cells-k.true
    ∙ c.loop-level.invariant.3

pub returns-then-cells-level : goal.returns-then-cells-level
returns-then-cells-level c =
    descent_full _ _ _ _ _ _ _ _ _ (omega arith) c.from-k.ensures c.if-k-eq0.false c.if-cells-k.false c.if-cells-level.true
    ∙ c.loop-level.invariant.3

pub returns-then-field-parent : goal.returns-then-field-parent
returns-then-field-parent c =
    descent_parent _ _ _ _ _ _ _ _ _ (omega arith) c.from-k.ensures c.if-k-eq0.false c.if-cells-k.false c.if-cells-level.false
    (λ e. c.if-field-parent.true (c.field.ensures ∙ e))
    ∙ c.loop-level.invariant.3

pub loop-level-preserved : goal.loop-level-preserved
loop-level-preserved c =
    let l = c.loop-level in
    let p = c.requires in
    let axis = c.axis_of-axis.ensures in
    let step : 113 - (l.level + 1) ≡ 113 - l.level - 1 = omega arith in
    let level : l.level ≡ levels - (113 - l.level - 1) = omega (arith, c.loop-level-test.true) in
    let half = ap (set l.region c.axis_of-axis.result) c.half_of.ensures ∙ set_half_of _ l.region _ l.invariant.2 axis.1 in (
      omega (arith, l.invariant.0),
      omega (arith, c.link_place-link.ensures.1, p.long, c.if-cells-k.false),
      subst Shape (sym half) (half-shape _ l.region _ l.invariant.2 axis.1),
      rw step
          (descent_next c.args.pool.now _ _ _ _ _ _ _ _ (omega arith) c.from-k.ensures c.if-k-eq0.false c.if-cells-k.false c.if-cells-level.false
          (sym c.field.ensures ∙ c.if-field-parent.false) (axis.0 ∙ ap axis_of level) c.side_of-side.ensures half (sym c.from-k.ensures) c.link_place-link.ensures.0)
          ∙ l.invariant.3,
    )

pub returns : goal.returns
returns c = descent_end _ _ _ _ _ _ _ _ (omega arith) ∙ c.loop-level.invariant.3
