-- `compare::compare_openings` meets its contract: each return is one case of its order line. Assumes nothing.
use mathlib.Core.Path.{◌≡◌, ◌∙◌}
use mathlib.Core.Bool.{Bool, true, ◌||◌}
use Rattle.openings.proofs.DefectLaws.{told_size, told_order, wrong_size-sized}
use Rattle.openings.proofs.CompareLaws.{compare_wrong_size, compare-unordered, compare-accepted}
use Rattle.openings.proofs.compare.compare_openings.Goals.{
  then-is_err-via-then-is_err,
  then-is_err-via-else-is_err+then-is_err-2,
  then-is_err-3-via-then-is_err-3,
  then-is_err-3-via-else-is_err-3+then-is_err-4,
}
use Rattle.openings.proofs.compare.compare_openings.Goals as goal

-- either of two tests
either : (a b : Bool) {u v : Bool} → a ≡ u → b ≡ v → (a || b) ≡ (u || v)
either a b p q = rw (p, q)

first : (a b : Bool) → a ≡ true → (a || b) ≡ true
first a b p = rw p

pub returns-then-is_err : goal.returns-then-is_err
returns-then-is_err c =
    compare_wrong_size c.args.door.now c.args.panel.now
    (elim c.then-is_err.branch [
      | then-is_err-via-then-is_err w ↦ first _ _ (told_size c.args.door.now c.is_err.ensures.value w.if-is_err.true c.size_defect.ensures)
      | then-is_err-via-else-is_err+then-is_err-2 w ↦
          either _ _ (told_size c.args.door.now c.is_err.ensures.value w.if-is_err.false c.size_defect.ensures)
          (told_size c.args.panel.now w.is_err-else-is_err.ensures.value w.if-is_err-2.true w.size_defect-else-is_err.ensures)
    ])

pub returns-then-is_err-3 : goal.returns-then-is_err-3
returns-then-is_err-3 c =
    let sized =
    either _ _ (told_size c.args.door.now c.is_err.ensures.value c.if-is_err.false c.size_defect.ensures)
    (told_size c.args.panel.now c.is_err-else-is_err.ensures.value c.if-is_err-2.false c.size_defect-else-is_err.ensures) in
    compare-unordered c.args.door.now c.args.panel.now sized
    (elim c.then-is_err-3.branch [
      | then-is_err-3-via-then-is_err-3 w ↦ first _ _ (told_order c.args.door.now c.is_err-2.ensures.value w.if-is_err-3.true c.order_defect.ensures)
      | then-is_err-3-via-else-is_err-3+then-is_err-4 w ↦
          either _ _ (told_order c.args.door.now c.is_err-2.ensures.value w.if-is_err-3.false c.order_defect.ensures)
          (told_order c.args.panel.now w.is_err-else-is_err-3.ensures.value w.if-is_err-4.true w.order_defect-else-is_err-3.ensures)
    ])

pub compare_sound-requires : goal.compare_sound-requires
compare_sound-requires c = (
  wrong_size-sized c.args.door.now (told_size c.args.door.now c.is_err.ensures.value c.if-is_err.false c.size_defect.ensures),
  wrong_size-sized c.args.panel.now
      (told_size c.args.panel.now c.is_err-else-is_err.ensures.value c.if-is_err-2.false c.size_defect-else-is_err.ensures),
)

pub returns : goal.returns
returns c =
    let sized =
    either _ _ (told_size c.args.door.now c.is_err.ensures.value c.if-is_err.false c.size_defect.ensures)
    (told_size c.args.panel.now c.is_err-else-is_err.ensures.value c.if-is_err-2.false c.size_defect-else-is_err.ensures) in
    let ordered =
    either _ _ (told_order c.args.door.now c.is_err-2.ensures.value c.if-is_err-3.false c.order_defect.ensures)
    (told_order c.args.panel.now c.is_err-else-is_err-3.ensures.value c.if-is_err-4.false c.order_defect-else-is_err-3.ensures) in
    c.compare_sound.ensures ∙ compare-accepted c.args.door.now c.args.panel.now sized ordered
