-- `insertion::plan_slot` meets its contract, test by test. Assumes nothing.
use Rattle.std.proofs.Common.{ℕ, arith, sym, ap, ◌∙◌}
use Rattle.std.proofs.lemmas.Result.{err_from_is_err_and}
use Rattle.model.specs.Call.{request_of}
use Rattle.model.proofs.ArgumentLaws.{requested-request_of}
use Rattle.pool.specs.Layout.{field_of}
use Rattle.pool.specs.declared.Field.TheVariants.{Left}
use Rattle.steps.proofs.InsertionLaws.{slot_descent, slot-broken, free-above, free-none, free-next-above, free_planned}
use Rattle.steps.proofs.insertion.plan_slot.Goals as goal

pub returns-in_err-slot : goal.returns-in_err-slot
returns-in_err-slot c =
    let a = c.args in
    let r = request_of a.g in
    let p = err_from_is_err_and c.from_residual.result c.from_residual.ensures.1 in
    rw (p.1, p.2)
    (slot-broken a.pool.now r (slot_descent a.pool.now r (sym (requested-request_of a.g)) c.point_of.ensures c.find_slot.ensures c.in_err-slot.was))

pub returns-then-cells-free : goal.returns-then-cells-free
returns-then-cells-free c =
    let a = c.args in
    let r = request_of a.g in
    let way = slot_descent a.pool.now r (sym (requested-request_of a.g)) c.point_of.ensures c.find_slot.ensures c.in_ok-slot.was in
    free-above a.pool.now r c.requires way c.from-free.ensures c.if-cells-free.true

pub returns-then-free-eq0 : goal.returns-then-free-eq0
returns-then-free-eq0 c =
    let a = c.args in
    let r = request_of a.g in
    let way = slot_descent a.pool.now r (sym (requested-request_of a.g)) c.point_of.ensures c.find_slot.ensures c.in_ok-slot.was in
    free-none a.pool.now r c.requires way c.from-free.ensures c.if-cells-free.false c.if-free-eq0.true

pub returns-then-cells-from : goal.returns-then-cells-from
returns-then-cells-from c =
    let a = c.args in
    let r = request_of a.g in
    let way = slot_descent a.pool.now r (sym (requested-request_of a.g)) c.point_of.ensures c.find_slot.ensures c.in_ok-slot.was in
    let head = c.from-free.ensures in
    let after = c.field-next.ensures ∙ ap (λ (k : ℕ). field_of a.pool.now k Left) head in
    free-next-above a.pool.now r c.requires way head c.if-cells-free.false c.if-free-eq0.false after
    (omega (arith, c.from.ensures, c.if-cells-from.true))

pub returns : goal.returns
returns c =
    let a = c.args in
    let r = request_of a.g in
    let way = slot_descent a.pool.now r (sym (requested-request_of a.g)) c.point_of.ensures c.find_slot.ensures c.in_ok-slot.was in
    let head = c.from-free.ensures in
    let after = c.field-next.ensures ∙ ap (λ (k : ℕ). field_of a.pool.now k Left) head in
    free_planned a.pool.now r c.requires way head c.if-cells-free.false c.if-free-eq0.false after
    (omega (arith, c.from.ensures, c.if-cells-from.false))
