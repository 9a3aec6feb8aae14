-- `insertion::add` meets its contract: what was planned is stored. Assumes nothing.
use Rattle.std.proofs.Common.{sym, ap, subst, ◌∙◌}
use Rattle.model.specs.Call.{request_of}
use Rattle.model.proofs.ArgumentLaws.{requested-request_of}
use Rattle.adt.specs.Insert.{inserted}
use Rattle.steps.specs.Insertions.{SlotPlanned}
use Rattle.steps.proofs.InsertionLaws.{plan_inserts, added-refused, added_done}
use Rattle.steps.proofs.insertion.add.Goals as goal

pub insert-requires : goal.insert-requires
insert-requires c =
    let a = c.args in
    plan_inserts a.pool.now (request_of a.g) _ _ (subst (SlotPlanned a.pool.now (request_of a.g)) c.in-Ok.is c.plan_slot.ensures)

pub returns-in-Ok : goal.returns-in-Ok
returns-in-Ok c =
    let a = c.args in
    added_done a.pool.now (request_of a.g) _ (subst (SlotPlanned a.pool.now (request_of a.g)) c.in-Ok.is c.plan_slot.ensures)
    (c.insert.ensures ∙ ap (inserted a.pool.now _ _) (sym (requested-request_of a.g)))

pub returns-in_default : goal.returns-in_default
returns-in_default c =
    let a = c.args in
    added-refused a.pool.now (request_of a.g) _ (subst (SlotPlanned a.pool.now (request_of a.g)) c.in_default.is c.plan_slot.ensures)
