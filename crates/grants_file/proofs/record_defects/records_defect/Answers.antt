use mathlib.Core.Path.{sym, ◌∙◌}
use native.Mathlib.Omega.{arith}
use Rattle.std.proofs.lemmas.Result.{err_from_is_err_and}
use Rattle.grants_file.proofs.BlockSteps.{records_start}
use Rattle.grants_file.proofs.DefectSteps.{records_wrong, records_next, records_end}
use Rattle.grants_file.proofs.record_defects.records_defect.Goals as goal

pub loop-i-init : goal.loop-i-init
loop-i-init c = rw (records_start c.args.block.now c.args.count)

pub returns-in_err-record_defect : goal.returns-in_err-record_defect
returns-in_err-record_defect c =
    let l = c.loop-i in
    let p = err_from_is_err_and c.from_residual.result c.from_residual.ensures.1 in
    rw (p.1, p.2) (records_wrong _ _ _ _ _ _ (omega arith) (sym c.in_err-record_defect.was ∙ c.record_defect.ensures) ∙ l.invariant)

pub loop-i-preserved : goal.loop-i-preserved
loop-i-preserved c =
    let l = c.loop-i in
    records_next _ _ _ _ _ _ (omega arith) (sym c.in_ok-record_defect.was ∙ c.record_defect.ensures) c.be16_at-last.ensures ∙ l.invariant

pub returns : goal.returns
returns c =
    let l = c.loop-i in
    records_end _ _ _ _ _ _ (omega arith) ∙ l.invariant
