-- `defects::record_defect` meets its contract. Assumes nothing.
use mathlib.Core.Path.{◌∙◌, sym, ap}
use Rattle.std.proofs.Common.{Err}
use Rattle.std.proofs.lemmas.Result.{err_from_is_err_and}
use Rattle.openings.proofs.DefectLaws.{defect-size, defect-order}
use Rattle.openings.proofs.defects.record_defect.Goals as goal

pub returns-in_err-size_defect : goal.returns-in_err-size_defect
returns-in_err-size_defect c =
    let err = err_from_is_err_and c.from_residual.result c.from_residual.ensures.1 in
    err.1 ∙ ap Err err.2 ∙ defect-size c.args.bytes.now _ (sym c.size_defect.ensures ∙ c.in_err-size_defect.was)

pub returns : goal.returns
returns c = c.order_defect.ensures ∙ defect-order c.args.bytes.now (sym c.size_defect.ensures ∙ c.in_ok-size_defect.was)
