-- `verdict::judge` meets its contract: the fault of the first defect. Assumes nothing.
use mathlib.Core.Path.{sym, ◌∙◌}
use Rattle.std.proofs.lemmas.Result.{err_from_is_err_and}
use Rattle.grants_file.proofs.DefectLaws.{answer-defect}
use Rattle.grants_file.proofs.verdict.judge.Goals as goal

pub returns-in_err-validate : goal.returns-in_err-validate
returns-in_err-validate c =
    let p = err_from_is_err_and c.from_residual.result c.from_residual.ensures.1 in
    rw (p.1, p.2) (answer-defect _ (sym c.in_err-validate.was ∙ c.validate.ensures))

pub returns : goal.returns
returns c = answer-defect _ (sym c.in_ok-validate.was ∙ c.validate.ensures)
