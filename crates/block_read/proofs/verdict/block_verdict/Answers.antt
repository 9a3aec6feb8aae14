-- `verdict::block_verdict` meets its contract. Assumes nothing.
use mathlib.Core.Path.{sym, ◌∙◌}
use Rattle.std.proofs.lemmas.Result.{err_from_is_err_and}
use Rattle.block_read.proofs.BlockReadSteps.{read_length, read_answer, length_in}
use Rattle.block_read.proofs.verdict.block_verdict.Goals as goal

pub returns-then-not_in_file : goal.returns-then-not_in_file
returns-then-not_in_file c = read_length _ _ (sym c.if-not_in_file.true ∙ c.not_in_file.ensures)

pub read_defect-requires : goal.read_defect-requires
read_defect-requires c = length_in _ _ (sym c.if-not_in_file.false ∙ c.not_in_file.ensures)

pub returns-in_err-read_defect : goal.returns-in_err-read_defect
returns-in_err-read_defect c =
    let p = err_from_is_err_and c.from_residual.result c.from_residual.ensures.1 in
    rw (p.1, p.2) (read_answer _ _ (sym c.if-not_in_file.false ∙ c.not_in_file.ensures) (sym c.in_err-read_defect.was ∙ c.read_defect.ensures))

pub returns : goal.returns
returns c = read_answer _ _ (sym c.if-not_in_file.false ∙ c.not_in_file.ensures) (sym c.in_ok-read_defect.was ∙ c.read_defect.ensures)
