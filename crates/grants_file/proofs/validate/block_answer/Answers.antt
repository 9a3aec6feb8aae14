-- `validate::block_answer` meets its contract: the start of the block, then the rest. Assumes nothing.
use Rattle.std.proofs.lemmas.Result.{err_from_is_err_and}
use Rattle.grants_file.proofs.ValidateSteps.{answer-start, answer_content, answer_sound}
use Rattle.grants_file.proofs.validate.block_answer.Goals as goal

pub returns-in_err-start_defect : goal.returns-in_err-start_defect
returns-in_err-start_defect c =
    let p = err_from_is_err_and c.from_residual.result c.from_residual.ensures.1 in
    rw (p.1, p.2) (answer-start _ _ c.block_at.ensures c.start_defect.ensures c.in_err-start_defect.was)

pub returns-in_err-content_defect : goal.returns-in_err-content_defect
returns-in_err-content_defect c =
    let p = err_from_is_err_and c.from_residual-in_err-content_defect.result c.from_residual-in_err-content_defect.ensures.1 in
    rw (p.1, p.2)
    (answer_content _ _ c.block_at.ensures c.start_defect.ensures c.in_ok-start_defect.was c.content_defect.ensures c.in_err-content_defect.was)

pub returns : goal.returns
returns c =
    answer_sound _ _ c.block_at.ensures c.start_defect.ensures c.in_ok-start_defect.was c.content_defect.ensures c.in_ok-content_defect.was
    c.last_in.ensures
