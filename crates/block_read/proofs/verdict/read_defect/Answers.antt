-- `verdict::read_defect` meets its contract: the start of the block, then what it holds. Assumes nothing.
use Rattle.std.proofs.lemmas.Result.{err_from_is_err_and}
use Rattle.block_read.proofs.BlockReadSteps.{alone-start, alone_header, alone_layout}
use Rattle.block_read.proofs.verdict.read_defect.Goals as goal

pub returns-in_err-start_defect : goal.returns-in_err-start_defect
returns-in_err-start_defect c =
    let p = err_from_is_err_and c.from_residual.result c.from_residual.ensures.1 in
    rw (p.1, p.2) (alone-start _ _ c.block_at-block.ensures c.start_defect.ensures c.in_err-start_defect.was)

pub returns-then-number-eq0 : goal.returns-then-number-eq0
returns-then-number-eq0 c =
    alone_header _ _ c.block_at-block.ensures c.start_defect.ensures c.in_ok-start_defect.was c.if-number-eq0.true c.padding_defect.ensures

pub returns : goal.returns
returns c =
    alone_layout _ _ c.block_at-block.ensures c.start_defect.ensures c.in_ok-start_defect.was c.if-number-eq0.false c.wrong_count.ensures
    c.layout_defect.ensures
