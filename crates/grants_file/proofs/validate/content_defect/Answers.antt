-- `validate::content_defect` meets its contract: block 0, or the layout and then the records. Assumes nothing.
use Rattle.std.proofs.lemmas.Result.{err_from_is_err_and}
use Rattle.grants_file.proofs.ValidateSteps.{content_header, content_layout, content_records}
use Rattle.grants_file.proofs.validate.content_defect.Goals as goal

pub returns-then-number-eq0 : goal.returns-then-number-eq0
returns-then-number-eq0 c = content_header _ _ c.if-number-eq0.true c.header_defect.ensures

pub returns-in_err-layout_defect : goal.returns-in_err-layout_defect
returns-in_err-layout_defect c =
    let p = err_from_is_err_and c.from_residual.result c.from_residual.ensures.1 in
    rw (p.1, p.2)
    (content_layout _ _ c.if-number-eq0.false c.block_at-block.ensures c.count_of.ensures.0
    c.total_in.ensures.0
    c.count_in-due.ensures.0
    c.layout_defect.ensures
    c.in_err-layout_defect.was)

pub returns : goal.returns
returns c =
    content_records _ _ c.if-number-eq0.false c.block_at-block.ensures c.count_of.ensures.0
    c.total_in.ensures.0
    c.count_in-due.ensures.0
    c.layout_defect.ensures
    c.in_ok-layout_defect.was
    c.doors_in.ensures
    c.requires.last-before
    c.records_defect.ensures
