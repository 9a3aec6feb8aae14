-- `validate::last_in` meets its contract. Assumes nothing.
use Rattle.grants_file.proofs.ValidateSteps.{last-first, last_full}
use Rattle.grants_file.proofs.validate.last_in.Goals as goal

pub returns-then-number-eq0 : goal.returns-then-number-eq0
returns-then-number-eq0 c = last-first _ _ c.if-number-eq0.true

pub returns : goal.returns
returns c = last_full _ _ c.if-number-eq0.false c.block_at.ensures c.be16_at.ensures
