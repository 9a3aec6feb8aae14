use mathlib.Core.Path.{refl, sym, ◌∙◌}
use native.Mathlib.Omega.{arith}
use Rattle.grants_file.specs.Defects.{last_before}
use Rattle.grants_file.proofs.ValidateSteps.{few_blocks, file_length, blocks_start, blocks_wrong, blocks_sound, blocks_end}
use Rattle.grants_file.proofs.validate.validate.Goals as goal

pub returns-then-wrong_block_count : goal.returns-then-wrong_block_count
returns-then-wrong_block_count c = file_length _ (sym c.if-wrong_block_count.true ∙ c.wrong_block_count.ensures)

pub loop-i-init : goal.loop-i-init
unfolding last_before
loop-i-init c =
    let whole = sym c.if-wrong_block_count.false ∙ c.wrong_block_count.ensures in
    (few_blocks _ whole, refl, blocks_start _ whole)

pub returns-in_default : goal.returns-in_default
returns-in_default c =
    let l = c.loop-i in
    rw (c.and.ensures, c.in_default.is) (blocks_wrong _ l.i (omega arith) (sym c.block_answer-answer.ensures ∙ c.in_default.is) ∙ l.invariant.2)

pub loop-i-preserved : goal.loop-i-preserved
loop-i-preserved c =
    let l = c.loop-i in
    let sound = blocks_sound _ l.i (omega arith) (sym c.block_answer-answer.ensures ∙ c.in-Ok.is) in
    (l.invariant.0, sound.1, sound.0 ∙ l.invariant.2)

pub returns : goal.returns
returns c =
    let l = c.loop-i in
    blocks_end _ l.i (omega arith) ∙ l.invariant.2
