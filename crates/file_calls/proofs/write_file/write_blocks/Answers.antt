use native.Mathlib.Omega.{arith}
use Rattle.file_calls.proofs.WriteFileLaws.{blocks_none, blocks_turn, blocks_all}
use Rattle.file_calls.proofs.write_file.write_blocks.Goals as goal

pub loop-i-init : goal.loop-i-init
loop-i-init c = let a = c.args in (omega arith, blocks_none a.pool.now a.cells.now a.bytes.now (omega (arith, c.requires.1)))

pub loop-i-preserved : goal.loop-i-preserved
loop-i-preserved c =
    let l = c.loop-i in
    let a = c.args in
    (omega arith, blocks_turn a.pool.now a.cells.now a.bytes.now l.i l.invariant.0 (omega (arith, c.requires.1)) l.invariant.1 c.write_at.ensures)

pub returns : goal.returns
returns c =
    blocks_all c.args.pool.now c.args.cells.now c.args.bytes.now c.loop-i.i (omega (arith, c.blocks_for-i-end.ensures)) c.loop-i.invariant.1
