-- `write_file::write_block` meets its contract: started, filled, sealed. Assumes nothing.
use native.Mathlib.Nat.{add-sub_cancel_left}
use Rattle.file_calls.proofs.WriteFileLaws.{block_written}
use Rattle.file_calls.proofs.write_file.write_block.Goals as goal

pub returns : goal.returns
returns c =
    let filled = rw add-sub_cancel_left at c.write_records.ensures in
    block_written c.args.pool.now c.args.cells.now c.args.block.now c.args.number _ c.told-block c.count_in-count.ensures.0 c.start_block.ensures
    filled c.seal.ensures
