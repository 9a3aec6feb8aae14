-- `write_file::write_file` meets its contract: block 0, then the blocks of records. Assumes nothing.
use Rattle.file_calls.proofs.WriteFileLaws.{file_written}
use Rattle.file_calls.proofs.write_file.write_file.Goals as goal

pub returns : goal.returns
returns c = file_written c.args.pool.now c.args.cells.now _ c.args.bytes.now c.write_front.ensures c.write_blocks.ensures
