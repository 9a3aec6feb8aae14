-- `write_file::write_at` meets its contract. Assumes nothing.
use Prim.Native.Nat.{◌*◌}
use Rattle.file_calls.proofs.WriteFileLaws.{block_as, part-written}
use Rattle.file_calls.proofs.write_file.write_at.Goals as goal

pub returns : goal.returns
returns c =
    part-written c.args.bytes.now (512 * c.args.number)
    (block_as c.args.pool.now c.args.cells.now c.args.number) c.write_first.ensures
