-- `write_block::write_header` meets its contract. Assumes nothing.
use Rattle.grants_file.proofs.WriteBlockSteps.{header_block_lem}
use Rattle.grants_file.proofs.write_block.write_header.Goals as goal

pub returns : goal.returns
returns c =
    header_block_lem c.args.block.now c.args.total (record { from = c.args.from; to = c.args.to }) c.told-block
    c.start_block.ensures c.put_be16.ensures c.put_be16-2.ensures c.seal.ensures
