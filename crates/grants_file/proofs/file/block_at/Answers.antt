-- `file::block_at` meets its contract: the first 512 bytes from its place on. Assumes nothing.
use Rattle.std.proofs.lemmas.List.{take_rest}
use Rattle.std.proofs.lemmas.Option.{MatchOption-at_some}
use Rattle.grants_file.proofs.file.block_at.Goals as goal

pub returns : goal.returns
returns c = let first = MatchOption-at_some _ _ _ c.unwrap.ensures c.first_chunk.ensures.cases in rw take_rest at first.same
