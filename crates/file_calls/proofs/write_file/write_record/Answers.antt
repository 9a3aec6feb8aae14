-- `write_file::write_record` meets its contract: the record is that of the grant read. Assumes nothing.
use Rattle.file_calls.proofs.WriteFileLaws.{record_as}
use borrow.Author.Rules.{rules}
use Rattle.file_calls.proofs.write_file.write_record.Goals as goal

pub returns : goal.returns
returns c = record_as _ _ c.encode_record.ensures (search rules)
