-- `grants::grant_in` meets its contract: the record lies in the file, and gives the grant at its place. Assumes nothing.
use Rattle.grants_file.proofs.GrantSteps.{record_inside, grant_here}
use Rattle.grants_file.proofs.grants.grant_in.Goals as goal

pub decode_record-requires : goal.decode_record-requires
decode_record-requires c = record_inside _ c.requires.0 _ c.requires.1

pub returns : goal.returns
returns c = rw c.decode_record.ensures (grant_here _ c.requires.0 _ c.requires.1)
