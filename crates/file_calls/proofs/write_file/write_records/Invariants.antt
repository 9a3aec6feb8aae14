-- `write_file::write_records` meets its contract. The invariant: the first i records are stored. Assumes nothing.
use mathlib.Core.Path.{◌≡◌}
use mathlib.Core.List.{flat_map}
use lib.Seq.{sets}
use Rattle.grants_file.specs.Layout.{records_place}
use Rattle.grants_file.specs.Record.{encode_record}
use Rattle.file_calls.proofs.WriteFileLaws.{grants_to}
use Rattle.file_calls.proofs.write_file.write_records.Given as goal

abbrev pub invariant-loop-i : goal.invariant-loop-i
invariant-loop-i l = l.block ≡ sets l.initial.block records_place (flat_map encode_record (grants_to l.pool l.cells l.i))
