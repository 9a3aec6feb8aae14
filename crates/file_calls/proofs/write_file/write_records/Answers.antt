use borrow.Author.Rules.{rules}
use mathlib.Core.Path.{◌≡◌}
use native.Mathlib.Omega.{arith}
use lib.ListN.{get_or}
use Rattle.file_calls.proofs.WriteFileLaws.{records_none, records_more}
use Rattle.file_calls.proofs.write_file.write_records.Goals as goal

pub loop-i-init : goal.loop-i-init
loop-i-init c = records_none c.args.pool.now c.args.cells.now _

pub loop-i-preserved : goal.loop-i-preserved
loop-i-preserved c =
    let cell : c.from.result ≡ get_or c.args.cells.now c.loop-i.i 0 = search rules in
    records_more c.args.pool.now c.args.cells.now _ c.loop-i.i (omega arith) cell c.loop-i.invariant c.write_record.ensures
