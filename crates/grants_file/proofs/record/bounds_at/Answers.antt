-- `record::bounds_at` meets its contract, field by field. Assumes nothing.
use mathlib.Core.Path.{sym}
use Rattle.grants_file.proofs.RecordSteps.{bounds-at}
use Rattle.grants_file.proofs.record.bounds_at.Goals as goal

pub returns : goal.returns
returns c =
    let quarter-from = c in
    let door-to = quarter-from in
    let door-from = door-to in
    let staff-to = door-from in
    let staff-from = staff-to in
    let start = staff-from in
    rw (
      staff-from.be16_at.ensures,
      staff-to.be16_at-2.ensures,
      door-from.be16_at-3.ensures,
      door-to.be16_at-4.ensures,
      quarter-from.be16_at-5.ensures,
      c.be16_at-6.ensures,
    )
    (sym (bounds-at start.args.bytes.now start.args.at))
