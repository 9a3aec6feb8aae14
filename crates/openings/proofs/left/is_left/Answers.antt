-- `left::is_left` meets its contract. Assumes nothing.
use native.Mathlib.Omega.{arith}
use Rattle.openings.proofs.LeftLaws.{is_left_entry}
use Rattle.openings.proofs.left.is_left.Goals as goal

pub returns : goal.returns
returns c =
    rw (c.count_among-2.ensures, c.count_among.ensures, c.entries_in.ensures, c.entry_at-entry.ensures)
    (is_left_entry c.args.bytes.now c.args.other.now c.args.place (omega arith))
