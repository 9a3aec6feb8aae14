-- `printing::put_items` meets its contract. The invariant: the numbers passed are put. Assumes nothing.
use Rattle.std.proofs.Common.{◌≡◌, ◌++◌, ◌+◌, ◌*◌, ◌≤◌}
use Rattle.arrayvec.specs.ArrayVec.{array_vec_len}
use lib.ListN.{take}
use Rattle.slip_session.specs.Text.{each_after_blank}
use Rattle.slip_session.proofs.printing.put_items.Given as goal

abbrev pub invariant-loop-n : goal.invariant-loop-n
invariant-loop-n g l =
    (l.line.items ≡ l.fn.line.items ++ each_after_blank (take l.n-index l.numbers))
    × (array_vec_len l.line ≤ array_vec_len l.fn.line + 6 * l.n-index)
