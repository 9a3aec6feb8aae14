-- `columns::put_columns` meets its contract. The invariant: the numbers passed are put. Assumes nothing.
use Rattle.std.proofs.Common.{◌≡◌, ◌++◌, ◌+◌, ◌*◌}
use Rattle.arrayvec.specs.ArrayVec.{array_vec_len}
use lib.ListN.{take}
use Rattle.text.specs.Columns.{column_bytes, columns}
use Rattle.text.proofs.columns.put_columns.Given as goal

abbrev pub invariant-loop-n : goal.invariant-loop-n
invariant-loop-n g l =
    (l.line.items ≡ l.fn.line.items ++ columns (take l.n-index l.values))
    × (array_vec_len l.line ≡ array_vec_len l.fn.line + column_bytes * l.n-index)
