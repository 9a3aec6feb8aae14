-- `columns::put_blanks` meets its contract. The invariant: as many blanks are put as turns are past. Assumes nothing.
use Rattle.std.proofs.Common.{◌≡◌, ◌++◌, ◌+◌}
use Rattle.arrayvec.specs.ArrayVec.{array_vec_len}
use Rattle.text.specs.Columns.{blanks}
use Rattle.text.proofs.columns.put_blanks.Given as goal

abbrev pub invariant-loop : goal.invariant-loop
invariant-loop g l = (l.line.items ≡ l.fn.line.items ++ blanks l.counter) × (array_vec_len l.line ≡ array_vec_len l.fn.line + l.counter)
