-- `write_file::write_blocks` meets its contract. The invariant: the blocks before place i are written. Assumes nothing.
use Prim.Native.Nat.{◌<◌}
use mathlib.Core.Path.{◌≡◌}
use Rattle.lists.specs.Overwrite.{overwrite}
use Rattle.file_calls.proofs.WriteFileLaws.{front}
use Rattle.file_calls.proofs.write_file.write_blocks.Given as goal

abbrev pub invariant-loop-i : goal.invariant-loop-i
invariant-loop-i l = (0 < l.i) × (l.bytes ≡ overwrite (front l.pool l.cells l.initial.bytes l.i) l.initial.bytes)
