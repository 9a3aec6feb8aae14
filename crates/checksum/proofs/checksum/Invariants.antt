-- `checksum` meets its contract. The invariant: the sum, gone on with by the bytes that are left, is the check. In `sum_of_chunk-sum-requires` the
-- test of the table is computed, over all entries of the code's constant. Assumes nothing.
use Prim.Native.Nat.{◌%◌, ◌<◌}
use mathlib.Core.Path.{◌≡◌}
use Rattle.std.specs.Slice.Iter.{chunks_rest, chunks_size}
use Rattle.checksum.specs.Checksum.{modulus, base256, checksum}
use Rattle.checksum.specs.PowerTable.{entries}
use Rattle.checksum.proofs.checksum.Given as goal

abbrev pub invariant-loop-chunk : goal.invariant-loop-chunk
invariant-loop-chunk l =
    (chunks_size l.chunk-iterator ≡ entries) × (l.sum < modulus) × (base256 l.sum (chunks_rest l.chunk-iterator) % modulus ≡ checksum l.bytes)
