-- `sum_of_chunk` meets its contract. Assumes nothing.
use Prim.Native.Nat.{◌-◌, ◌/◌}
use native.Mathlib.Nat.{le_of_eq}
use lib.ListN.{length, drop, length-drop}
use lib.Seq.{take_all}
use Rattle.checksum.proofs.SumLaws.{chunk-sum}
use Rattle.checksum.proofs.sum_of_chunk.Goals as goal

pub returns : goal.returns
returns c =
    let bytes = c.args.bytes.now in
    let front = c.sum_of_products-front in
    let back = c.sum_of_products-back in
    let half = length bytes / 2 in
    rw (c.from.ensures, c.from-2.ensures)
    (chunk-sum bytes half c.args.before c.shifted.result front.result back.result c.shifted.ensures.0 front.ensures
    (rw (take_all (length bytes - half) (drop half bytes) (le_of_eq (length-drop half bytes))) at back.ensures))
