-- `write_block::clear_padding` meets its contract. Assumes nothing.
use Prim.Native.Nat.{◌-◌}
use mathlib.Core.Path.{◌≡◌}
use native.Mathlib.Omega.{arith}
use lib.ListN.{length, take, drop, replicate, length-replicate, length-take, length-drop}
use Rattle.grants_file.specs.Layout.{checksum_place}
use Rattle.grants_file.proofs.WriteBlockSteps.{put_sets}
use Rattle.grants_file.proofs.write_block.clear_padding.Goals as goal

pub returns : goal.returns
returns c =
    let n = checksum_place - c.args.start in
    let size : length (take n (drop c.args.start c.args.block.now)) ≡ n = simp (length-take, length-drop) (omega arith) in
    rw (c.fill.ensures.after (λ y e. e), size) (put_sets c.args.start n c.args.block.now (replicate n 0) (length-replicate n 0) (omega arith))
