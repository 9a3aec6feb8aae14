-- `shifted` meets its contract. Assumes nothing.
use Prim.Native.Nat.{◌^◌}
use Rattle.checksum.proofs.ChecksumLaws.{mul_mod}
use Rattle.checksum.proofs.SumLaws.{shift_lt}
use Rattle.checksum.proofs.shifted.Goals as goal

pub returns : goal.returns
returns c = (
  rw c.power.ensures (mul_mod c.args.remainder (256 ^ c.args.places)),
  shift_lt c.args.remainder c.power.result c.args.places c.requires.reduced c.power.ensures,
)
