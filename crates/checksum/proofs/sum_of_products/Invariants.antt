-- `sum_of_products` meets its contract. The invariant: the sum is that of the bytes passed, with the others behind them. Assumes nothing.
use Prim.Native.Nat.{◌+◌, ◌*◌, ◌^◌, ◌-◌, ◌%◌, ◌≤◌}
use mathlib.Core.Path.{◌≡◌}
use lib.ListN.{length, take}
use Rattle.checksum.specs.Checksum.{modulus, base256}
use Rattle.checksum.specs.PowerTable.{most_product}
use Rattle.checksum.proofs.sum_of_products.Given as goal

abbrev pub invariant-loop-at : goal.invariant-loop-at
invariant-loop-at l =
    (l.sum ≤ l.at * most_product)
    × (l.sum % modulus ≡ base256 0 (take l.at l.bytes) * 256 ^ (length l.bytes + l.behind - l.at) % modulus)
