-- `power` meets its contract. Assumes nothing.
use mathlib.Core.Path.{◌∙◌}
use native.Mathlib.Omega.{arith}
use Rattle.checksum.proofs.PowerTableLaws.{table_powers, last_power}
use Rattle.checksum.proofs.power.Goals as goal

pub returns-then-exponent-lt-ENTRIES : goal.returns-then-exponent-lt-ENTRIES
returns-then-exponent-lt-ENTRIES c =
    c.from.ensures ∙ table_powers c.args.powers.now c.args.exponent c.requires.0 (omega arith)

pub returns : goal.returns
returns c =
    rw c.from-2.ensures (last_power c.args.powers.now c.args.exponent c.requires.0 (omega arith) c.requires.1)
