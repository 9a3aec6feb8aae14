-- `reading::read_field` meets its contract. The invariant: what is still to be read makes the same field of the digits so far as the whole does.
-- Assumes nothing.
use Prim.Native.Nat.{◌≤◌}
use mathlib.Core.Path.{◌≡◌}
use lib.ListN.{drop}
use Rattle.text.specs.Scan.{field_at}
use Rattle.text.proofs.FieldSteps.{field_going}
use Rattle.text.proofs.reading.read_field.Given as goal

abbrev pub invariant-loop-at : goal.invariant-loop-at
invariant-loop-at l = (l.value ≤ 65535) × (field_going l.w (drop l.at l.line) l.at l.value ≡ field_at l.w l.line l.from)
