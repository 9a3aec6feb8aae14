-- `list::copy_numbers` meets its contract. The invariant: the first i numbers are copied. Assumes nothing.
use Rattle.std.proofs.Common.{◌≡◌, length, take}
use Rattle.steps.specs.Hits.{numbers_at}
use Rattle.queries.proofs.list.copy_numbers.Given as goal

abbrev pub invariant-loop-i : goal.invariant-loop-i
invariant-loop-i l = (length l.list ≡ length l.hits) × (take l.i l.list ≡ numbers_at l.pool (take l.i l.hits))
