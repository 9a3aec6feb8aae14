-- `ancestors::ancestor_from` meets its contract. The loop's invariant: from where it has come, the steps that are left lead where all of them
-- lead from the start, and each parent on the way is a cell of the pool. Assumes nothing.
use Rattle.std.proofs.Common.{◌≡◌, ◌-◌}
use Rattle.grant_path.specs.GrantPath.{ancestor_from, ParentWalk}
use Rattle.grant_path.proofs.ancestors.ancestor_from.Given as goal

abbrev pub invariant-loop : goal.invariant-loop
invariant-loop l =
    ParentWalk l.pool l.at (l.level - l.counter)
    × (ancestor_from l.pool l.at (l.level - l.counter) (l.steps - l.counter) ≡ ancestor_from l.pool l.cell l.level l.steps)
