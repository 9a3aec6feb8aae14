-- Twice the levels remaining, and for `visit` one more: it enters its subtrees with as many, and `enter` visits with one less.
use Rattle.std.proofs.Common.{◌+◌, ◌*◌}
use Rattle.adt.proofs.search.+enter_visit.Given as goal

abbrev pub decreases-enter : goal.decreases-enter
decreases-enter l = 2 * l.below

abbrev pub decreases-visit : goal.decreases-visit
decreases-visit l = 2 * l.below + 1
