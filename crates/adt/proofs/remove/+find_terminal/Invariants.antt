-- The levels below fall.
use Rattle.adt.proofs.remove.+find_terminal.Given as goal

abbrev pub decreases-find_terminal : goal.decreases-find_terminal
decreases-find_terminal l = l.below
