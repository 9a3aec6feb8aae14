-- `put::push_digits` meets its contract. The measure is the number. Assumes nothing.
use Rattle.text.proofs.put.+push_digits.Given as goal

abbrev pub decreases-push_digits : goal.decreases-push_digits
decreases-push_digits l = l.n
