-- `asking::words` meets its contract. Assumes nothing.
use Rattle.question.proofs.NumberLaws.{fields_from_start}
use Rattle.question.proofs.asking.words.Goals as goal

pub returns : goal.returns
returns g c = rw (← fields_from_start c.args.text.now) c.read_numbers.ensures
