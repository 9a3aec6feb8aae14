-- `moment::put_moment` meets its contract: piece by piece. Assumes nothing.
use Rattle.std.proofs.Common.{◌∙◌, append_assoc}
use Rattle.calendar.proofs.moment.put_moment.Goals as goal

pub returns-clause-items : goal.returns-clause-items
returns-clause-items g c =
    c.put_time.ensures.items ∙ simp (c.put_byte.ensures.items, c.put_date.ensures.items, c.date_after.ensures, c.day_of.ensures, append_assoc)
