-- `note::put_note_from` meets its contract: piece by piece. Assumes nothing.
use Rattle.std.proofs.Common.{◌∙◌, append_assoc}
use Rattle.calendar.proofs.note.put_note_from.Goals as goal

pub returns-clause-items : goal.returns-clause-items
returns-clause-items g c = c.put_byte.ensures.items ∙ simp (c.put_moment.ensures.items, c.put_text.ensures.items, append_assoc)
