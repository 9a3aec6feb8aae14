-- `rows::put_times_from` meets its contract: piece by piece. Assumes nothing.
use Rattle.std.proofs.Common.{◌∙◌, append_assoc}
use Rattle.panel.proofs.rows.put_times_from.Goals as goal

pub returns-clause-items : goal.returns-clause-items
returns-clause-items g c =
    c.put_byte.ensures.items
    ∙ simp (
      c.put_moment-2.ensures.items,
      c.put_text-2.ensures.items,
      c.put_moment.ensures.items,
      c.put_text.ensures.items,
      c.from.ensures,
      c.from-2.ensures,
      append_assoc,
    )
