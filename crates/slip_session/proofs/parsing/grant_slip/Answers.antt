-- `parsing::grant_slip` meets its contract: a rank and a kind are bytes. Assumes nothing.
use mathlib.Core.Path.{sym}
use lib.Dec.{lit<}
use Rattle.text.specs.declared.Width.TheVariants.{Byte}
use Rattle.slip_session.specs.Slip.{grant_widths}
use Rattle.slip_session.proofs.SlipLaws.{numbers_fit}
use Rattle.slip_session.proofs.parsing.grant_slip.Goals as goal

pub overflow_cast-result : goal.overflow_cast-result
overflow_cast-result c = record { fits = numbers_fit grant_widths _ c.in_ok-number.field-0 1 Byte (sym c.in_ok-number.ensures) (lit< tt) }

pub overflow_cast-result-2 : goal.overflow_cast-result-2
overflow_cast-result-2 c = record { fits = numbers_fit grant_widths _ c.in_ok-number.field-0 2 Byte (sym c.in_ok-number.ensures) (lit< tt) }
