-- The claim of the slip program, as a type: to the last byte, lines print what the plain book answers to them (document 01, "Marked cases"
-- and "The plain book"). Nothing is assumed but what the type names before its arrow.
--   SlipsPrint    on every fresh index of c cells, c from 1 to 2,048, whatever its memory held, with every lent list, every list of lines,
--                 good and bad, prints what the empty book of c prints
--   SlipsTouch    a slip's L stands for list under touching; `session_text` goes by it, for the words and for the book
-- A line is any list of numbers, so any bytes; the contract of `answer` says that the code prints a line's `line_step` with `words_step`.
use Rattle.std.specs.Prelude.{ℕ, ◌≡◌, List, Some}
use Rattle.model.specs.declared.Box.{Box}
use Rattle.model.specs.declared.Choice.TheVariants.{Touching}
use Rattle.model.specs.Call.{list}
use Rattle.model.specs.Book.{empty_book, book_step}
use Rattle.pool.specs.Capacity.{Sized}
use Rattle.calls.specs.Calls.{start_call, words_step}
use Rattle.slip_session.specs.declared.Slip.TheVariants as slip
use Rattle.slip_session.specs.SlipCall.{call_of}
use Rattle.slip_session.specs.LineStep.{session_text}

unfoldable pub SlipsPrint : Type 0
SlipsPrint =
    (c : ℕ) (memory lent : List ℕ) (lines : List (List ℕ)) → Sized memory c
    → session_text words_step (start_call memory).state lent lines ≡ session_text book_step (empty_book c) lent lines

unfoldable pub SlipsTouch : Type 0
SlipsTouch = (bounds : Box) (lent : List ℕ) → call_of (Some (slip.List bounds)) lent ≡ Some (list bounds Touching lent)
