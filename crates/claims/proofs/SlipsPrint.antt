-- The claim of the slip program (specs/SlipClaims), from the response to each call. Assumes nothing.
--   slips_print, slips_touch
use mathlib.Core.Path.{refl}
use Rattle.model.specs.Book.{empty_book, book_step}
use Rattle.calls.specs.Calls.{start_call, words_step}
use Rattle.calls.proofs.Represents.{Represents}
use Rattle.calls.proofs.StartLaws.{start_refines}
use Rattle.calls.proofs.CallLaws.{call_refines}
use Rattle.claims.specs.SlipClaims.{SlipsPrint, SlipsTouch}
use Rattle.slip_session.proofs.SessionLaws.{session_refines}

pub slips_print : SlipsPrint
unfolding SlipsPrint
slips_print c memory lent lines sized =
    session_refines words_step book_step Represents call_refines (start_call memory).state (empty_book c) lent lines (start_refines memory sized).1

pub slips_touch : SlipsTouch
unfolding SlipsTouch
slips_touch bounds lent = refl
