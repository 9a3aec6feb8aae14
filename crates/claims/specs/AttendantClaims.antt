-- What the attendant reads (document 01, "The plain book": decide): the panel's answer to `may` is the text of the plain book's decision.
--   book_decision gs staff door quarter    what the book of the live grants gs decides; book_decide gives it in document 01's numbers
--   ShowsDecision w gs     whatever result has decide's answer on the words w, its text is that of the book's decision, for any base day
--   AttendantClaim         so it is on every pool that start, or load of an accepted file, and any calls after it made
-- That a result has decide's answer is the contract of `decide` (queries/src/decide); that the panel shows its text is that of `may_text`
-- (may_answer/src/printing). Assumes nothing: these are definitions.
use Rattle.std.specs.Prelude.{ℕ, ◌≡◌, List, Option, Result, Ok}
use Rattle.model.specs.declared.Grant.{Grant}
use Rattle.model.specs.declared.Decision.{Decision}
use Rattle.model.specs.declared.Fault.{Fault}
use Rattle.model.specs.Box.{point_box}
use Rattle.model.specs.Answer.{decision_answer}
use Rattle.model.specs.Decide.{decide_among}
use Rattle.model.specs.Book.{overlapping}
use Rattle.calls.specs.Calls.{decide_call}
use Rattle.calendar.specs.declared.Date.{Date}
use Rattle.may_answer.specs.MayText.{may_text}
use Rattle.claims.specs.Made.{Made}

abbrev pub book_decision : List Grant → ℕ → ℕ → ℕ → Decision
book_decision gs staff door quarter = decide_among (overlapping (point_box staff door quarter) gs)

abbrev pub ShowsDecision : List ℕ → List Grant → Type 0
ShowsDecision w gs =
    (staff door quarter : ℕ) (base : Option Date) (r : Result Decision Fault) → decision_answer r ≡ (decide_call w staff door quarter).answer
    → may_text staff door quarter base r ≡ may_text staff door quarter base (Ok (book_decision gs staff door quarter))

unfoldable pub AttendantClaim : Type 0
AttendantClaim = (c : ℕ) (w : List ℕ) (gs : List Grant) → Made c w gs → ShowsDecision w gs
