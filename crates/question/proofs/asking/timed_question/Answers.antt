-- `asking::timed_question` meets its contract. Assumes nothing.
use mathlib.Core.Path.{◌∙◌}
use Rattle.text.specs.Ascii.{ascii}
use Rattle.question.proofs.WordLaws.{starts}
use Rattle.question.proofs.QuestionLaws.{timed_who, timed_may, timed_other}
use Rattle.question.proofs.asking.timed_question.Goals as goal

pub returns-in_err-door : goal.returns-in_err-door
returns-in_err-door c =
    let word = c.in-Some.ensures.cases in
    c.from_residual.ensures ∙ timed_who _ _ _ (starts (ascii "who ") _ word.0) (rw word.1 at c.in_err-door.ensures)

pub returns-in-Some : goal.returns-in-Some
returns-in-Some c =
    let word = c.in-Some.ensures.cases in
    timed_who _ _ _ (starts (ascii "who ") _ word.0) (rw word.1 at c.in_ok-door.ensures)

pub returns-in_err-rest : goal.returns-in_err-rest
returns-in_err-rest c =
    c.from_residual-in_err-rest.ensures
    ∙ timed_other _ _ (starts (ascii "who ") _ c.in_default.ensures.cases) (starts (ascii "may ") _ c.in_err-rest.ensures.cases)

pub returns-in_err-staff : goal.returns-in_err-staff
returns-in_err-staff c =
    let word = c.in_ok-rest.ensures.cases in
    c.from_residual-in_err-staff.ensures
    ∙ timed_may _ _ _ (starts (ascii "who ") _ c.in_default.ensures.cases) (starts (ascii "may ") _ word.0) (rw word.1 at c.in_err-staff.ensures)

pub returns : goal.returns
returns c =
    let word = c.in_ok-rest.ensures.cases in
    timed_may _ _ _ (starts (ascii "who ") _ c.in_default.ensures.cases) (starts (ascii "may ") _ word.0) (rw word.1 at c.in_ok-staff.ensures)
