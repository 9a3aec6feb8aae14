-- `asking::span_question` meets its contract. Assumes nothing.
use mathlib.Core.Path.{◌∙◌}
use Rattle.text.specs.Ascii.{ascii}
use Rattle.question.proofs.WordLaws.{starts}
use Rattle.question.proofs.QuestionLaws.{span_covers, span_other}
use Rattle.question.proofs.asking.span_question.Goals as goal

pub returns-in_err-rest : goal.returns-in_err-rest
returns-in_err-rest c =
    c.from_residual.ensures ∙ span_other _ _ _ (starts (ascii "covers ") _ c.in_err-rest.ensures.cases)

pub returns-in_err-staff : goal.returns-in_err-staff
returns-in_err-staff c =
    let word = c.in_ok-rest.ensures.cases in
    c.from_residual-in_err-staff.ensures ∙ span_covers _ _ _ _ (starts (ascii "covers ") _ word.0) (rw word.1 at c.in_err-staff.ensures)

pub returns : goal.returns
returns c =
    let word = c.in_ok-rest.ensures.cases in
    span_covers _ _ _ _ (starts (ascii "covers ") _ word.0) (rw word.1 at c.in_ok-staff.ensures)
