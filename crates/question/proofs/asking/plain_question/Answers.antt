-- `asking::plain_question` meets its contract. Assumes nothing.
use mathlib.Core.Path.{refl, sym, ◌∙◌}
use Rattle.text.specs.Ascii.{ascii}
use Rattle.question.proofs.WordLaws.{starts, empty_same, same_pointwise}
use Rattle.question.proofs.QuestionLaws.{plain_who, plain_may, plain_covers, plain_alone}
use Rattle.question.proofs.asking.plain_question.Goals as goal

pub returns-in_err-door : goal.returns-in_err-door
returns-in_err-door c =
    let word = c.in-Some.ensures.cases in
    c.from_residual.ensures ∙ plain_who _ _ (starts (ascii "who ") _ word.0) (rw word.1 at c.in_err-door.ensures)

pub returns-in-Some : goal.returns-in-Some
returns-in-Some c =
    let word = c.in-Some.ensures.cases in
    plain_who _ _ (starts (ascii "who ") _ word.0) (rw word.1 at c.in_ok-door.ensures)

pub returns-in_err-staff : goal.returns-in_err-staff
returns-in_err-staff c =
    let word = c.in-Some-strip_prefix.ensures.cases in
    c.from_residual-in_err-staff.ensures
    ∙ plain_may _ _ (starts (ascii "who ") _ c.in_default.ensures.cases) (starts (ascii "may ") _ word.0) (rw word.1 at c.in_err-staff.ensures)

pub returns-in-Some-strip_prefix : goal.returns-in-Some-strip_prefix
returns-in-Some-strip_prefix c =
    let word = c.in-Some-strip_prefix.ensures.cases in
    plain_may _ _ (starts (ascii "who ") _ c.in_default.ensures.cases) (starts (ascii "may ") _ word.0) (rw word.1 at c.in_ok-staff.ensures)

pub returns-in_err-staff-2 : goal.returns-in_err-staff-2
returns-in_err-staff-2 c =
    let word = c.in-Some-strip_prefix-2.ensures.cases in
    c.from_residual-in_err-staff-2.ensures
    ∙ plain_covers _ _ (starts (ascii "who ") _ c.in_default.ensures.cases) (starts (ascii "may ") _ c.in_default-strip_prefix.ensures.cases)
    (starts (ascii "covers ") _ word.0) (rw word.1 at c.in_err-staff-2.ensures)

pub returns-in-Some-strip_prefix-2 : goal.returns-in-Some-strip_prefix-2
returns-in-Some-strip_prefix-2 c =
    let word = c.in-Some-strip_prefix-2.ensures.cases in
    plain_covers _ _ (starts (ascii "who ") _ c.in_default.ensures.cases) (starts (ascii "may ") _ c.in_default-strip_prefix.ensures.cases)
    (starts (ascii "covers ") _ word.0) (rw word.1 at c.in_ok-staff-2.ensures)

pub returns-then-is_empty : goal.returns-then-is_empty
returns-then-is_empty c =
    let empty = empty_same c.args.line.now ∙ sym c.if-is_empty.ensures in
    plain_alone _ (starts (ascii "who ") _ c.in_default.ensures.cases) (starts (ascii "may ") _ c.in_default-strip_prefix.ensures.cases)
    (starts (ascii "covers ") _ c.in_default-strip_prefix-2.ensures.cases)
    empty refl refl

pub returns-then-eq : goal.returns-then-eq
returns-then-eq c =
    let empty = empty_same c.args.line.now ∙ sym c.if-is_empty.ensures in
    let help = same_pointwise c.args.line.now (ascii "help") ∙ sym (rw c.as_slice.ensures at c.if-eq.ensures) in
    plain_alone _ (starts (ascii "who ") _ c.in_default.ensures.cases) (starts (ascii "may ") _ c.in_default-strip_prefix.ensures.cases)
    (starts (ascii "covers ") _ c.in_default-strip_prefix-2.ensures.cases)
    empty help refl

pub returns-then-eq-2 : goal.returns-then-eq-2
returns-then-eq-2 c =
    let empty = empty_same c.args.line.now ∙ sym c.if-is_empty.ensures in
    let help = same_pointwise c.args.line.now (ascii "help") ∙ sym (rw c.as_slice.ensures at c.if-eq.ensures) in
    let quit = same_pointwise c.args.line.now (ascii "quit") ∙ sym (rw c.as_slice-2.ensures at c.if-eq-2.ensures) in
    plain_alone _ (starts (ascii "who ") _ c.in_default.ensures.cases) (starts (ascii "may ") _ c.in_default-strip_prefix.ensures.cases)
    (starts (ascii "covers ") _ c.in_default-strip_prefix-2.ensures.cases)
    empty help quit

pub returns : goal.returns
returns c =
    let empty = empty_same c.args.line.now ∙ sym c.if-is_empty.ensures in
    let help = same_pointwise c.args.line.now (ascii "help") ∙ sym (rw c.as_slice.ensures at c.if-eq.ensures) in
    let quit = same_pointwise c.args.line.now (ascii "quit") ∙ sym (rw c.as_slice-2.ensures at c.if-eq-2.ensures) in
    plain_alone _ (starts (ascii "who ") _ c.in_default.ensures.cases) (starts (ascii "may ") _ c.in_default-strip_prefix.ensures.cases)
    (starts (ascii "covers ") _ c.in_default-strip_prefix-2.ensures.cases)
    empty help quit
