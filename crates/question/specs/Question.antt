-- What an attendant's line asks.
--   `who DOOR QUARTER`, `may STAFF DOOR QUARTER`, `covers STAFF DOOR FROM TO`, in numbers with one blank between them; a day and time,
--   `YYYY-MM-DD HH:MM`, may stand for QUARTER, and two for FROM and TO: FROM is then rounded down to a quarter and TO up, so that the quarters
--   from FROM to before TO cover every minute that was asked about; an empty line, `help`, `quit`.
--   ending bs                 the last sixteen bytes of a line
--   has_marks bs               the dashes and the colon of a day and time are in their places
--   timed bs                  the line ends in a blank and what has the form of a day and time
--   front bs                  such a line without the blank and the day and time
--   after_word ws bs           the fields after a word and its blank
--   who_of, may_of, covers_of    the question of a word's values, with the quarters among them
--   who_at, may_at, covers_at    the same, with the quarters known
--   plain_question bs          what a line asks that gives its quarters as numbers, or none
--   timed_question q bs        what the front of a line asks whose day and time are in the quarter q
--   span_question from to bs   what the front of a line asks whose two days and times are the quarters from and to
--   dated_question d bs        what a line with a day and time asks, or with two, for a base day
--   question_of base bs        what a line asks; NotUnderstood for a line of any other form, one with a quarter's number and a day and time, and one of more
--                             than `line_bytes`; NoBase for a line that ends in a day and time where no base day is known
-- Assumes nothing: these are definitions.
use Rattle.std.specs.Prelude.{ℕ, ◌-◌, Bool, cond, ◌&&◌, List, [], ◌∷◌, eqb, leb, length, get_or, take, drop, Option, None, Some, Result, Err, ok_or}
use Rattle.lists.specs.Tests.{same_numbers}
use Rattle.text.specs.declared.Width.TheVariants.{Word}
use Rattle.text.specs.Ascii.{ascii, blank}
use Rattle.text.specs.Fields.{fields}
use Rattle.text.specs.Numbers.{numbers}
use Rattle.calendar.specs.Moment.{dash, colon, moment_bytes}
use Rattle.calendar.specs.declared.Date.{Date}
use Rattle.question.specs.declared.Rounding.TheVariants as rounding
use Rattle.question.specs.declared.Question.{Question}
use Rattle.question.specs.declared.Question.TheVariants as question
use Rattle.question.specs.declared.NoQuestion.{NoQuestion}
use Rattle.question.specs.declared.NoQuestion.TheVariants.{NoBase, NotUnderstood}
use Rattle.question.specs.Day.{part}
use Rattle.question.specs.Quarter.{quarter_of}
use Rattle.question.specs.Word.{begins}

-- how long a line may be
abbrev pub line_bytes : ℕ
line_bytes = 4096

abbrev pub ending : List ℕ → List ℕ
ending bs = part (length bs - moment_bytes) moment_bytes bs

unfoldable pub has_marks : List ℕ → Bool
has_marks bs = eqb (get_or bs 4 0) dash && eqb (get_or bs 7 0) dash && eqb (get_or bs 13 0) colon

unfoldable pub timed : List ℕ → Bool
timed bs = leb 17 (length bs) && eqb (get_or bs (length bs - 17) 0) blank && has_marks (ending bs)

abbrev pub front : List ℕ → List ℕ
front bs = take (length bs - 17) bs

abbrev pub after_word : List ℕ → List ℕ → List (List ℕ)
after_word ws bs = fields (drop (length ws) bs)

-- a question of the values, None where there are none
abbrev pub question_by : (List ℕ → Question) → Option (List ℕ) → Option Question
question_by ask None = None
question_by ask (Some vs) = Some (ask vs)

abbrev pub who_of : List ℕ → Question
who_of vs = question.Who (get_or vs 0 0) (get_or vs 1 0)

abbrev pub may_of : List ℕ → Question
may_of vs = question.May (get_or vs 0 0) (get_or vs 1 0) (get_or vs 2 0)

abbrev pub covers_of : List ℕ → Question
covers_of vs = question.Covers (get_or vs 0 0) (get_or vs 1 0) (get_or vs 2 0) (get_or vs 3 0)

-- the same where the quarter is known, or the two
abbrev pub who_at : ℕ → List ℕ → Question
who_at q vs = question.Who (get_or vs 0 0) q

abbrev pub may_at : ℕ → List ℕ → Question
may_at q vs = question.May (get_or vs 0 0) (get_or vs 1 0) q

abbrev pub covers_at : ℕ → ℕ → List ℕ → Question
covers_at from to vs = question.Covers (get_or vs 0 0) (get_or vs 1 0) from to

unfoldable pub plain_question : List ℕ → Option Question
plain_question bs =
    cond (begins (ascii "who ") bs) (question_by who_of (numbers (Word ∷ Word ∷ []) (after_word (ascii "who ") bs)))
    (cond (begins (ascii "may ") bs) (question_by may_of (numbers (Word ∷ Word ∷ Word ∷ []) (after_word (ascii "may ") bs)))
    (cond (begins (ascii "covers ") bs) (question_by covers_of (numbers (Word ∷ Word ∷ Word ∷ Word ∷ []) (after_word (ascii "covers ") bs)))
    (cond (same_numbers bs []) (Some question.More)
    (cond (same_numbers bs (ascii "help")) (Some question.Help)
    (cond (same_numbers bs (ascii "quit")) (Some question.Quit) None)))))

unfoldable pub timed_question : ℕ → List ℕ → Option Question
timed_question q bs =
    cond (begins (ascii "who ") bs) (question_by (who_at q) (numbers (Word ∷ []) (after_word (ascii "who ") bs)))
    (cond (begins (ascii "may ") bs) (question_by (may_at q) (numbers (Word ∷ Word ∷ []) (after_word (ascii "may ") bs))) None)

-- what the front of a line asks, by the quarter of its day and time
abbrev pub quarter_question : Option ℕ → List ℕ → Option Question
quarter_question (Some q) bs = timed_question q bs
quarter_question None bs = None

unfoldable pub span_question : ℕ → ℕ → List ℕ → Option Question
span_question from to bs =
    cond (begins (ascii "covers ") bs) (question_by (covers_at from to) (numbers (Word ∷ Word ∷ []) (after_word (ascii "covers ") bs))) None

-- what the front of a line asks, by the quarters of its two days and times
abbrev pub quarters_question : Option ℕ → Option ℕ → List ℕ → Option Question
quarters_question (Some from) (Some to) bs = span_question from to bs
quarters_question (Some from) None bs = None
quarters_question None to bs = None

unfoldable pub dated_question : Date → List ℕ → Option Question
dated_question d bs =
    cond (timed (front bs)) (quarters_question (quarter_of rounding.Down d (ending (front bs))) (quarter_of rounding.Up d (ending bs)) (front (front bs)))
    (quarter_question (quarter_of rounding.Down d (ending bs)) (front bs))

-- the same, where the base day may not be known
abbrev pub ended_question : Option Date → List ℕ → Result Question NoQuestion
ended_question None bs = Err NoBase
ended_question (Some d) bs = ok_or (dated_question d bs) NotUnderstood

unfoldable pub question_of : Option Date → List ℕ → Result Question NoQuestion
question_of base bs =
    cond (leb (length bs) line_bytes) (cond (timed bs) (ended_question base bs) (ok_or (plain_question bs) NotUnderstood)) (Err NotUnderstood)
