-- From a line to its question, step by step (specs/Question).
--   plain_who, plain_may, plain_covers    what a line asks that begins with a word and has no day and time
--   plain_alone       what one asks that begins with none
--   timed_who, timed_may, timed_other     what the front of a line with a day and time asks
--   span_covers, span_other               what the front of a line with two asks
--   timed_length      a line that ends in a day and time is as long as one, with its blank
-- Assumes nothing.
use Prim.Native.Nat.{ℕ, ◌-◌, ◌≤◌}
use mathlib.Core.Path.{◌≡◌}
use mathlib.Core.Bool.{Bool, true, false, cond, ◌&&◌, and-eq-true_iff}
use mathlib.Core.List.{List, [], ◌∷◌}
use Rattle.std.proofs.Common.{Option, None, Some}
use borrow.Author.Tests.{leb-true}
use lib.Dec.{leb, eqb}
use lib.ListN.{length, get_or, drop}
use Rattle.lists.specs.Tests.{same_numbers}
use Rattle.text.specs.declared.Width.TheVariants.{Word}
use Rattle.text.specs.Ascii.{ascii, blank}
use Rattle.text.specs.Fields.{fields}
use Rattle.text.specs.Numbers.{numbers}
use Rattle.question.specs.declared.Question.TheVariants as question
use Rattle.question.specs.Word.{begins}
use Rattle.question.specs.Question.{has_marks, timed, ending, question_by, who_of, may_of, covers_of, who_at, may_at, covers_at}
use Rattle.question.specs.Question.{plain_question, timed_question, span_question}

module _ (bs : List ℕ) (o : Option (List ℕ)) where
  pub plain_who : begins (ascii "who ") bs ≡ true → o ≡ numbers (Word ∷ Word ∷ []) (fields (drop 4 bs)) → question_by who_of o ≡ plain_question bs
  unfolding plain_question
  plain_who w e = rw (w, e)

  pub plain_may : begins (ascii "who ") bs ≡ false → begins (ascii "may ") bs ≡ true
      → o ≡ numbers (Word ∷ Word ∷ Word ∷ []) (fields (drop 4 bs)) → question_by may_of o ≡ plain_question bs
  unfolding plain_question
  plain_may w m e = rw (w, m, e)

  pub plain_covers : begins (ascii "who ") bs ≡ false → begins (ascii "may ") bs ≡ false → begins (ascii "covers ") bs ≡ true
      → o ≡ numbers (Word ∷ Word ∷ Word ∷ Word ∷ []) (fields (drop 7 bs)) → question_by covers_of o ≡ plain_question bs
  unfolding plain_question
  plain_covers w m c e = rw (w, m, c, e)

  pub timed_who : (q : ℕ) → begins (ascii "who ") bs ≡ true → o ≡ numbers (Word ∷ []) (fields (drop 4 bs)) → question_by (who_at q) o ≡ timed_question q bs
  unfolding timed_question
  timed_who q w e = rw (w, e)

  pub timed_may : (q : ℕ) → begins (ascii "who ") bs ≡ false → begins (ascii "may ") bs ≡ true
      → o ≡ numbers (Word ∷ Word ∷ []) (fields (drop 4 bs)) → question_by (may_at q) o ≡ timed_question q bs
  unfolding timed_question
  timed_may q w m e = rw (w, m, e)

  pub span_covers : (from to : ℕ) → begins (ascii "covers ") bs ≡ true
      → o ≡ numbers (Word ∷ Word ∷ []) (fields (drop 7 bs)) → question_by (covers_at from to) o ≡ span_question from to bs
  unfolding span_question
  span_covers from to c e = rw (c, e)

module _ (bs : List ℕ) where
  pub plain_alone : begins (ascii "who ") bs ≡ false → begins (ascii "may ") bs ≡ false → begins (ascii "covers ") bs ≡ false
      → {e h q : Bool} → same_numbers bs [] ≡ e → same_numbers bs (ascii "help") ≡ h → same_numbers bs (ascii "quit") ≡ q
      → cond e (Some question.More) (cond h (Some question.Help) (cond q (Some question.Quit) None)) ≡ plain_question bs
  unfolding plain_question
  plain_alone w m c e h q = rw (w, m, c, e, h, q)

  pub timed_other : (q : ℕ) → begins (ascii "who ") bs ≡ false → begins (ascii "may ") bs ≡ false → None ≡ timed_question q bs
  unfolding timed_question
  timed_other q w m = rw (w, m)

  pub span_other : (from to : ℕ) → begins (ascii "covers ") bs ≡ false → None ≡ span_question from to bs
  unfolding span_question
  span_other from to c = rw c

pub timed_length : (bs : List ℕ) → timed bs ≡ true → 17 ≤ length bs
unfolding timed
timed_length bs e =
    let a = leb 17 (length bs) in
    let b = eqb (get_or bs (length bs - 17) 0) blank in
    leb-true 17 (length bs) ((and-eq-true_iff a b).0 ((and-eq-true_iff (a && b) (has_marks (ending bs))).0 e).0).0
