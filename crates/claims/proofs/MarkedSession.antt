-- Document 01's nine marked slips print its nine output lines ("Marked cases": C = 2048, list is lent 2048 numbers).
--   marked_session    by the plain book, computed
--   memory-met        the program's memory is of the size that the claim asks for
--   marked-printed    so by the program's calls, on any memory of that size
-- Assumes nothing.
use Prim.Native.Nat.{ℕ}
use Prim.Native.String.{String}
use mathlib.Core.Path.{◌≡◌, refl, ◌∙◌}
use mathlib.Core.List.{List, [], ◌∷◌, map}
use native.Mathlib.Omega.{arith}
use lib.ListN.{replicate, length-replicate}
use Rattle.lists.specs.Tests.{filter, every, any}
use Rattle.lists.specs.Sort.{insert_by}
use Rattle.lists.specs.Overwrite.{overwrite}
use Rattle.model.specs.Overlap.{overlaps}
use Rattle.model.specs.Relation.{holds_box, relation_of, takes}
use Rattle.model.specs.Arguments.{reversed_box}
use Rattle.model.specs.Decide.{outranks, deciding_of, decide_among}
use Rattle.model.specs.Refusal.{first_fault, refusing}
use Rattle.model.specs.Book.{empty_book, book_grant, book_revoke, book_list, book_decide, book_count, book_step}
use Rattle.pool.specs.Capacity.{Sized}
use Rattle.text.specs.Ascii.{ascii}
use Rattle.text.specs.Decimal.{is_number, value_after, decimal}
use Rattle.text.specs.Fields.{fields}
use Rattle.text.specs.Numeral.{numeral, digits_by}
use Rattle.slip_session.specs.Slip.{letter_slip, fields_slip, parse_line}
use Rattle.text.specs.Numbers.{numbers}
use Rattle.slip_session.specs.Text.{each_after_blank}
use Rattle.calls.specs.Calls.{start_call, words_step}
use Rattle.slip_session.specs.LineStep.{line_step, session_text}
use Rattle.claims.specs.SlipClaims.{SlipsPrint}
use Rattle.claims.proofs.SlipsPrint.{slips_print}

abbrev input : List String
input =
    "G 7 10 1 100 199 1 40 32 63"
    ∷ "G 3 20 0 150 150 12 12 0 65535"
    ∷ "G 7 1 1 0 0 0 0 0 1"
    ∷ "L 150 150 1 20 40 41"
    ∷ "D 150 12 40"
    ∷ "D 200 12 40"
    ∷ "R 3"
    ∷ "D 150 12 40"
    ∷ "C"
    ∷ []

abbrev output : String
output = "ok\nok\nrefused 5\nlist 2 3 7\nbarred 3\nnone\nok\nopens 7\ncount 1 2047\n"

abbrev lent : List ℕ
lent = replicate 2048 0

pub marked_session : session_text book_step (empty_book 2048) lent (map ascii input) ≡ ascii output
unfolding session_text line_step parse_line fields_slip letter_slip numbers fields decimal is_number value_after every
    book_step book_grant book_revoke book_list book_decide book_count refusing first_fault reversed_box overlaps holds_box relation_of takes insert_by filter
    any overwrite outranks deciding_of decide_among numeral digits_by each_after_blank
marked_session = refl

-- the program's memory, of zeros, is of that size
pub memory-met : Sized (replicate 22531 0) 2048
memory-met = record { some = omega arith; few = omega arith; long = length-replicate {A = ℕ} 22531 0 }

pub marked-printed : (memory : List ℕ) → Sized memory 2048 → session_text words_step (start_call memory).state lent (map ascii input) ≡ ascii output
unfolding SlipsPrint
marked-printed memory sized = slips_print 2048 memory lent (map ascii input) sized ∙ marked_session
