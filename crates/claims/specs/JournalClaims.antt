-- The claims of journals, as types: a journal brings an index back to what its calls made of it (document 01, "The plain book"; demand 3).
-- Nothing is assumed but what each type names before its arrow.
--   Replayed c memory lines    of one index and one journal
--   JournalsReplay             on every fresh index of c cells, c from 1 to 2,048, whatever its memory held, every list of lines
--   JournalsRespond               where every line is a grant or a revoke slip, the lines come to the responses to the list of their calls
-- A line is any list of numbers, so any bytes; the contract of `replay_line` says that the code makes a line's `journal_step` with `words_step`.
use Rattle.std.specs.Prelude.{ℕ, ◌≡◌}
use mathlib.Core.List.{List, map, Memᴰ}
use Rattle.model.specs.Call.{Call}
use Rattle.model.specs.Book.{empty_book, book_step}
use Rattle.model.specs.Histories.{Response, responses, after}
use Rattle.pool.specs.Capacity.{Sized}
use Rattle.calls.specs.Calls.{start_call, words_step}
use Rattle.claims.specs.Claims.{words_after, KeepsBook}
use Rattle.slip_session.specs.Meaning.{makes, line_meaning, calls_in}
use Rattle.slip_session.specs.JournalStep.{LineResult, made, line_results, replayed}

pub record Replayed (c : ℕ) (memory : List ℕ) (lines : List (List ℕ)) : Type 0 where
  -- line by line the answers are those of the plain book, to refused slips too
  pub answers : line_results words_step (start_call memory).state lines ≡ line_results book_step (empty_book c) lines
  -- the pool, and the book, are those that the list of the journal's calls leaves
  pub words : replayed words_step (start_call memory).state lines ≡ words_after memory (calls_in lines)
  pub book : replayed book_step (empty_book c) lines ≡ after book_step (empty_book c) (calls_in lines)
  -- of that list demand 3 holds: the pool's tree, the files written from it, and what they load
  pub keeps : KeepsBook c memory (calls_in lines)

unfoldable pub JournalsReplay : Type 0
JournalsReplay = (c : ℕ) (memory : List ℕ) (lines : List (List ℕ)) → Sized memory c → Replayed c memory lines

-- each line is a grant or a revoke slip
abbrev pub AllCalls : List (List ℕ) → Type 0
AllCalls lines = (line : List ℕ) → Memᴰ line lines → (call : Call) × (line_meaning line ≡ makes call)

abbrev pub response_result : Response → LineResult
response_result t = made t.answer

unfoldable pub JournalsRespond : Type 0
JournalsRespond =
    (w : List ℕ) (lines : List (List ℕ)) → AllCalls lines → line_results words_step w lines ≡ map response_result (responses words_step w (calls_in lines))
