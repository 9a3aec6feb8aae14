-- Every call on words that stand for a plain book has the book's response, and leaves words that stand for what the book is then.
--   call_refines
-- Assumes nothing.
use Prim.Native.Nat.{ℕ}
use mathlib.Core.List.{List}
use Rattle.model.specs.Call.{Call, grant, revoke, list, decide, count}
use Rattle.model.specs.Values.{CallFits}
use Rattle.model.specs.Book.{Book, book_step}
use Rattle.model.proofs.Simulation.{Agrees}
use Rattle.calls.specs.Calls.{words_step}
use Rattle.calls.proofs.Represents.{Represents}
use Rattle.calls.proofs.QueryLaws.{list_refines, decide_refines, count_refines}
use Rattle.calls.proofs.GrantLaws.{grant_refines}
use Rattle.calls.proofs.RevokeLaws.{revoke_refines}

pub call_refines : (w : List ℕ) (b : Book) (c : Call) → CallFits c → Represents w b → Agrees Represents (words_step w c) (book_step b c)
unfolding words_step book_step
call_refines w b (grant r) fits h = grant_refines h r fits
call_refines w b (revoke n) fits h = revoke_refines h n
call_refines w b (list q choice lent) fits h = list_refines h q choice lent
call_refines w b (decide staff door quarter) fits h = decide_refines h staff door quarter
call_refines w b count fits h = count_refines h
