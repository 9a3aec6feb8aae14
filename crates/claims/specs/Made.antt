-- The pools that start or load and later calls made (document 01, "The walks of a call"), each with its live grants. They are built call by
-- call, and by nothing that is said of their words.
--   Memory c w      memory for a pool of c cells, c from 1 to 2,048, whatever it holds
--   Made c w gs     the words w are what start, or load of an accepted file, and any calls after it made of memory for c cells; gs are the
--                   grants that the plain book holds after the same
-- Assumes nothing: these are definitions.
use Rattle.std.specs.Prelude.{ℕ, ◌≡◌, List, []}
use Rattle.model.specs.declared.Grant.{Grant}
use Rattle.model.specs.Answer.{accepted}
use Rattle.model.specs.Call.{Call}
use Rattle.model.specs.Values.{byte_values, Below, CallFits}
use Rattle.model.specs.Book.{book_of, book_step}
use Rattle.pool.specs.Capacity.{Sized}
use Rattle.grants_file.specs.File.{grants_in}
use Rattle.calls.specs.Calls.{start_call, words_step}
use Rattle.calls.specs.FileCalls.{load_call}

abbrev pub Memory : ℕ → List ℕ → Type 0
Memory c w = Sized w c

pub data Made (c : ℕ) : List ℕ → List Grant → Type 0 where
  made-start : {memory : List ℕ} → Memory c memory → Made c (start_call memory).state []
  made-load : {memory f : List ℕ} → Memory c memory → Below byte_values f → (load_call memory f).answer ≡ accepted []
      → Made c (load_call memory f).state (grants_in f)
  made_call : {w : List ℕ} {gs : List Grant} (call : Call) → CallFits call → Made c w gs
      → Made c (words_step w call).state (book_step (book_of c gs) call).state.live
