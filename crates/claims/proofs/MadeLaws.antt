-- Pools that calls made (specs/Made) stand for the plain book of their live grants.
--   made_represents      they do
--   made_after           a made pool and a list of calls make one
--   made_calls           so do start and a list of calls
--   made-set             and load of the file of a set, where cells are enough
-- Assumes nothing.
use Prim.Native.Nat.{ℕ, ◌≤◌}
use mathlib.Core.Path.{◌≡◌, refl, ap, sym, subst}
use mathlib.Core.List.Memᴰ
use mathlib.Core.List.{List, [], ◌∷◌}
use lib.ListN.{length}
use Rattle.model.specs.declared.Grant.{Grant}
use Rattle.model.specs.Interval.{Interval}
use Rattle.model.specs.Answer.{accepted}
use Rattle.model.specs.Refusal.{Step}
use Rattle.model.specs.Call.{Call}
use Rattle.model.specs.Values.{CallsFit}
use Rattle.model.specs.Book.{Book, book_of, book_step}
use Rattle.model.specs.Histories.{after}
use Rattle.model.proofs.BookLaws.{book_step-capacity}
use Rattle.grants_file.specs.File.{file_of}
use Rattle.grants_file.specs.FileSets.{FileSet}
use Rattle.grants_file.proofs.FileLaws.{file_of-below, grants_in-file_of}
use Rattle.calls.specs.Calls.{words_step}
use Rattle.calls.specs.FileCalls.{load_call}
use Rattle.calls.proofs.Represents.{Represents}
use Rattle.calls.proofs.StartLaws.{start_refines}
use Rattle.calls.proofs.CallLaws.{call_refines}
use Rattle.calls.proofs.LoadLaws.{load_set, accepted_represents}
use Rattle.claims.specs.Made.{Memory, Made, made-start, made-load, made_call}
use Rattle.claims.specs.Claims.{words_after, live_after}

-- a call on a book leaves the book of its live grants
step_book : (c : ℕ) (gs : List Grant) (call : Call) → (book_step (book_of c gs) call).state ≡ book_of c (book_step (book_of c gs) call).state.live
step_book c gs call = λ i. record { capacity = book_step-capacity (book_of c gs) call i; live = (book_step (book_of c gs) call).state.live }

pub made_represents : {c : ℕ} {w : List ℕ} {gs : List Grant} → Made c w gs → Represents w (book_of c gs)
made_represents (made-start {memory = memory} m) = (start_refines memory m).1
made_represents (made-load {memory = memory} {f = f} m below taken) = accepted_represents memory f m below taken
made_represents {c} (made_call {w = w} {gs = gs} call fits made) =
    subst (Represents (words_step w call).state) (step_book c gs call) (call_refines w (book_of c gs) call fits (made_represents made)).related

pub made_after : {c : ℕ} {w : List ℕ} {gs : List Grant} (calls : List Call) → CallsFit calls → Made c w gs
    → Made c (after words_step w calls) (after book_step (book_of c gs) calls).live
unfolding after
made_after [] fit made = made
made_after {c} {w} {gs} (call ∷ calls) fit made =
    subst (λ (b : Book). Made c (after words_step (words_step w call).state calls) (after book_step b calls).live) (sym (step_book c gs call))
    (made_after {w = (words_step w call).state} calls (λ d m. fit d (Memᴰ.tail m)) (made_call call (fit call (Memᴰ.head refl)) made))

pub made_calls : {c : ℕ} {memory : List ℕ} → Memory c memory → (calls : List Call) → CallsFit calls → Made c (words_after memory calls) (live_after c calls)
made_calls m calls fit = made_after calls fit (made-start m)

module _ {doors : Interval} {gs : List Grant} (s : FileSet doors gs) {c : ℕ} {memory : List ℕ} (m : Memory c memory) (room : length gs ≤ c) where
  pub set-accepted : (load_call memory (file_of doors gs)).answer ≡ accepted []
  set-accepted = ap (λ (r : Step (List ℕ)). r.answer) (load_set s memory m room)

  pub made-set : Made c (load_call memory (file_of doors gs)).state gs
  made-set = rw (grants_in-file_of doors gs) at (made-load m (file_of-below doors gs s) set-accepted)
