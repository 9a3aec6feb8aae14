-- The claims: the three demands of document 00, as types. Nothing is assumed but what each type names before its arrow.
--   MadePools  what KeepsGrants promises of an index holds of every pool that calls made, with its live grants; the demands follow
--   Demand1    each call is refused under its fault, and else accepted; made pools never give 9
--   Demand2    the search range is condition (5); the accepted files; load, match, one byte changed; the parts that block read hands back
--   Demand3    every list of calls has the plain book's responses, on one tree, through every file
-- Which field refuses each of the useless programs that document 01 lists ("Worthless versions"):
--   nothing is ever listed or decided             Demand2 .lists, .decisions; Demand3.answers
--   6 although a cell is free                     Demand3 .answers: the book gives 6 only at C live
--   a grant or revoke that changes no link        Demand3 .answers, of the calls that follow; .holds
--   only the first grants are stored              Demand3 .answers: one list of calls, whole
--   a count that is kept beside the tree          Demand3 .holds and .answers: the reached cells carry the live grants, as many as counted
--   a list under links in any order               Demand3 .holds .placed
--   files that hold every door's grants           Demand3 .files: the file is that of B and the grants touching it
--   match never differs; files without grants     Demand2 .matches, .accepted-files
--   nothing is accepted                           Demand1: Judged.accepts; Demand2.accepted-files
--   9 on a pool that calls made                   Demand3 .answers, Demand1.never_broken
use Rattle.std.specs.Prelude.{ℕ, ◌/◌, ◌≤◌, ◌<◌, ◌↔◌, ◌≢◌, ◌≡◌, true, false, cond, T, length, get_or, set}
use mathlib.Core.List.{List, [], flat_map}
use Rattle.model.specs.declared.Box.{Box}
use Rattle.model.specs.declared.Grant.{Grant}
use Rattle.model.specs.declared.Choice.{Choice}
use Rattle.model.specs.declared.Fault.TheVariants.{BadPool, Reversed, BadChecksum}
use Rattle.model.specs.Interval.{Interval}
use Rattle.model.specs.Overlap.{Overlap}
use Rattle.model.specs.Answer.{accepted, refusal}
use Rattle.model.specs.Arguments.{reversed_box}
use Rattle.model.specs.Call.{Request, Call}
use Rattle.model.specs.Values.{byte_values, Below, GrantFits, CallsFit}
use Rattle.model.specs.Book.{empty_book, book_step}
use Rattle.model.specs.Histories.{responses, after}
use Rattle.model.specs.Judged.{Judged}
use Rattle.geometry.specs.Point.{inside, point_of}
use Rattle.geometry.specs.SearchRange.{range_of_box, range_of_doors, range_of_number, range_of_all}
use Rattle.pool.specs.Capacity.{wrong_length, wrong_pool}
use Rattle.adt.specs.Reach.{Holds}
use Rattle.grants_file.specs.Layout.{block_bytes}
use Rattle.grants_file.specs.Record.{encode_record}
use Rattle.grants_file.specs.File.{chunk, file_of, blocks_in, doors_in, grants_in}
use Rattle.block_read.specs.BlockRead.{read_causes, part_of, block_call}
use Rattle.grants_file.specs.FileSets.{Accepted, FileSet, Ordering}
use Rattle.openings.specs.Compare.{openings_order, compare_call}
use Rattle.calls.specs.LinkCauses.{search_meets9, point_meets9, search_hits, box_hits, grant_meets9, revoke_meets9}
use Rattle.calls.specs.Order.{start_order, grant_order, revoke_order, list_order, look_order, write_order, load_order, match_order}
use Rattle.calls.specs.Calls.{start_call, grant_call, revoke_call, list_call, decide_call, count_call, words_step}
use Rattle.calls.specs.FileCalls.{write_call, grant_all, load_call, match_call}
use Rattle.claims.specs.Made.{Memory, Made}
use Rattle.claims.specs.KeepsGrants.{ListsGrants, DecidesAmong, MatchesFiles, Writes, WritesFiles, LoadsAlike, NeverBroken, KeepsGrants}

-- fresh or loaded, and after any calls: what an index with these live grants is to do, it does
unfoldable pub MadePools : Type 0
MadePools = (c : ℕ) (w : List ℕ) (gs : List Grant) → Made c w gs → KeepsGrants c w gs

-- the words, and the live grants, after a list of calls on a fresh index of c cells
abbrev pub words_after : List ℕ → List Call → List ℕ
words_after memory calls = after words_step (start_call memory).state calls

abbrev pub live_after : ℕ → List Call → List Grant
live_after c calls = (after book_step (empty_book c) calls).live

-- DEMAND 3, of one index and one list of calls
pub record KeepsBook (c : ℕ) (memory : List ℕ) (calls : List Call) : Type 0 where
  pub started : (start_call memory).answer ≡ accepted []
  -- every answer is that of the plain book, lent lists included
  pub answers : responses words_step (start_call memory).state calls ≡ responses book_step (empty_book c) calls
  -- the links reach each cell once; the reached cells carry the live grants, in their regions, none behind more than 112; the others are free
  pub holds : Holds (words_after memory calls) c (live_after c calls)
  -- the file written for any door range is that of the range and the live grants touching it
  pub files : WritesFiles (words_after memory calls) (live_after c calls)
  -- load accepts that file on every index with cells enough, whatever it held, which then answers alike
  pub loads : LoadsAlike (words_after memory calls) (live_after c calls)

unfoldable pub Demand3 : Type 0
Demand3 = (c : ℕ) (memory : List ℕ) (calls : List Call) → Memory c memory → CallsFit calls → KeepsBook c memory calls

-- DEMAND 2
pub record Demand2 : Type 0 where
  -- the search range of a box holds the points of the grants that overlap it, condition (5), for every box that fault 2 lets through; list refuses
  -- the others on every pool
  pub hits : (g : Grant) (q : Box) → GrantFits g → reversed_box q ≡ false → T (inside (range_of_box q) (point_of g)) ↔ Overlap g.bounds q
  pub refused_boxes : (w : List ℕ) (q : Box) (choice : Choice) (lent : List ℕ) → reversed_box q ≡ true
      → (list_call w q choice lent).answer ≡ cond (wrong_pool w) (refusal BadPool) (refusal Reversed)
  -- from it come list and decide, after any calls, and match against the file of any doors and set
  pub lists : (c : ℕ) (memory : List ℕ) (calls : List Call) → Memory c memory → CallsFit calls
      → ListsGrants (words_after memory calls) (live_after c calls)
  pub decisions : (c : ℕ) (memory : List ℕ) (calls : List Call) → Memory c memory → CallsFit calls
      → DecidesAmong (words_after memory calls) (live_after c calls)
  pub matches : (c : ℕ) (memory : List ℕ) (calls : List Call) → Memory c memory → CallsFit calls
      → MatchesFiles (words_after memory calls) (live_after c calls)
  -- the accepted files are those of a door range and a set of at most 2,048 grants touching it
  pub accepted-files : (f : List ℕ) → Below byte_values f
      → Accepted f ↔ ((doors : Interval) × (gs : List Grant) × FileSet doors gs × (f ≡ file_of doors gs))
  -- which write gives after the set was granted, in any order, to a fresh index with cells enough
  pub writer_makes : (doors : Interval) (gs hs : List Grant) (c : ℕ) (memory : List ℕ) → FileSet doors gs → Ordering gs hs
      → Memory c memory → length gs ≤ c → Writes (grant_all (start_call memory).state hs) doors (file_of doors gs)
  -- load gives that set, on every pool with cells enough
  pub loads : (doors : Interval) (gs : List Grant) (c : ℕ) (memory : List ℕ) → FileSet doors gs → Memory c memory → length gs ≤ c
      → let r = load_call memory (file_of doors gs) in
      (r.answer ≡ accepted []) × KeepsGrants c r.state gs
  -- an accepted file with one byte changed is refused with 12 and that byte's block, unless the pool gives 1
  pub one_byte : (f : List ℕ) (i v : ℕ) (w : List ℕ) → Below byte_values f → Accepted f → i < length f → v < byte_values → v ≢ get_or f i 0
      → ((load_call w (set f i v)).answer ≡ cond (wrong_length w) (refusal BadPool) (refusal (BadChecksum (i / block_bytes))))
      × ((match_call w (set f i v)).answer ≡ cond (wrong_pool w) (refusal BadPool) (refusal (BadChecksum (i / block_bytes))))
  -- block read accepts each block of an accepted file, and its part is the records of that block's grants, of block 0 none
  pub parts : (f : List ℕ) → Below byte_values f → Accepted f
      → ((i : ℕ) → i < blocks_in f → (block_call f i).answer ≡ accepted [])
      × (part_of f 0 ≡ [])
      × ((i : ℕ) → 0 < i → i < blocks_in f → part_of f i ≡ flat_map encode_record (chunk i (grants_in f)))
  -- in any bytes, the part of a refused block is empty
  pub refused-parts : (f : List ℕ) (i : ℕ) → (block_call f i).answer ≢ accepted [] → part_of f i ≡ []

-- DEMAND 1: each call is judged by its order line, with 9's causes and the hits taken from document 01's links
pub record Demand1 : Type 0 where
  pub start : (w : List ℕ) → Judged (start_order w) w [] (start_call w)
  pub grant : (w : List ℕ) (r : Request)
      → Judged (grant_order w r (grant_meets9 w r) (search_hits w (range_of_number r.number))) w [] (grant_call w r)
  pub revoke : (w : List ℕ) (n : ℕ) → Judged (revoke_order w n (revoke_meets9 w n) (search_hits w (range_of_number n))) w [] (revoke_call w n)
  pub list : (w : List ℕ) (q : Box) (choice : Choice) (lent : List ℕ)
      → Judged (list_order w q lent (search_meets9 w (range_of_box q)) (box_hits w q choice)) w lent (list_call w q choice lent)
  pub decide : (w : List ℕ) (staff door quarter : ℕ)
      → Judged (look_order w (point_meets9 w staff door quarter)) w [] (decide_call w staff door quarter)
  pub count : (w : List ℕ) → Judged (look_order w (search_meets9 w range_of_all)) w [] (count_call w)
  pub write : (w : List ℕ) (doors : Interval) (lent : List ℕ)
      → Judged (write_order w doors lent (search_meets9 w (range_of_doors doors)) (search_hits w (range_of_doors doors))) w lent (write_call w doors lent)
  pub load : (w f : List ℕ) → Judged (load_order w f) w [] (load_call w f)
  pub «match» : (w f : List ℕ) → Judged (match_order w f (search_meets9 w (range_of_doors (doors_in f)))) w [] (match_call w f)
  pub block : (f : List ℕ) (i : ℕ) → Judged (read_causes f i) f [] (block_call f i)
  pub compare : (door panel : List ℕ) → Judged (openings_order door panel) door panel (compare_call door panel)
  -- every call but start, load, grant and revoke leaves the pool as it was
  pub keeps_pool : (w : List ℕ) (q : Box) (choice : Choice) (doors : Interval) (lent f : List ℕ) (staff door quarter : ℕ)
      → ((list_call w q choice lent).state ≡ w) × ((decide_call w staff door quarter).state ≡ w) × ((count_call w).state ≡ w)
      × ((write_call w doors lent).state ≡ w) × ((match_call w f).state ≡ w)
  -- on a pool that start or load and later calls made, no call gives 9, nor 1
  pub never_broken : (c : ℕ) (w : List ℕ) (gs : List Grant) → Made c w gs → NeverBroken w
