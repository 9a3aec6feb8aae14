-- What is promised of an index whose live grants are gs: its tree, its answers, its files (document 00, demands 1 to 3, of one index).
-- w are its words, c its cells.
--   ListsGrants w gs     list writes the numbers of the grants that its choice takes  ListsTaken: of one list
--   DecidesAmong w gs    decide's answer is the foremost of those at the point      Decides: of one grant
--   MatchesFiles w gs    match finds where they differ from a file                  MatchesSet: from one
--   WritesFiles w gs     write gives the file of any doors                          Writes: one file
--   LoadsAlike w gs      load takes that file, and answers alike inside the doors   AnswerAlike: two pools, asked by Asks
--   UsesFreeHead w       grants take the free head; a revoked cell becomes it
--   NeverBroken w        no call gives 1 or 9
--   KeepsGrants c w gs   all of it, the tree, and the plain book's responses to every list of calls
-- Assumes nothing: these are definitions.
use Rattle.std.specs.Prelude.{ℕ, ◌≤◌, ◌<◌, ◌↔◌, ◌≢◌, ◌≡◌, T, length, get_or, take, Ok}
use mathlib.Core.List.{List, [], ◌∷◌, Memᴰ}
use Rattle.lists.specs.Tests.{filter}
use Rattle.lists.specs.Overwrite.{overwrite}
use Rattle.model.specs.declared.Box.{Box}
use Rattle.model.specs.declared.Grant.{Grant}
use Rattle.model.specs.declared.Choice.{Choice}
use Rattle.model.specs.declared.Fault.TheVariants.{BadPool, BrokenLinks}
use Rattle.model.specs.declared.Decision.TheVariants as decision
use Rattle.model.specs.Interval.{Interval, holds}
use Rattle.model.specs.Box.{doors_of, point_box}
use Rattle.model.specs.Overlap.{Overlap}
use Rattle.model.specs.Relation.{Taken}
use Rattle.model.specs.Grant.{touches}
use Rattle.model.specs.Answer.{Answer, accepted, refusal, decision_answer}
use Rattle.model.specs.Decide.{decision_of}
use Rattle.model.specs.Call.{Request, requested, Call, grant, revoke, list, decide, count}
use Rattle.model.specs.Values.{RequestFits, CallFits, CallsFit}
use Rattle.model.specs.Book.{book_of, book_step}
use Rattle.model.specs.Histories.{response_of, responses}
use Rattle.geometry.specs.declared.Side.{Side}
use Rattle.adt.specs.Reach.{node_at, CarriedAt, Holds}
use Rattle.adt.specs.FreeHead.{TakesFreeHead, BecomesFreeHead}
use Rattle.grants_file.specs.File.{file_of}
use Rattle.grants_file.specs.FileSets.{DoorRange, FileSet, LeastDifference}
use Rattle.calls.specs.Calls.{grant_call, revoke_call, list_call, decide_call, words_step}
use Rattle.calls.specs.FileCalls.{write_call, load_call, match_call}
use Rattle.claims.specs.Made.{Memory}

-- what list wrote is the numbers of the grants that touch the box, or of those that hold it, each above the one before
pub record ListsTaken (gs : List Grant) (q : Box) (choice : Choice) (numbers : List ℕ) : Type 0 where
  pub member : (n : ℕ) → Memᴰ n numbers ↔ ((g : Grant) × Memᴰ g gs × (g.number ≡ n) × Taken choice q g)
  pub rising : (i j : ℕ) → i < j → j < length numbers → get_or numbers i 0 < get_or numbers j 0

abbrev pub ListsGrants : List ℕ → List Grant → Type 0
ListsGrants w gs =
    (q : Box) (choice : Choice) (lent : List ℕ) (n : ℕ)
    → let r = list_call w q choice lent in
    r.answer ≡ accepted (n ∷ []) → ListsTaken gs q choice (take n r.lent)

-- the grant g of gs decides at the point: of those that overlap it none has a higher rank, and none of its rank a higher number
pub record Decides (gs : List Grant) (q : Box) (g : Grant) : Type 0 where
  pub live : Memᴰ g gs
  pub overlapping : Overlap g.bounds q
  pub highest_rank : (h : Grant) → Memᴰ h gs → Overlap h.bounds q → h.rank ≤ g.rank
  pub highest_number : (h : Grant) → Memᴰ h gs → Overlap h.bounds q → h.rank ≡ g.rank → h.number ≤ g.number

abbrev pub DecidesAmong : List ℕ → List Grant → Type 0
DecidesAmong w gs =
    (staff door quarter : ℕ)
    → let answer = (decide_call w staff door quarter).answer in
    let q = point_box staff door quarter in
    ((answer ≡ decision_answer (Ok decision.None)) ↔ ((g : Grant) → Memᴰ g gs → Overlap g.bounds q → ⊥))
    × ((g : Grant) → Decides gs q g ↔ (answer ≡ decision_answer (Ok (decision_of g.kind g))))

abbrev pub touching : Interval → List Grant → List Grant
touching doors gs = filter (touches doors) gs

-- match holds the pool w, whose live grants are given, against the file of doors and gs: equal exactly where the live grants touching
-- the doors are gs, else the least number that is in one alone, or in both and unequal
pub record MatchesSet (w : List ℕ) (live : List Grant) (doors : Interval) (gs : List Grant) : Type 0 where
  pub equal : ((match_call w (file_of doors gs)).answer ≡ accepted []) ↔ ((g : Grant) → Memᴰ g gs ↔ Memᴰ g (touching doors live))
  pub differs : (n : ℕ) → ((match_call w (file_of doors gs)).answer ≡ accepted (n ∷ [])) ↔ LeastDifference n gs (touching doors live)

abbrev pub MatchesFiles : List ℕ → List Grant → Type 0
MatchesFiles w live = (doors : Interval) (gs : List Grant) → FileSet doors gs → MatchesSet w live doors gs

-- write gives the bytes f for the doors, into any lent bytes that are enough, keeps those past f, and keeps the pool
abbrev pub Writes : List ℕ → Interval → List ℕ → Type 0
Writes w doors f =
    (lent : List ℕ) → length f ≤ length lent
    → write_call w doors lent ≡ record { state = w; answer = accepted (length f ∷ []); lent = overwrite f lent }

abbrev pub WritesFiles : List ℕ → List Grant → Type 0
WritesFiles w gs = (doors : Interval) → DoorRange doors → Writes w doors (file_of doors (touching doors gs))

-- the call is a question about doors inside the range: list's box has both its doors there, whatever its choice, decide's point its door
abbrev pub Asks : Interval → Call → Type 0
Asks doors (list q choice lent) = T (holds doors (doors_of q).from) × T (holds doors (doors_of q).to)
Asks doors (decide staff door quarter) = T (holds doors door)
Asks doors (grant r) = ⊥
Asks doors (revoke n) = ⊥
Asks doors count = ⊥

-- both pools answer every such question alike, lent lists included
abbrev pub AnswerAlike : Interval → List ℕ → List ℕ → Type 0
AnswerAlike doors w v = (call : Call) → Asks doors call → response_of (words_step w call) ≡ response_of (words_step v call)

-- load accepts the file of the doors on every index with cells enough, whatever it held
abbrev pub LoadsAlike : List ℕ → List Grant → Type 0
LoadsAlike w gs =
    (doors : Interval) (d : ℕ) (other : List ℕ) → DoorRange doors → Memory d other → length (touching doors gs) ≤ d
    → let r = load_call other (file_of doors (touching doors gs)) in
    (r.answer ≡ accepted []) × AnswerAlike doors w r.state

pub record UsesFreeHead (w : List ℕ) : Type 0 where
  pub grants : (r : Request) → RequestFits r → (grant_call w r).answer ≡ accepted [] → TakesFreeHead w (grant_call w r).state (requested r)
  pub revokes : (n : ℕ) (g : Grant) (p : List Side) → (revoke_call w n).answer ≡ accepted [] → CarriedAt w g p → g.number ≡ n
      → BecomesFreeHead w (revoke_call w n).state (node_at w p)

-- neither fault 1 nor fault 9
abbrev pub Sound : Answer → Type 0
Sound answer = (answer ≢ refusal BadPool) × (answer ≢ refusal BrokenLinks)

abbrev pub NeverBroken : List ℕ → Type 0
NeverBroken w =
    ((call : Call) → CallFits call → Sound (words_step w call).answer)
    × ((doors : Interval) (lent : List ℕ) → Sound (write_call w doors lent).answer)
    × ((f : List ℕ) → Sound (match_call w f).answer)

pub record KeepsGrants (c : ℕ) (w : List ℕ) (gs : List Grant) : Type 0 where
  -- the links reach each cell once; the reached cells carry the grants, in their regions, none behind more than 112; the others are free
  pub holds : Holds w c gs
  -- every list of calls has the responses of the plain book that holds the grants, lent lists included
  pub answers : (calls : List Call) → CallsFit calls → responses words_step w calls ≡ responses book_step (book_of c gs) calls
  pub lists : ListsGrants w gs
  pub decisions : DecidesAmong w gs
  pub matches : MatchesFiles w gs
  pub files : WritesFiles w gs
  pub loads : LoadsAlike w gs
  pub free-head : UsesFreeHead w
  pub never_broken : NeverBroken w
