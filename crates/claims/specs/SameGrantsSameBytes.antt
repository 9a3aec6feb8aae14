-- Same grants, same bytes (document 02, card 7): what an index answers and writes is fixed by its live grants, whatever calls left them, in whatever
-- order, and however many cells it has; and its file for all doors tells which they are.
--   all_doors                   doors 0 to 65535
--   AsksAny call               the call is a question, about any doors
--   AnswersAlike w v           the two pools answer every question alike
--   WriteAlike w v             for every door range the two pools write one file, byte for byte
--   WriteApart w v             their files for all doors differ
--   FixedByGrants w v gs hs    of two pools and their live grants: with the same grants they answer every list and decide alike, refusals with their
--                              counts and lent lists included, and write alike; where a grant is in one alone, they write apart
--   SameGrantsSameBytes        so it is of every two pools that start, or load of an accepted file, and any calls after it made; and, in document 02's
--                              words, of two lists of calls, each on a fresh index of any size
-- The words of the two pools may differ all the same: the tree's shape goes by the order of the calls (proofs/RestoredCases has an example). Count tells
-- the cells, so it isn't asked here. Assumes nothing: these are definitions.
use Rattle.std.specs.Prelude.{ℕ, ◌-◌, ◌≢◌, ◌≡◌, List}
use Rattle.model.specs.declared.Box.{Box}
use Rattle.model.specs.declared.Grant.{Grant}
use Rattle.model.specs.declared.Choice.{Choice}
use Rattle.model.specs.Interval.{Interval}
use Rattle.model.specs.Call.{Call, grant, revoke, list, decide, count}
use Rattle.model.specs.Values.{word_values, CallsFit}
use Rattle.model.specs.Histories.{response_of}
use Rattle.grants_file.specs.FileSets.{DoorRange, SameGrants, InOneAlone}
use Rattle.calls.specs.Calls.{list_call, decide_call, words_step}
use Rattle.claims.specs.Made.{Memory, Made}
use Rattle.claims.specs.KeepsGrants.{Writes}
use Rattle.claims.specs.Claims.{words_after, live_after}

abbrev pub all_doors : Interval
all_doors = record { from = 0; to = word_values - 1 }

-- list, under either choice, and decide
abbrev pub AsksAny : Call → Type 0
AsksAny (list q choice lent) = Unit {0}
AsksAny (decide staff door quarter) = Unit {0}
AsksAny (grant r) = ⊥
AsksAny (revoke n) = ⊥
AsksAny count = ⊥

-- refusals with their counts and lent lists included
abbrev pub AnswersAlike : List ℕ → List ℕ → Type 0
AnswersAlike w v = (call : Call) → AsksAny call → response_of (words_step w call) ≡ response_of (words_step v call)

abbrev pub WriteAlike : List ℕ → List ℕ → Type 0
WriteAlike w v = (doors : Interval) → DoorRange doors → (f : List ℕ) × Writes w doors f × Writes v doors f

abbrev pub WriteApart : List ℕ → List ℕ → Type 0
WriteApart w v = (f k : List ℕ) × Writes w all_doors f × Writes v all_doors k × (f ≢ k)

pub record FixedByGrants (w v : List ℕ) (gs hs : List Grant) : Type 0 where
  pub answers : SameGrants gs hs → AnswersAlike w v
  pub files : SameGrants gs hs → WriteAlike w v
  pub differ : (g : Grant) → InOneAlone g gs hs → WriteApart w v

pub record SameGrantsSameBytes : Type 0 where
  pub made : (c d : ℕ) (w v : List ℕ) (gs hs : List Grant) → Made c w gs → Made d v hs → FixedByGrants w v gs hs
  -- two lists of calls that leave the same live grants: each list and decide, asked alike and lent equal lists, has one answer and leaves equal
  -- lists, and the files written are equal; two that don't: the files for doors 0 to 65535 differ
  pub fresh : (c d : ℕ) (memory other : List ℕ) (calls others : List Call)
      → Memory c memory → Memory d other → CallsFit calls → CallsFit others
      → let w = words_after memory calls in
      let v = words_after other others in
      let same = SameGrants (live_after c calls) (live_after d others) in
      (same → (q : Box) (choice : Choice) (lent : List ℕ) → response_of (list_call w q choice lent) ≡ response_of (list_call v q choice lent))
      × (same → (staff door quarter : ℕ) → response_of (decide_call w staff door quarter) ≡ response_of (decide_call v staff door quarter))
      × (same → WriteAlike w v)
      × ((same → ⊥) → WriteApart w v)
  -- write gives no second file for the same doors, on any words: these are the files that are written
  pub one_file : (w : List ℕ) (doors : Interval) (f k : List ℕ) → Writes w doors f → Writes w doors k → f ≡ k
