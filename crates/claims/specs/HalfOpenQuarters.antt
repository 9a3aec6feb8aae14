-- Quarters are half-open (document 02, card 2), as a claim: what is said of them, by the quarters that a range covers (`covers`).
--   LiesIn b staff door q     the point lies in the box: staff and door in its closed ranges, and the quarter covered
--   HalfOpenQuarters          two ranges overlap exactly where both cover a quarter, fault 2 is given to the boxes in which no point lies, decide
--                             goes by the grants in which its point lies, and files carry the mark of this reading
-- Assumes nothing: these are definitions.
use Rattle.std.specs.Prelude.{ℕ, ◌<◌, ◌↔◌, ◌≡◌, true, false, cond, T, take, Ok}
use mathlib.Core.List.{List, Memᴰ}
use Rattle.model.specs.declared.Box.{Box}
use Rattle.model.specs.declared.Grant.{Grant}
use Rattle.model.specs.declared.Decision.TheVariants as decision
use Rattle.model.specs.declared.Fault.TheVariants.{BadPool}
use Rattle.model.specs.Interval.{holds}
use Rattle.model.specs.Quarters.{Quarters, no_quarters, covers, top_quarter}
use Rattle.model.specs.Box.{staff_of, doors_of, quarters_of, point_box}
use Rattle.model.specs.Overlap.{OverlapInTime, Overlap}
use Rattle.model.specs.Answer.{refusal, decision_answer}
use Rattle.model.specs.Decide.{decision_of}
use Rattle.model.specs.Arguments.{reversed_box}
use Rattle.model.specs.Values.{byte_values, Below}
use Rattle.text.specs.Ascii.{ascii}
use Rattle.pool.specs.Capacity.{wrong_pool}
use Rattle.grants_file.specs.File.{blocks_in, block_at, grants_in}
use Rattle.grants_file.specs.FileSets.{Accepted}
use Rattle.calls.specs.Calls.{decide_call}
use Rattle.claims.specs.Made.{Made}

pub record LiesIn (b : Box) (staff door quarter : ℕ) : Type 0 where
  pub staff-held : T (holds (staff_of b) staff)
  pub door_held : T (holds (doors_of b) door)
  pub covered : T (covers (quarters_of b) quarter)

pub record HalfOpenQuarters : Type 0 where
  pub overlap : (a b : Quarters) → no_quarters a ≡ false → no_quarters b ≡ false → OverlapInTime a b ↔ ((q : ℕ) × T (covers a q) × T (covers b q))
  pub refused : (b : Box) → (reversed_box b ≡ true) ↔ ((staff door quarter : ℕ) → LiesIn b staff door quarter → ⊥)
  pub points : (b : Box) (staff door quarter : ℕ) → Overlap b (point_box staff door quarter) ↔ LiesIn b staff door quarter
  -- on pools that calls made, the point lies in the grant that decides
  pub decides : (c : ℕ) (w : List ℕ) (gs : List Grant) → Made c w gs → (staff door quarter : ℕ) (g : Grant)
      → (decide_call w staff door quarter).answer ≡ decision_answer (Ok (decision_of g.kind g)) → LiesIn g.bounds staff door quarter
  -- on any words, the highest quarter has none, unless the pool gives 1
  pub last : (w : List ℕ) (staff door : ℕ)
      → (decide_call w staff door top_quarter).answer ≡ cond (wrong_pool w) (refusal BadPool) (decision_answer (Ok decision.None))
  -- every live grant, and every grant of an accepted file, covers a quarter
  pub live : (c : ℕ) (w : List ℕ) (gs : List Grant) → Made c w gs → (g : Grant) → Memᴰ g gs → g.bounds.quarter_from < g.bounds.quarter_to
  pub filed : (f : List ℕ) → Below byte_values f → Accepted f → (g : Grant) → Memᴰ g (grants_in f)
      → g.bounds.quarter_from < g.bounds.quarter_to
  -- each block of an accepted file begins with this form's mark
  pub marked : (f : List ℕ) → Accepted f → (i : ℕ) → i < blocks_in f → take 4 (block_at f i) ≡ ascii "LGF2"
