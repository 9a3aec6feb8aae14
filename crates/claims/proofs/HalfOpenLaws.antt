-- The claim of half-open quarters (specs/HalfOpenQuarters).
--   overlap-covered       two ranges that cover a quarter each overlap exactly where they cover one in common
--   refused_pointless     fault 2 is given to the boxes in which no point lies
--   point_lies            a box overlaps decide's point exactly if the point lies in it
--   half_open_quarters    all of it
-- Assumes nothing.
use Prim.Native.Nat.{ℕ, ◌<◌}
use mathlib.Core.Logic.{◌↔◌}
use mathlib.Core.Path.{◌≡◌, refl, sym, subst, ◌∙◌}
use mathlib.Core.Bool.{Bool, true, false, cond, true≢false}
use mathlib.Core.List.{List, [], Memᴰ}
use Rattle.std.proofs.Common.{None, Some, Ok}
use native.Mathlib.Omega.{arith}
use lib.Dec.{T, leb}
use borrow.Author.Tests.{leb-true, leb-false, lt-leb, le-ltb}
use Rattle.lists.proofs.ListLaws.{same_numbers_true}
use Rattle.model.specs.declared.Box.{Box}
use Rattle.model.specs.declared.Grant.{Grant}
use Rattle.model.specs.declared.Decision.TheVariants as decision
use Rattle.model.specs.declared.Fault.TheVariants.{BadPool}
use Rattle.model.specs.Interval.{Interval, reversed, holds}
use Rattle.model.specs.Quarters.{Quarters, no_quarters, covers, top_quarter}
use Rattle.model.specs.Box.{staff_of, doors_of, quarters_of, point_box}
use Rattle.model.specs.Overlap.{OverlapOn, OverlapInTime, Overlap}
use Rattle.model.specs.Answer.{refusal, decision_answer}
use Rattle.model.specs.Refusal.{step_by, refusing, first_fault}
use Rattle.model.specs.Judged.{NoneOf}
use Rattle.model.specs.Decide.{decide_among}
use Rattle.model.specs.Arguments.{reversed_box, request_causes}
use Rattle.model.specs.Call.{request_of}
use Rattle.model.specs.Values.{byte_values, Below}
use Rattle.model.proofs.ArgumentLaws.{request_forward}
use Rattle.model.proofs.OverlapLaws.{held_iff}
use Rattle.model.proofs.QuarterLaws.{covers_iff, forward_box, forward_quarters}
use Rattle.pool.specs.Capacity.{wrong_pool}
use Rattle.grants_file.specs.File.{grants_in}
use Rattle.grants_file.specs.FileSets.{Accepted}
use Rattle.grants_file.proofs.FileLaws.{grants_in-file_of}
use Rattle.grants_file.proofs.CauseLaws.{accepted_iff}
use Rattle.grants_file.proofs.VerdictLaws.{accepted-files}
use Rattle.calls.specs.Order.{look_order}
use Rattle.calls.specs.Calls.{decide_call}
use Rattle.calls.proofs.Represents.{live-faultless}
use Rattle.claims.specs.Claims.{MadePools}
use Rattle.claims.specs.HalfOpenQuarters.{LiesIn, HalfOpenQuarters}
use Rattle.claims.proofs.MadeLaws.{made_represents}
use Rattle.claims.proofs.KeepsLaws.{made_pools}

-- a range that covers something covers its from
some-quarters : (r : Quarters) → no_quarters r ≡ false → r.from < r.to
some-quarters r e = leb-false r.to r.from e

pub overlap-covered : (a b : Quarters) → no_quarters a ≡ false → no_quarters b ≡ false → OverlapInTime a b ↔ ((q : ℕ) × T (covers a q) × T (covers b q))
overlap-covered a b some-a some-b = (
  later (leb a.from b.from) refl,
  (λ o.
      let in-a = (covers_iff a o.0).0 o.1 in
      let in_b = (covers_iff b o.0).0 o.2 in
      record { starts = omega (arith, in-a.0, in_b.1); ends = omega (arith, in_b.0, in-a.1) }),
)
  where
    -- the later from is covered by both
    later : (t : Bool) → leb a.from b.from ≡ t → OverlapInTime a b → (q : ℕ) × T (covers a q) × T (covers b q)
    later true e o =
        let begun = leb-true a.from b.from e in
        (b.from, (covers_iff a b.from).1 (begun, o.ends), (covers_iff b b.from).1 (omega arith, some-quarters b some-b))
    later false e o =
        let begun = leb-false a.from b.from e in
        (a.from, (covers_iff a a.from).1 (omega arith, some-quarters a some-a), (covers_iff b a.from).1 (omega arith, o.starts))

-- a closed range that holds something isn't reversed
held_forward : (i : Interval) (x : ℕ) → T (holds i x) → reversed i ≡ false
held_forward i x h =
    let both = (held_iff i x).0 h in
    le-ltb i.to i.from (omega (arith, both.0, both.1))

lies_forward : (b : Box) (staff door quarter : ℕ) → LiesIn b staff door quarter → reversed_box b ≡ false
unfolding reversed_box
lies_forward b staff door quarter l =
    let in-time = (covers_iff (quarters_of b) quarter).0 l.covered in
    rw (
      held_forward (staff_of b) staff l.staff-held,
      held_forward (doors_of b) door l.door_held,
      lt-leb b.quarter_to b.quarter_from (omega (arith, in-time.0, in-time.1)),
    )

pub refused_pointless : (b : Box) → (reversed_box b ≡ true) ↔ ((staff door quarter : ℕ) → LiesIn b staff door quarter → ⊥)
unfolding reversed_box
refused_pointless b = (
  (λ e staff door quarter l. true≢false (sym e ∙ lies_forward b staff door quarter l)),
  go (reversed_box b) refl,
)
  where
    go : (t : Bool) → reversed_box b ≡ t → ((staff door quarter : ℕ) → LiesIn b staff door quarter → ⊥) → t ≡ true
    go true e pointless = refl
    go false e pointless =
        let f = forward_box b e in
        absurd (pointless b.staff_from b.door_from b.quarter_from (record {
          staff-held = (held_iff (staff_of b) b.staff_from).1 (omega arith, f.staff);
          door_held = (held_iff (doors_of b) b.door_from).1 (omega arith, f.doors);
          covered = (covers_iff (quarters_of b) b.quarter_from).1 (omega arith, f.quarters);
        }))

-- a closed range overlaps a single number exactly if it holds it
single_held : (i : Interval) (x : ℕ) → OverlapOn i (record { from = x; to = x }) ↔ T (holds i x)
single_held i x = (
  (λ o. (held_iff i x).1 (o.starts, o.ends)),
  (λ h. let both = (held_iff i x).0 h in record { starts = both.0; ends = both.1 }),
)

pub point_lies : (b : Box) (staff door quarter : ℕ) → Overlap b (point_box staff door quarter) ↔ LiesIn b staff door quarter
point_lies b staff door quarter = (
  (λ o. record {
    staff-held = (single_held (staff_of b) staff).0 o.staff;
    door_held = (single_held (doors_of b) door).0 o.doors;
    covered = (covers_iff (quarters_of b) quarter).1 (omega (arith, o.quarters.starts), o.quarters.ends);
  }),
  (λ l. let in-time = (covers_iff (quarters_of b) quarter).0 l.covered in record {
    staff = (single_held (staff_of b) staff).1 l.staff-held;
    doors = (single_held (doors_of b) door).1 l.door_held;
    quarters = record { starts = omega (arith, in-time.0); ends = in-time.1 };
  }),
)

-- a grant without faults covers a quarter
faultless_forward : (g : Grant) → NoneOf (request_causes (request_of g)) → g.bounds.quarter_from < g.bounds.quarter_to
faultless_forward g faultless = forward_quarters g.bounds (request_forward (request_of g) faultless)

filed_forward : (f : List ℕ) → Below byte_values f → Accepted f → (g : Grant) → Memᴰ g (grants_in f)
    → g.bounds.quarter_from < g.bounds.quarter_to
filed_forward f below taken g m =
    let o = (accepted-files f below).0 taken in
    let member = subst (Memᴰ g) (grants_in-file_of o.0 o.1) (subst (λ (x : List ℕ). Memᴰ g (grants_in x)) o.3 m) in
    faultless_forward g (o.2.each g member).faultless

last_none : (w : List ℕ) (staff door : ℕ)
    → (decide_call w staff door top_quarter).answer ≡ cond (wrong_pool w) (refusal BadPool) (decision_answer (Ok decision.None))
unfolding decide_call look_order refusing first_fault decide_among
last_none w staff door = go (wrong_pool w)
  where
    go : (t : Bool) → (step_by (cond t (Some BadPool) None) w [] (record { state = w; answer = decision_answer (Ok decision.None); lent = [] })).answer
        ≡ cond t (refusal BadPool) (decision_answer (Ok decision.None))
    go true = refl
    go false = refl

pub half_open_quarters : HalfOpenQuarters
unfolding MadePools
half_open_quarters =
    record {
      overlap = overlap-covered;
      refused = refused_pointless;
      points = point_lies;
      decides = λ c w gs made staff door quarter g e.
          (point_lies g.bounds staff door quarter).0 ((((made_pools c w gs made).decisions staff door quarter).1 g).1 e).overlapping;
      last = last_none;
      live = λ c w gs made g m. faultless_forward g (live-faultless (made_represents made) g m);
      filed = filed_forward;
      marked = λ f taken i h. same_numbers_true _ _ (((accepted_iff f).0 taken).starts i h).mark;
    }
