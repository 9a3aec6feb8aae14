-- Laws of ranges of quarters (specs/Quarters), and of boxes that fault 2 lets through.
--   covers_iff             a quarter is covered from the range's from on, below its to
--   Forward b, forward_box a box that fault 2 lets through is forward on all three axes
--   forward_quarters       so it covers a quarter
--   uncoverable_apart      a box that fits overlaps none that begins at a quarter that no grant can cover
--   coverable-below        a quarter that a grant can cover is below the highest
-- Assumes nothing.
use Prim.Native.Nat.{ℕ, suc, ◌≤◌, ◌<◌}
use mathlib.Core.Logic.{◌↔◌}
use mathlib.Core.Path.{◌≡◌, refl}
use mathlib.Core.Bool.{Bool, true, false, ◌||◌}
use native.Mathlib.Omega.{arith}
use lib.Dec.{T, lit<}
use borrow.Author.Tests.{leb-false, ltb-true, ltb-false}
use Rattle.lists.proofs.ElementLaws.{mem_get_d}
use Rattle.lists.proofs.OrLaws.{or_false_iff}
use Rattle.lists.proofs.TestLaws.{T-iff, both_le, le_both}
use Rattle.model.specs.declared.Box.{Box}
use Rattle.model.specs.Interval.{reversed}
use Rattle.model.specs.Quarters.{Quarters, no_quarters, covers, top_quarter, coverable}
use Rattle.model.specs.Box.{box_values, staff_of, doors_of, quarters_of}
use Rattle.model.specs.Overlap.{overlaps}
use Rattle.model.specs.Arguments.{reversed_box}
use Rattle.model.specs.Values.{BoxFits}
use Rattle.model.proofs.OverlapLaws.{overlaps_iff}

pub covers_iff : (r : Quarters) (q : ℕ) → T (covers r q) ↔ ((r.from ≤ q) × (q < r.to))
covers_iff r q = (
  (λ t. both_le r.from q (suc q) r.to ((T-iff (covers r q)).0 t)),
  (λ h. (T-iff (covers r q)).1 (le_both r.from q (suc q) r.to h.0 h.1)),
)

pub record Forward (b : Box) : Type 0 where
  pub staff : b.staff_from ≤ b.staff_to
  pub doors : b.door_from ≤ b.door_to
  pub quarters : b.quarter_from < b.quarter_to

pub forward_box : (b : Box) → reversed_box b ≡ false → Forward b
unfolding reversed_box
forward_box b e =
    let last = (or_false_iff (reversed (staff_of b) || reversed (doors_of b)) (no_quarters (quarters_of b))).0 e in
    let both = (or_false_iff (reversed (staff_of b)) (reversed (doors_of b))).0 last.0 in
    record {
      staff = ltb-false b.staff_to b.staff_from both.0;
      doors = ltb-false b.door_to b.door_from both.1;
      quarters = leb-false b.quarter_to b.quarter_from last.1;
    }

pub forward_quarters : (b : Box) → reversed_box b ≡ false → b.quarter_from < b.quarter_to
forward_quarters b e = (forward_box b e).quarters

pub uncoverable_apart : (a b : Box) → BoxFits a → coverable b.quarter_from ≡ false → overlaps a b ≡ false
uncoverable_apart a b fits late = go (overlaps a b) refl
  where
    go : (t : Bool) → overlaps a b ≡ t → t ≡ false
    go true e =
        let o = (overlaps_iff a b).0 ((T-iff (overlaps a b)).1 e) in
        absurd
        (omega (arith, o.quarters.ends, fits a.quarter_to (mem_get_d (box_values a) 5 0 (lit< tt)), ltb-false b.quarter_from top_quarter late))
    go false e = refl

pub coverable-below : (q : ℕ) → coverable q ≡ true → q < top_quarter
coverable-below q e = ltb-true q top_quarter e
