-- Two pools that stand for books of which one holds what the other has touching some doors: asked about those doors, both answer alike
-- (demand 3).
--   overlap-touches           a grant that overlaps a box with doors inside a range touches the range
--   list_alike, decide_alike  list and decide, lent lists included
-- Assumes nothing.
use Prim.Native.Nat.{ℕ}
use mathlib.Core.Path.{◌≡◌, sym, ap, ◌∙◌}
use mathlib.Core.Bool.{Bool, true}
use mathlib.Core.List.{List}
use native.Mathlib.Omega.{arith}
use lib.Dec.{T}
use Rattle.lists.specs.Tests.{filter}
use Rattle.lists.proofs.TestLaws.{T-iff, filter-filter}
use Rattle.model.specs.declared.Box.{Box}
use Rattle.model.specs.declared.Grant.{Grant}
use Rattle.model.specs.declared.Choice.{Choice}
use Rattle.model.specs.Interval.{Interval, holds}
use Rattle.model.specs.Box.{doors_of, point_box}
use Rattle.model.specs.Overlap.{overlaps}
use Rattle.model.specs.Relation.{taken}
use Rattle.model.specs.Grant.{touches}
use Rattle.model.specs.Book.{Book}
use Rattle.model.specs.Histories.{response_of}
use Rattle.model.proofs.OverlapLaws.{held_iff, overlap_on_iff, overlaps_iff}
use Rattle.model.proofs.RelationLaws.{taken-overlaps}
use Rattle.model.proofs.BookLaws.{book_list-same, book_decide-same}
use Rattle.calls.specs.Calls.{list_call, decide_call}
use Rattle.calls.proofs.Represents.{Represents}
use Rattle.calls.proofs.QueryLaws.{list_refines, decide_refines}

pub overlap-touches : (doors : Interval) (q : Box) → T (holds doors (doors_of q).from) → T (holds doors (doors_of q).to) → (g : Grant)
    → overlaps g.bounds q ≡ true → touches doors g ≡ true
overlap-touches doors q from to g e =
    let low = (held_iff doors (doors_of q).from).0 from in
    let high = (held_iff doors (doors_of q).to).0 to in
    let o = ((overlaps_iff g.bounds q).0 ((T-iff (overlaps g.bounds q)).1 e)).doors in
    (T-iff (touches doors g)).0
    ((overlap_on_iff (doors_of g.bounds) doors).1 (record { starts = omega (arith, o.starts, high.1); ends = omega (arith, o.ends, low.0) }))

module _ {w v : List ℕ} {b d : Book} (h : Represents w b) (k : Represents v d) (doors : Interval) (held : d.live ≡ filter (touches doors) b.live) where
  -- a test that only what overlaps passes finds the same grants in both
  module _ (q : Box) (from : T (holds doors (doors_of q).from)) (to : T (holds doors (doors_of q).to)) (t : Grant → Bool)
      (overlapping : (g : Grant) → t g ≡ true → overlaps g.bounds q ≡ true) where
    passing_held : filter t b.live ≡ filter t d.live
    passing_held =
        sym
        (ap (filter t) held
        ∙ filter-filter t (touches doors) b.live (λ g m e. overlap-touches doors q from to g (overlapping g e)))

  pub list_alike : (q : Box) (choice : Choice) (lent : List ℕ) → T (holds doors (doors_of q).from) → T (holds doors (doors_of q).to)
      → response_of (list_call w q choice lent) ≡ response_of (list_call v q choice lent)
  list_alike q choice lent from to =
      (list_refines h q choice lent).same
      ∙ book_list-same b d q choice lent (passing_held q from to (taken choice q) (taken-overlaps choice q))
      ∙ sym (list_refines k q choice lent).same

  pub decide_alike : (staff door quarter : ℕ) → T (holds doors door)
      → response_of (decide_call w staff door quarter) ≡ response_of (decide_call v staff door quarter)
  decide_alike staff door quarter at =
      let q = point_box staff door quarter in
      (decide_refines h staff door quarter).same
      ∙ book_decide-same b d staff door quarter (passing_held q at at (λ g. overlaps g.bounds q) (λ g e. e))
      ∙ sym (decide_refines k staff door quarter).same
