-- What it means that a grant holds a box (specs/HoldingGrants).
--   points-held        every point of the box lies in the grant
--   nine_alike         9 is met under either choice exactly where the box's walk meets it
--   hits-taken         the hits are the cells met that the choice takes
--   holding_grants     the claim
-- Assumes nothing.
use Prim.Native.Nat.{ℕ, ◌-◌}
use mathlib.Core.Logic.{◌↔◌}
use mathlib.Core.Path.{◌≡◌, refl, sym, ap, ◌∙◌}
use mathlib.Core.Bool.{Bool, true, false, true≢false}
use mathlib.Core.List.{List, [], map}
use native.Mathlib.Omega.{arith}
use Rattle.lists.specs.Tests.{filter}
use Rattle.lists.proofs.TestLaws.{filter_map, filter-filter}
use Rattle.model.specs.declared.Box.{Box}
use Rattle.model.specs.declared.Relation.TheVariants.{Holds}
use Rattle.model.specs.declared.Choice.{Choice}
use Rattle.model.specs.Box.{staff_of, doors_of, quarters_of}
use Rattle.model.specs.Relation.{HoldsBox, relation_of, taken}
use Rattle.model.specs.Arguments.{reversed_box}
use Rattle.model.proofs.OverlapLaws.{held_iff}
use Rattle.model.proofs.QuarterLaws.{covers_iff, forward_box}
use Rattle.model.proofs.RelationLaws.{holds-overlaps, apart_iff, touches_iff, holds_iff}
use Rattle.geometry.specs.SearchRange.{range_of_box}
use Rattle.pool.specs.Cell.{grant_at}
use Rattle.adt.specs.Search.{Search, broken, going}
use Rattle.adt.specs.Links.{Link, search_links, is_hit, hits_among}
use Rattle.calls.specs.Walks.{box_search, is_broken, hits_of}
use Rattle.calls.specs.LinkCauses.{hits_by}
use Rattle.calls.proofs.LinkCauseLaws.{is_broken_links, hits_of_links}
use Rattle.claims.specs.HalfOpenQuarters.{LiesIn}
use Rattle.claims.specs.HoldingGrants.{box_walk, HoldingGrants}

module _ (a b : Box) where
  -- a point of a box that is held lies in the box that holds it
  lies_held : HoldsBox a b → (staff door quarter : ℕ) → LiesIn b staff door quarter → LiesIn a staff door quarter
  lies_held h staff door quarter l =
      let s = (held_iff (staff_of b) staff).0 l.staff-held in
      let d = (held_iff (doors_of b) door).0 l.door_held in
      let q = (covers_iff (quarters_of b) quarter).0 l.covered in
      record {
        staff-held = (held_iff (staff_of a) staff).1 (omega (arith, h.staff-from, s.0), omega (arith, h.staff-to, s.1));
        door_held = (held_iff (doors_of a) door).1 (omega (arith, h.door-from, d.0), omega (arith, h.door-to, d.1));
        covered = (covers_iff (quarters_of a) quarter).1 (omega (arith, h.quarter-from, q.0), omega (arith, h.quarter-to, q.1));
      }

  -- two points are enough: that of the froms, and the last of each range
  corners_held : reversed_box b ≡ false → ((staff door quarter : ℕ) → LiesIn b staff door quarter → LiesIn a staff door quarter) → HoldsBox a b
  corners_held e lies =
      let f = forward_box b e in
      let first = lies b.staff_from b.door_from b.quarter_from (record {
        staff-held = (held_iff (staff_of b) b.staff_from).1 (omega arith, f.staff);
        door_held = (held_iff (doors_of b) b.door_from).1 (omega arith, f.doors);
        covered = (covers_iff (quarters_of b) b.quarter_from).1 (omega arith, f.quarters);
      }) in
      let last = lies b.staff_to b.door_to (b.quarter_to - 1) (record {
        staff-held = (held_iff (staff_of b) b.staff_to).1 (f.staff, omega arith);
        door_held = (held_iff (doors_of b) b.door_to).1 (f.doors, omega arith);
        covered = (covers_iff (quarters_of b) (b.quarter_to - 1)).1 (omega (arith, f.quarters), omega (arith, f.quarters));
      }) in
      record {
        staff-from = ((held_iff (staff_of a) b.staff_from).0 first.staff-held).0;
        staff-to = ((held_iff (staff_of a) b.staff_to).0 last.staff-held).1;
        door-from = ((held_iff (doors_of a) b.door_from).0 first.door_held).0;
        door-to = ((held_iff (doors_of a) b.door_to).0 last.door_held).1;
        quarter-from = ((covers_iff (quarters_of a) b.quarter_from).0 first.covered).0;
        quarter-to = omega (arith, f.quarters, ((covers_iff (quarters_of a) (b.quarter_to - 1)).0 last.covered).1);
      }

  pub points-held : reversed_box b ≡ false
      → (relation_of a b ≡ Holds) ↔ ((staff door quarter : ℕ) → LiesIn b staff door quarter → LiesIn a staff door quarter)
  points-held e = (
    (λ r. lies_held ((holds_iff a b).0 r).1),
    (λ lies. let h = corners_held e lies in (holds_iff a b).1 (holds-overlaps a b e h, h)),
  )

-- a broken search has no hits
no_hits : (s : Search) → is_broken s ≡ true → hits_of s ≡ []
no_hits broken e = refl
no_hits (going met hits first) e = absurd (true≢false (sym e))

module _ (w : List ℕ) (q : Box) (choice : Choice) where
  pub nine_alike : is_broken (box_search w q choice) ≡ is_broken (box_walk w q)
  nine_alike = is_broken_links w (range_of_box q) (taken choice q) ∙ sym (is_broken_links w (range_of_box q) (λ g. true))

  abbrev takes : ℕ → Bool
  takes k = taken choice q (grant_at w k)

  hits_among_lem : hits_by w (range_of_box q) (taken choice q) ≡ filter takes (hits_by w (range_of_box q) (λ g. true))
  unfolding hits_by hits_among
  hits_among_lem =
      let links = search_links w (range_of_box q) in
      ap (map (λ (link : Link). link.to)) (sym (filter-filter (is_hit w (taken choice q)) (is_hit w (λ g. true)) links (λ link m e. refl)))
      ∙ sym (filter_map takes (λ (link : Link). link.to) (filter (is_hit w (λ g. true)) links))

  pub hits-taken : hits_of (box_search w q choice) ≡ filter takes (hits_of (box_walk w q))
  unfolding filter
  hits-taken = go (is_broken (box_walk w q)) refl
    where
      go : (t : Bool) → is_broken (box_walk w q) ≡ t → hits_of (box_search w q choice) ≡ filter takes (hits_of (box_walk w q))
      go true e = no_hits (box_search w q choice) (nine_alike ∙ e) ∙ sym (ap (filter takes) (no_hits (box_walk w q) e))
      go false e =
          hits_of_links w (range_of_box q) (taken choice q) (nine_alike ∙ e)
          ∙ hits_among_lem
          ∙ ap (filter takes) (sym (hits_of_links w (range_of_box q) (λ g. true) e))

pub holding_grants : HoldingGrants
holding_grants =
    record {
      apart = apart_iff;
      touches = touches_iff;
      holds = holds_iff;
      overlapping = holds-overlaps;
      points = points-held;
      included = λ q g h. h.0;
      nine = nine_alike;
      hits = hits-taken;
    }
