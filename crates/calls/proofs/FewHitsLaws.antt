-- A walk that meets more than C cells gives 9, so that no search hits more, on any words.
--   hits_few     a search hits no more cells than C, whatever its test; box_few: list's
-- Assumes nothing.
use Prim.Native.Nat.{ℕ, ◌≤◌}
use mathlib.Core.Path.{◌≡◌, refl, ap}
use mathlib.Core.Bool.{Bool}
use mathlib.Core.List.{List}
use native.Mathlib.Omega.{arith}
use lib.ListN.{length, length-map}
use Rattle.lists.specs.Tests.{filter}
use Rattle.lists.proofs.TestLaws.{length-filter}
use Rattle.model.specs.declared.Box.{Box}
use Rattle.model.specs.declared.Grant.{Grant}
use Rattle.model.specs.declared.Choice.{Choice}
use Rattle.model.specs.Relation.{taken}
use Rattle.geometry.specs.Region.{Region}
use Rattle.geometry.specs.SearchRange.{range_of_box}
use Rattle.pool.specs.Capacity.{capacity_of}
use Rattle.adt.specs.Search.{Search, broken, going, search_by}
use Rattle.adt.specs.Links.{Link, search_links, is_hit, hits_among}
use Rattle.adt.proofs.LinkLaws.{unbroken-few}
use Rattle.adt.proofs.SearchLinks.{search-going}
use Rattle.calls.specs.Walks.{box_search, hits_of}

pub hits_few : (w : List ℕ) (q : Region) (passes : Grant → Bool) → length (hits_of (search_by w q passes)) ≤ capacity_of w
unfolding hits_among
hits_few w q passes = go (search_by w q passes) refl
  where
    go : (s : Search) → search_by w q passes ≡ s → length (hits_of s) ≤ capacity_of w
    go broken e = omega arith
    go (going met hits first) e =
        let s = search-going w q passes met hits first e in
        let links = search_links w q in
        omega (
          arith,
          ap length s.found,
          length-map (filter (is_hit w passes) links) (λ (link : Link). link.to),
          length-filter (is_hit w passes) links,
          unbroken-few w (capacity_of w) 0 links s.whole,
        )

pub box_few : (w : List ℕ) (q : Box) (choice : Choice) → length (hits_of (box_search w q choice)) ≤ capacity_of w
box_few w q choice = hits_few w (range_of_box q) (taken choice q)
