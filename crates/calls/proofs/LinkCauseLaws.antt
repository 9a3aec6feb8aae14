-- Fault 9 of the walks that stop (specs/Causes) and of document 01's links (specs/LinkCauses) is one fault, on any words.
--   is_broken_links        of a search; hits_of_links: where it is not broken, its hits are those among the links, whatever their test
--   point_broken_links     of decide's search
--   grant_broken_links     of grant
--   revoke_broken_links    of revoke
-- Assumes nothing.
use Prim.Native.Nat.{ℕ, ◌≤◌}
use mathlib.Core.Path.{◌≡◌, refl, sym, ◌∙◌}
use mathlib.Core.Bool.{Bool, true, false, cond, ◌&&◌, ◌||◌, true≢false}
use mathlib.Core.List.{List, [], ◌∷◌, map}
use lib.Dec.{eqb-suc-zero}
use lib.ListN.{length, get_or}
use native.Mathlib.Omega.{arith}
use Rattle.lists.specs.Tests.{filter}
use Rattle.model.specs.declared.Box.{Box}
use Rattle.model.specs.declared.Grant.{Grant}
use Rattle.model.specs.declared.Choice.TheVariants.{Touching}
use Rattle.model.specs.Quarters.{coverable}
use Rattle.model.specs.Box.{point_box}
use Rattle.model.specs.Relation.{taken}
use Rattle.model.specs.Call.{Request}
use Rattle.geometry.specs.Levels.{levels}
use Rattle.geometry.specs.Region.{Region}
use Rattle.geometry.specs.SearchRange.{range_of_box, range_of_number}
use Rattle.geometry.specs.Point.{in_range}
use Rattle.pool.specs.Capacity.{capacity_of}
use Rattle.adt.specs.Search.{Spot, Search, broken, going, search_by, search}
use Rattle.adt.specs.Insert.{InsertionWalk}
use Rattle.adt.specs.Insert as insert
use Rattle.adt.specs.Remove.{RemovalWalk, terminal_from}
use Rattle.adt.specs.Remove as remove
use Rattle.adt.specs.Links.{Link, broken_by, search_links, is_hit, hits_among}
use Rattle.adt.proofs.SearchLinks.{Searched, search-broken_iff, search-going}
use Rattle.adt.proofs.InsertionLinks.{broken_insertion, descend-broken, free_broken_links}
use Rattle.adt.proofs.RemovalLinks.{broken_removal, terminal_from-broken}
use Rattle.calls.specs.Walks.{box_search, no_walk, point_search, is_broken, hits_of, removal_of}
use Rattle.calls.specs.Causes.{number_live, insertion_broken, removal_broken, grant_broken, revoke_broken}
use Rattle.calls.specs.LinkCauses.{search_meets9, point_meets9, hits_by, grant_meets9, removal_meets9, revoke_meets9}

module _ (w : List ℕ) (q : Region) (passes : Grant → Bool) where
  pub is_broken_links : is_broken (search_by w q passes) ≡ search_meets9 w q
  unfolding search_meets9
  is_broken_links = go (search_by w q passes) refl
    where
      go : (s : Search) → search_by w q passes ≡ s → is_broken s ≡ broken_by w (capacity_of w) 0 (search_links w q)
      go broken e = sym ((search-broken_iff w q passes).0 e)
      go (going met hits first) e = sym (search-going w q passes met hits first e).whole

  pub hits_of_links : is_broken (search_by w q passes) ≡ false → hits_of (search_by w q passes) ≡ hits_by w q passes
  unfolding hits_by
  hits_of_links = go (search_by w q passes) refl
    where
      go : (s : Search) → search_by w q passes ≡ s → is_broken s ≡ false → hits_of s ≡ hits_among w passes (search_links w q)
      go broken e whole = absurd (true≢false whole)
      go (going met hits first) e whole = (search-going w q passes met hits first e).found

pub point_broken_links : (w : List ℕ) (staff door quarter : ℕ) → is_broken (point_search w staff door quarter) ≡ point_meets9 w staff door quarter
unfolding point_meets9
point_broken_links w staff door quarter = go (coverable quarter)
  where
    q : Box
    q = point_box staff door quarter

    go : (t : Bool) → is_broken (cond t (box_search w q Touching) no_walk) ≡ (t && search_meets9 w (range_of_box q))
    go true = is_broken_links w (range_of_box q) (taken Touching q)
    go false = refl

insertion_broken-same : (way : InsertionWalk) → insertion_broken way ≡ broken_insertion way
insertion_broken-same insert.broken = refl
insertion_broken-same (insert.blank_at at parent) = refl

removal_broken-same : (d : RemovalWalk) → removal_broken d ≡ broken_removal d
removal_broken-same remove.broken = refl
removal_broken-same (remove.terminal leaf at) = refl

-- what follows an alternative matters only where that fails
or_same : {a b x y : Bool} → a ≡ b → (a ≡ false → x ≡ y) → (a || x) ≡ (b || y)
or_same {a} {b} {x} {y} e f = rw (← e) (go a f)
  where
    go : (t : Bool) → (t ≡ false → x ≡ y) → (t || x) ≡ (t || y)
    go true f = refl
    go false f = f refl

pub grant_broken_links : (w : List ℕ) (r : Request) → grant_broken w r ≡ grant_meets9 w r
unfolding grant_broken grant_meets9
grant_broken_links w r =
    let q = range_of_number r.number in
    or_same (is_broken_links w q (in_range q)) (λ whole. rw (hits_of_links w q (in_range q) whole, insertion_broken-same, descend-broken, free_broken_links))

hits_among-kept : (w : List ℕ) (passes : Grant → Bool) (links : List Link) → hits_among w passes links ≡ map (λ link. link.to) (filter (is_hit w passes) links)
unfolding hits_among
hits_among-kept w passes links = refl

-- the removal walk from the first hit, where there is one
removal_links_lem : (w : List ℕ) (q : Region) → is_broken (search w q) ≡ false
    → (number_live (hits_of (search w q)) && removal_broken (removal_of w (search w q))) ≡ removal_meets9 w (filter (is_hit w (in_range q)) (search_links w q))
removal_links_lem w q = go (search w q) refl
  where
    walk : (met : ℕ) (hits : List ℕ) (first : Spot) (links : List Link) → Searched w q (in_range q) met hits first
        → filter (is_hit w (in_range q)) (search_links w q) ≡ links
        → hits ≡ map (λ link. link.to) links
        → (number_live hits && removal_broken (terminal_from w (get_or hits 0 0) first)) ≡ removal_meets9 w links
    walk met hits first [] found kept is = rw is
    walk met hits first (f ∷ fs) found kept is =
        let h = found.first-hit f fs kept in
        let live : number_live hits ≡ true = rw (is, eqb-suc-zero (length (map (λ (link : Link). link.to) fs))) in
        let above : first.level ≤ levels = omega (arith, h.level, h.within.above) in
        rw (live, removal_broken-same, h.cell) (terminal_from-broken w f.to first above h.some ∙ rw h.level)

    go : (s : Search) → search w q ≡ s → is_broken s ≡ false
        → (number_live (hits_of s) && removal_broken (removal_of w s)) ≡ removal_meets9 w (filter (is_hit w (in_range q)) (search_links w q))
    go broken e whole = absurd (true≢false whole)
    go (going met hits first) e whole =
        let found = search-going w q (in_range q) met hits first e in
        walk met hits first (filter (is_hit w (in_range q)) (search_links w q)) found refl (found.found ∙ hits_among-kept w (in_range q) (search_links w q))

pub revoke_broken_links : (w : List ℕ) (n : ℕ) → revoke_broken w n ≡ revoke_meets9 w n
unfolding revoke_broken revoke_meets9
revoke_broken_links w n = or_same (is_broken_links w (range_of_number n) (in_range (range_of_number n))) (removal_links_lem w (range_of_number n))
