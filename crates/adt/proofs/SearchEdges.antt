-- The search, edge by edge: the walk that stops is one fold over the edges of document 01's links.
--   Edge                     a link that is gone through: the cell that it is gone through from, and the spot that it leads to
--   link_at w e, links_at w es   an edge's link, as specs/Links has it, and those of a list of them
--   edges_from w q n l from at g   the edges that the search goes through, in its order, as `search_from` lists the links
--   search_from_edges         `search_from` lists the links of these edges
--   pass w c q passes e s        the walk s goes through an edge: broken above C, below the last level, at a cell that names another parent, or
--                            once C cells were met
--   pass_all w c q passes es s    through all of them
--   enter-passes             the walk that stops is just that
-- Assumes nothing.
use Prim.Native.Nat.{ℕ, zero, suc, ◌+◌, ◌-◌, ◌<◌, ◌≤◌}
use mathlib.Core.Path.{◌≡◌, refl, sym, ◌∙◌}
use mathlib.Core.Bool.{Bool, true, false, cond, ◌&&◌, and-true, and-false}
use mathlib.Core.List.{List, [], ◌∷◌, ◌++◌, map, map-append}
use lib.Dec.{leb, eqb}
use lib.ListN.{get_or}
use native.Mathlib.Omega.{arith}
use borrow.Author.Tests.{le-leb, lt-leb}
use Rattle.model.specs.declared.Grant.{Grant}
use Rattle.geometry.specs.declared.Side.TheVariants.{Left, Right}
use Rattle.geometry.specs.Axis.{axis_of}
use Rattle.geometry.specs.Levels.{levels}
use Rattle.geometry.specs.Region.{Region, half, meets}
use Rattle.adt.specs.Node.{link_place, is_parent}
use Rattle.adt.specs.Search.{Spot, Search, broken, going, unless_broken, meet, visit_by, enter}
use Rattle.adt.specs.Links.{Link, search_from}

pub record Edge : Type 0 where
  pub from : ℕ
  pub spot : Spot

abbrev pub link_at : List ℕ → Edge → Link
link_at w e = record { level = e.spot.level; from = e.from; to = get_or w e.spot.link 0 }

abbrev pub links_at : List ℕ → List Edge → List Link
links_at w es = map (link_at w) es

abbrev edge_to : ℕ → ℕ → ℕ → Edge
edge_to from l at = record { from = from; spot = record { level = l; link = at } }

map-cond : {A B : Type 0} (f : A → B) (b : Bool) (xs ys : List A) → map f (cond b xs ys) ≡ cond b (map f xs) (map f ys)
map-cond f true xs ys = refl
map-cond f false xs ys = refl

module _ (w : List ℕ) where
  unfoldable pub edges_from : Region → ℕ → ℕ → ℕ → ℕ → Region → List Edge
  edges_from q zero l from at g = cond (eqb (get_or w at 0) 0) [] (edge_to from l at ∷ [])
  edges_from q (suc n) l from at g =
      let k = get_or w at 0 in
      let a = axis_of l in
      let left = edges_from q n (suc l) k (link_place k Left) (half Left g a) in
      let right = edges_from q n (suc l) k (link_place k Right) (half Right g a) in
      let onward : List Edge = edge_to from l at ∷ left ++ right in
      cond (eqb k 0) [] (cond (meets g q) onward [])

  pub search_from_edges : (q : Region) (n l from at : ℕ) (g : Region) → search_from w q n l from at g ≡ links_at w (edges_from q n l from at g)
  unfolding search_from edges_from
  search_from_edges q zero l from at g = simp map-cond
  search_from_edges q (suc n) l from at g =
      let k = get_or w at 0 in
      let a = axis_of l in
      rw (search_from_edges q n (suc l) k (link_place k Left) (half Left g a), search_from_edges q n (suc l) k (link_place k Right) (half Right g a))
      (simp (map-cond, map-append))

module _ (w : List ℕ) (c : ℕ) (q : Region) (passes : Grant → Bool) where
  unfoldable pub pass : Edge → Search → Search
  pass e s =
      let k = get_or w e.spot.link 0 in
      unless_broken s (cond (leb k c && leb e.spot.level levels && is_parent w e.from k) (meet w c q passes e.spot k s) broken)

  unfoldable pub pass_all : List Edge → Search → Search
  pass_all [] s = s
  pass_all (e ∷ es) s = pass_all es (pass e s)

  pub pass_all_broken : (es : List Edge) → pass_all es broken ≡ broken
  unfolding pass_all pass
  pass_all_broken [] = refl
  pass_all_broken (e ∷ es) = pass_all_broken es

  pass_all_append : (xs ys : List Edge) (s : Search) → pass_all (xs ++ ys) s ≡ pass_all ys (pass_all xs s)
  unfolding pass_all
  pass_all_append [] ys s = refl
  pass_all_append (e ∷ xs) ys s = pass_all_append xs ys (pass e s)

  pass_all_cond : (b : Bool) (xs ys : List Edge) (s : Search) → pass_all (cond b xs ys) s ≡ cond b (pass_all xs s) (pass_all ys s)
  pass_all_cond true xs ys s = refl
  pass_all_cond false xs ys s = refl

  -- an edge to below the last level breaks the walk
  pub pass_deep : (e : Edge) (s : Search) → levels < e.spot.level → pass e s ≡ broken
  unfolding pass
  pass_deep e broken deep = refl
  pass_deep e (going met hits first) deep = rw (lt-leb e.spot.level levels deep, and-false)

  -- an edge that leads not below the last level
  pass_above : (e : Edge) (s : Search) → e.spot.level ≤ levels
      → let k = get_or w e.spot.link 0 in
      pass e s ≡ unless_broken s (cond (leb k c && is_parent w e.from k) (meet w c q passes e.spot k s) broken)
  unfolding pass
  pass_above e s above = rw (le-leb e.spot.level levels above, and-true)

  -- a cell and its two children, where the children's walks are known
  visit_passes : (child : ℕ → ℕ → Region → Search → Search) (e : Edge) (g : Region) (met : ℕ) (hits : List ℕ) (first : Spot) (left right : List Edge)
      → let k = get_or w e.spot.link 0 in
      let a = axis_of e.spot.level in
      let s = going met hits first in
      e.spot.level ≤ levels
      → ((t : Search) → child k (link_place k Left) (half Left g a) t ≡ pass_all left t)
      → ((t : Search) → child k (link_place k Right) (half Right g a) t ≡ pass_all right t)
      → cond (leb k c && is_parent w e.from k) (visit_by w c q passes child e.spot k g s) broken ≡ pass_all (e ∷ left ++ right) s
  unfolding visit_by pass_all
  visit_passes child e g met hits first left right above goLeft goRight =
      go (leb (get_or w e.spot.link 0) c && is_parent w e.from (get_or w e.spot.link 0))
      ∙ sym (pass_all_append left right (pass e (going met hits first)) ∙ rw (pass_above e (going met hits first) above))
    where
      go : (b : Bool)
          → let k = get_or w e.spot.link 0 in
          let s = meet w c q passes e.spot k (going met hits first) in
          cond b (visit_by w c q passes child e.spot k g (going met hits first)) broken ≡ pass_all right (pass_all left (cond b s broken))
      go true = goRight _ ∙ rw goLeft
      go false = sym (rw (pass_all_broken left, pass_all_broken right))

  -- n levels are left below the parent, so the link leads to the level l, counted from 0 at the root
  pub enter-passes : (n l from at : ℕ) (g : Region) (s : Search) → l + n ≡ suc levels
      → enter w c q passes n from at g s ≡ pass_all (edges_from w q n l from at g) s
  unfolding enter edges_from pass_all
  enter-passes zero l from at g broken depth = sym (pass_all_broken (edges_from w q zero l from at g))
  enter-passes zero l from at g (going met hits first) depth =
      rw (pass_all_cond, pass_deep (edge_to from l at) (going met hits first) (omega arith))
  enter-passes (suc n) l from at g broken depth = sym (pass_all_broken (edges_from w q (suc n) l from at g))
  enter-passes (suc n) l from at g (going met hits first) depth =
      let k = get_or w at 0 in
      let a = axis_of l in
      let level : levels - n ≡ l = omega arith in
      let left = edges_from w q n (suc l) k (link_place k Left) (half Left g a) in
      let right = edges_from w q n (suc l) k (link_place k Right) (half Right g a) in
      let goLeft = enter-passes n (suc l) k (link_place k Left) (half Left g a) in
      let goRight = enter-passes n (suc l) k (link_place k Right) (half Right g a) in
      let below : suc l + n ≡ suc levels = omega arith in
      rw (
        pass_all_cond,
        pass_all_cond,
        level,
        visit_passes (enter w c q passes n) (edge_to from l at) g met hits first left right (omega arith) (λ t. goLeft t below) (λ t. goRight t below),
      )
