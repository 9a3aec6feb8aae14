-- A search of a spelled tree finds exactly the tree's cells whose grants pass the test, in the tree's order, and knows where the first one hangs,
-- where no grant passes whose point lies outside the range.
--   Narrows w q passes t     of the tree's cells none passes that lies outside the range
--   Finds w passes t s       what a search that ends as s is to have found in the tree t
--   search_finds             where the root's link spells a tree of distinct cells, the search finds so
-- Assumes nothing.
use Prim.Native.Nat.{ℕ, zero, suc, ◌+◌, ◌-◌, ◌<◌, ◌≤◌}
use mathlib.Core.Path.{◌≡◌, refl, sym, ap, subst, ◌∙◌}
use mathlib.Core.Bool.{Bool, true, false, cond, true≢false}
use mathlib.Core.List.Memᴰ
use mathlib.Core.List.{List, [], ◌∷◌, ◌++◌, map, map-append, append_assoc, append-nil, nil≢cons, head-eq_of_cons-eq, Memᴰ}
use native.Mathlib.Omega.{arith}
use lib.ListN.{get_or}
use borrow.Author.Tests.{lt-ltb, le-leb, eq-eqb, ne_eqb}
use Rattle.lists.specs.Tests.{filter}
use Rattle.lists.proofs.TestLaws.{filter-append, filter_none, filter_map, filter_mem}
use Rattle.lists.proofs.DistinctLaws.{Distinct}
use Rattle.model.specs.declared.Grant.{Grant}
use Rattle.geometry.specs.declared.Side.TheVariants.{Left, Right}
use Rattle.geometry.specs.Axis.{axis_of}
use Rattle.geometry.specs.Levels.{levels}
use Rattle.geometry.specs.Region.{Region, root_region, half, meets}
use Rattle.geometry.specs.Point.{inside}
use Rattle.geometry.proofs.AxisLaws.{axis_lt}
use Rattle.geometry.proofs.RegionLaws.{Shape, root_shape, half-shape, common_meets}
use Rattle.pool.specs.Layout.{root_place}
use Rattle.pool.specs.Capacity.{capacity_of}
use Rattle.pool.specs.Cell.{grant_at}
use Rattle.adt.specs.Node.{link_place, parent_at, point_at}
use Rattle.adt.specs.Search.{Spot, nowhere, Search, going, first_spot, meet, visit_by, enter, search_by}
use Rattle.adt.proofs.Spells.{Tree, node, cells_of, size, Spells, spells_blank, spells_node}
use Rattle.adt.proofs.Parents.{Parented, parented_first, parented_child}
use Rattle.adt.proofs.TreeLaws.{cells-inside, size_few}
use Rattle.adt.proofs.PartLaws.{HangsAt, hangs_cell, Placed, placed_in, placed-cells, placed_hangs}

-- where the first of the cells found hangs
abbrev spot_of : List Placed → Spot
spot_of [] = nowhere
spot_of (p ∷ ps) = p.spot

-- a walk that met so many cells and found these
abbrev walked : ℕ → List Placed → Search
walked met found = going met (map (λ p. p.cell) found) (spot_of found)

-- the placed cell is a hit
abbrev is_in : List ℕ → (Grant → Bool) → Placed → Bool
is_in w passes p = passes (grant_at w p.cell)

-- the hits of a tree, each with its spot
abbrev hits_at : List ℕ → (Grant → Bool) → ℕ → ℕ → Tree → List Placed
hits_at w passes n at t = filter (is_in w passes) (placed_in n at t)

-- a walk through the tree t, from one that met so many cells and found these, ends as s: it found t's hits besides
record Through (w : List ℕ) (passes : Grant → Bool) (n at : ℕ) (t : Tree) (met : ℕ) (found : List Placed) (s : Search) : Type 0 where
  after : ℕ
  few : after ≤ met + size t
  ends : s ≡ walked after (found ++ hits_at w passes n at t)

abbrev pub Narrows : List ℕ → Region → (Grant → Bool) → Tree → Type 0
Narrows w q passes t = (k : ℕ) → Memᴰ k (cells_of t) → passes (grant_at w k) ≡ true → inside q (point_at w k) ≡ true

module _ (w : List ℕ) (c : ℕ) (q : Region) (passes : Grant → Bool) where
  -- the cell is met, and found if it is a hit
  meet-found : (here : Spot) (k met : ℕ) (found : List Placed) → met < c
      → meet w c q passes here k (walked met found) ≡ walked (suc met) (found ++ filter (is_in w passes) (record { cell = k; spot = here } ∷ []))
  unfolding meet filter
  meet-found here k met found lt = rw (lt-ltb met c lt) (go (passes (grant_at w k)))
    where
      new : Placed
      new = record { cell = k; spot = here }

      more : (found : List Placed)
          → going (suc met) (map (λ p. p.cell) found ++ (k ∷ [])) (first_spot (map (λ p. p.cell) found) (spot_of found) here)
          ≡ walked (suc met) (found ++ (new ∷ []))
      more [] = refl
      more (x ∷ xs) = ap (λ (ks : List ℕ). going (suc met) (x.cell ∷ ks) x.spot) (sym (map-append (λ p. p.cell) xs (new ∷ [])))

      go : (b : Bool)
          → cond b (going (suc met) (map (λ p. p.cell) found ++ (k ∷ [])) (first_spot (map (λ p. p.cell) found) (spot_of found) here)) (walked (suc met) found)
          ≡ walked (suc met) (found ++ cond b (new ∷ []) [])
      go true = more found
      go false = rw append-nil

  -- a blank link, one to a region apart from the range, and one that is gone through
  enter-blank : (n from at : ℕ) (g : Region) (met : ℕ) (hits : List ℕ) (first : Spot) → get_or w at 0 ≡ 0
      → enter w c q passes n from at g (going met hits first) ≡ going met hits first
  unfolding enter
  enter-blank zero from at g met hits first e = rw (eq-eqb (get_or w at 0) 0 e)
  enter-blank (suc n) from at g met hits first e = rw (eq-eqb (get_or w at 0) 0 e)

  module _ (n from at : ℕ) (g : Region) (met : ℕ) (hits : List ℕ) (first : Spot) (k : ℕ) (is : get_or w at 0 ≡ k) (pos : 0 < k) where
    enter-apart : meets g q ≡ false → enter w c q passes (suc n) from at g (going met hits first) ≡ going met hits first
    unfolding enter
    enter-apart e = rw (is, ne_eqb k 0 (omega arith), e)

    enter_visit : meets g q ≡ true → k ≤ c → parent_at w k ≡ from
        → enter w c q passes (suc n) from at g (going met hits first)
        ≡ visit_by w c q passes (enter w c q passes n) (record { level = levels - n; link = at }) k g (going met hits first)
    unfolding enter
    enter_visit e le named = rw (is, ne_eqb k 0 (omega arith), e, le-leb k c le, eq-eqb (parent_at w k) from named)

  -- none of a tree's cells is a hit where its region is apart from the range
  apart_none : {n k : ℕ} {g : Region} {t : Tree} (at : ℕ) → Shape g → Spells w c n g k t → Narrows w q passes t → meets g q ≡ false
      → hits_at w passes n at t ≡ []
  apart_none {n} {g = g} {t = t} at v s narrow e =
      filter_none (is_in w passes) (placed_in n at t)
      (λ p m. go p (hangs_cell (placed_hangs n at t p m)) (is_in w passes p) refl)
    where
      go : (p : Placed) → Memᴰ p.cell (cells_of t) → (b : Bool) → is_in w passes p ≡ b → b ≡ false
      go p m false j = refl
      go p m true j =
          absurd (true≢false (sym (common_meets g q (point_at w p.cell) (cells-inside v s p.cell m) (narrow p.cell m j)) ∙ e))

  -- a cell and its two children, where the walks through the children are known
  module _ (n from at k : ℕ) (g : Region) (l r : Tree) (met : ℕ) (found : List Placed) (is : get_or w at 0 ≡ k) (v : Shape g) (pos : 0 < k) (le : k ≤ c)
      (named : parent_at w k ≡ from) (s : Spells w c (suc n) g k (node k l r)) (narrow : Narrows w q passes (node k l r)) (lt : met < c) where
    abbrev here : Placed
    here = record { cell = k; spot = record { level = levels - n; link = at } }

    abbrev first : List Placed
    first = found ++ filter (is_in w passes) (here ∷ [])

    abbrev besides : List Placed
    besides = first ++ hits_at w passes n (link_place k Left) l

    hits_node : besides ++ hits_at w passes n (link_place k Right) r ≡ found ++ hits_at w passes (suc n) at (node k l r)
    unfolding placed_in
    hits_node =
        let L = placed_in n (link_place k Left) l in
        let R = placed_in n (link_place k Right) r in
        rw (filter-append (is_in w passes) (here ∷ []) (L ++ R), filter-append (is_in w passes) L R) (simp append_assoc)

    node_through : (L : Through w passes n (link_place k Left) l (suc met) first
        (enter w c q passes n k (link_place k Left) (half Left g (axis_of (levels - n))) (walked (suc met) first)))
        → Through w passes n (link_place k Right) r L.after besides
        (enter w c q passes n k (link_place k Right) (half Right g (axis_of (levels - n))) (walked L.after besides))
        → Through w passes (suc n) at (node k l r) met found (enter w c q passes (suc n) from at g (walked met found))
    unfolding size visit_by
    node_through L R = go (meets g q) refl
      where
        go : (b : Bool) → meets g q ≡ b → Through w passes (suc n) at (node k l r) met found (enter w c q passes (suc n) from at g (walked met found))
        go true e = record {
          after = R.after;
          few = omega (arith, L.few, R.few);
          ends =
              enter_visit n from at g met (map (λ p. p.cell) found) (spot_of found) k is pos e le named
              ∙ rw (meet-found here.spot k met found lt, L.ends) (R.ends ∙ ap (walked R.after) hits_node);
        }
        go false e = record {
          after = met;
          few = omega arith;
          ends =
              enter-apart n from at g met (map (λ p. p.cell) found) (spot_of found) k is pos e
              ∙ rw (apart_none at v s narrow e) (rw append-nil);
        }

  enter_through : {n k : ℕ} {g : Region} {t : Tree} (from at met : ℕ) (found : List Placed) → get_or w at 0 ≡ k → Shape g → Spells w c n g k t → Parented w from t
      → Narrows w q passes t → met + size t ≤ c
      → Through w passes n at t met found (enter w c q passes n from at g (walked met found))
  unfolding size placed_in filter cells_of
  enter_through {n} {g = g} from at met found is v spells_blank parents narrow fits = record {
    after = met;
    few = omega arith;
    ends = enter-blank n from at g met (map (λ p. p.cell) found) (spot_of found) is ∙ rw append-nil;
  }
  enter_through from at met found is v (spells_node {n = n} {g = g} {k = k} {l = l} {r = r} pos le i x y) parents narrow fits =
      let a = axis_of (levels - n) in
      let lt = axis_lt (levels - n) in
      let s : Spells w c (suc n) g k (node k l r) = spells_node pos le i x y in
      let few : met < c = omega arith in
      let named = parented_first parents in
      let left : Narrows w q passes l = λ j m. narrow j (Memᴰ.tail (Memᴰ.append_left (cells_of r) m)) in
      let right : Narrows w q passes r = λ j m. narrow j (Memᴰ.tail (Memᴰ.append_right (cells_of l) m)) in
      let before = first n from at k g l r met found is v pos le named s narrow few in
      let L = enter_through k (link_place k Left) (suc met) before refl (half-shape Left g a v lt) x (parented_child Left parents) left (omega arith) in
      let both = besides n from at k g l r met found is v pos le named s narrow few in
      let R = enter_through k (link_place k Right) L.after both refl (half-shape Right g a v lt) y (parented_child Right parents) right (omega (arith, L.few)) in
      node_through n from at k g l r met found is v pos le named s narrow few L R

-- the tree's cells whose grants pass, in the tree's order
abbrev pub hits_in : List ℕ → (Grant → Bool) → Tree → List ℕ
hits_in w passes t = filter (λ k. passes (grant_at w k)) (cells_of t)

pub record Finds (w : List ℕ) (passes : Grant → Bool) (t : Tree) (s : Search) : Type 0 where
  pub met : ℕ
  pub first : Spot
  pub few : met ≤ size t
  pub found : s ≡ going met (hits_in w passes t) first
  pub hangs : (k : ℕ) (ks : List ℕ) → hits_in w passes t ≡ k ∷ ks → HangsAt (suc levels) root_place t k first

pub search_finds : {w : List ℕ} {c : ℕ} {t : Tree} (q : Region) (passes : Grant → Bool)
    → Spells w c (suc levels) root_region (get_or w root_place 0) t → Parented w 0 t → Distinct (cells_of t) → capacity_of w ≡ c → Narrows w q passes t
    → Finds w passes t (search_by w q passes)
unfolding search_by
search_finds {w} {c} {t} q passes s parents d e narrow = record {
  met = walk.after;
  first = spot_of hits;
  few = omega (arith, walk.few);
  found =
      ap (λ (k : ℕ). enter w k q passes (suc levels) 0 root_place root_region (going 0 [] nowhere)) e
      ∙ walk.ends
      ∙ ap (λ (ks : List ℕ). going walk.after ks (spot_of hits)) same;
  hangs = λ k ks i. go k ks hits (λ p m. (filter_mem (is_in w passes) (placed_in (suc levels) root_place t) p m).0) (same ∙ i);
}
  where
    hits : List Placed
    hits = hits_at w passes (suc levels) root_place t

    walk : Through w passes (suc levels) root_place t 0 [] (enter w c q passes (suc levels) 0 root_place root_region (going 0 [] nowhere))
    walk = enter_through w c q passes 0 root_place 0 [] refl root_shape s parents narrow (omega (arith, size_few s d))

    same : map (λ p. p.cell) hits ≡ hits_in w passes t
    same =
        sym (filter_map (λ k. passes (grant_at w k)) (λ p. p.cell) (placed_in (suc levels) root_place t))
        ∙ ap (filter (λ k. passes (grant_at w k))) (placed-cells root_place s)

    go : (k : ℕ) (ks : List ℕ) (ps : List Placed) → ((p : Placed) → Memᴰ p ps → Memᴰ p (placed_in (suc levels) root_place t))
        → map (λ p. p.cell) ps ≡ k ∷ ks
        → HangsAt (suc levels) root_place t k (spot_of ps)
    go k ks [] f i = absurd (nil≢cons i)
    go k ks (p ∷ ps) f i =
        subst (λ (j : ℕ). HangsAt (suc levels) root_place t j p.spot) (head-eq_of_cons-eq i)
        (placed_hangs (suc levels) root_place t p (f p (Memᴰ.head refl)))
