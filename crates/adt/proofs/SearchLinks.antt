-- The search that stops and document 01's links are one search: it is broken exactly where they are, and else its hits are theirs.
--   pass_all_closed       a walk through a list of edges, from any state that goes on
--   enter_closed         the walk from any link on, from any such state
--   search-broken_iff    the search is broken exactly if its links are
--   FirstHit, Searched   what a search that goes to its end found: of its first hit, and of all
--   search-going         a search that goes to its end found that
-- Nothing is asked of the words: a search that stops at a link above C, and the links that are read on from there, are broken alike.
-- Assumes nothing.
use Prim.Native.Nat.{ℕ, suc, ◌+◌, ◌<◌, ◌≤◌}
use mathlib.Core.Logic.{◌↔◌}
use mathlib.Core.Path.{◌≡◌, refl, sym, ap, ◌∙◌}
use mathlib.Core.Bool.{Bool, true, false, cond, ◌&&◌, and-false, false≢true}
use mathlib.Core.List.{List, [], ◌∷◌, ◌++◌, map, append-nil, append_assoc, nil≢cons, head-eq_of_cons-eq}
use lib.Dec.{leb}
use lib.ListN.{length, get_or}
use native.Mathlib.Nat.{zero-add}
use native.Mathlib.Decide.{dec_le, dec_lt}
use native.Mathlib.Omega.{arith}
use borrow.Author.Tests.{lt-ltb, le-ltb, le-leb, lt-leb}
use Rattle.lists.specs.Tests.{filter}
use Rattle.model.specs.declared.Grant.{Grant}
use Rattle.geometry.specs.Levels.{levels}
use Rattle.geometry.specs.Region.{Region, root_region}
use Rattle.pool.specs.Layout.{root_place}
use Rattle.pool.specs.Capacity.{capacity_of}
use Rattle.adt.specs.Node.{is_parent}
use Rattle.adt.specs.Search.{Spot, nowhere, Search, broken, going, first_spot, meet, enter, search_by}
use Rattle.adt.specs.Links.{Link, broken_by, search_from, search_links, is_hit, hits_among}
use Rattle.adt.proofs.LinkLaws.{broken_by-none, broken_by-high, broken_by-deep, broken_by_parent, broken_by_full, broken_by_more}
use Rattle.adt.proofs.LinkLaws.{Within, unbroken-few, unbroken-first}
use Rattle.adt.proofs.SearchEdges.{Edge, link_at, links_at, edges_from, search_from_edges, pass, pass_all, pass_all_broken, pass_deep, enter-passes}

-- the spot that the first edge of a list leads to, or the one given where it has none
abbrev spot_or : Spot → List Edge → Spot
spot_or s [] = s
spot_or s (e ∷ es) = e.spot

cond_same : {A : Type 0} (b : Bool) (x : A) → cond b x x ≡ x
cond_same true x = refl
cond_same false x = refl

first_spot-same : (hits : List ℕ) (s : Spot) → first_spot hits s s ≡ s
first_spot-same [] s = refl
first_spot-same (k ∷ hits) s = refl

first_spot_hit : (hits : List ℕ) (k : ℕ) (before here : Spot) → first_spot (hits ++ (k ∷ [])) before here ≡ before
first_spot_hit [] k before here = refl
first_spot_hit (h ∷ hits) k before here = refl

abbrev is_hit_at : List ℕ → (Grant → Bool) → Edge → Bool
is_hit_at w passes e = is_hit w passes (link_at w e)

module _ (w : List ℕ) (c : ℕ) (q : Region) (passes : Grant → Bool) where
  -- the state after a walk that goes on through all the edges
  abbrev reached : ℕ → List ℕ → Spot → List Edge → Search
  reached met hits first es =
      let spot = first_spot hits first (spot_or first (filter (is_hit_at w passes) es)) in
      going (met + length (links_at w es)) (hits ++ hits_among w passes (links_at w es)) spot

  reached-none : (met : ℕ) (hits : List ℕ) (first : Spot) → reached met hits first [] ≡ going met hits first
  unfolding hits_among filter
  reached-none met hits first =
      let same : met + 0 ≡ met = omega arith in
      rw (same, append-nil, first_spot-same)

  -- an edge that no cause of fault 9 stands against
  pass_on : (e : Edge) (met : ℕ) (hits : List ℕ) (first : Spot) → get_or w e.spot.link 0 ≤ c → e.spot.level ≤ levels
      → is_parent w e.from (get_or w e.spot.link 0) ≡ true → met < c
      → pass w c q passes e (going met hits first)
      ≡ cond (is_hit_at w passes e) (going (suc met) (hits ++ (get_or w e.spot.link 0 ∷ [])) (first_spot hits first e.spot)) (going (suc met) hits first)
  unfolding pass meet
  pass_on e met hits first low above named room =
      rw (le-leb (get_or w e.spot.link 0) c low, le-leb e.spot.level levels above, named, lt-ltb met c room)

  pass_parent : (e : Edge) (met : ℕ) (hits : List ℕ) (first : Spot) → is_parent w e.from (get_or w e.spot.link 0) ≡ false
      → pass w c q passes e (going met hits first) ≡ broken
  unfolding pass
  pass_parent e met hits first other = rw (other, and-false)

  pass_high : (e : Edge) (met : ℕ) (hits : List ℕ) (first : Spot) → c < get_or w e.spot.link 0 → pass w c q passes e (going met hits first) ≡ broken
  unfolding pass
  pass_high e met hits first high = rw (lt-leb (get_or w e.spot.link 0) c high)

  pass_full : (e : Edge) (met : ℕ) (hits : List ℕ) (first : Spot) → c ≤ met → pass w c q passes e (going met hits first) ≡ broken
  unfolding pass meet
  pass_full e met hits first full = rw (le-ltb met c full)
      (cond_same (leb (get_or w e.spot.link 0) c && leb e.spot.level levels && is_parent w e.from (get_or w e.spot.link 0)) broken)

  -- the walk through a list of edges is as its links say
  abbrev Closed : List Edge → ℕ → List ℕ → Spot → Type 0
  Closed es met hits first =
      pass_all w c q passes es (going met hits first) ≡ cond (broken_by w c met (links_at w es)) broken (reached met hits first es)

  -- one edge more
  module _ (e : Edge) (es : List Edge) (met : ℕ) (hits : List ℕ) (first : Spot) where
    shift : suc met + length (links_at w es) ≡ met + suc (length (links_at w es))
    shift = omega arith

    reached_hit : is_hit_at w passes e ≡ true
        → reached (suc met) (hits ++ (get_or w e.spot.link 0 ∷ [])) (first_spot hits first e.spot) es ≡ reached met hits first (e ∷ es)
    unfolding hits_among filter
    reached_hit hit = rw (hit, shift, append_assoc, first_spot_hit)

    reached_miss : is_hit_at w passes e ≡ false → reached (suc met) hits first es ≡ reached met hits first (e ∷ es)
    unfolding hits_among filter
    reached_miss miss = rw (miss, shift)

    closed_stops : pass w c q passes e (going met hits first) ≡ broken → broken_by w c met (links_at w (e ∷ es)) ≡ true
        → Closed (e ∷ es) met hits first
    unfolding pass_all
    closed_stops p stops = rw stops (ap (pass_all w c q passes es) p ∙ pass_all_broken w c q passes es)

    closed_goes : get_or w e.spot.link 0 ≤ c → e.spot.level ≤ levels → is_parent w e.from (get_or w e.spot.link 0) ≡ true → met < c
        → ((hs : List ℕ) (f : Spot) → Closed es (suc met) hs f)
        → Closed (e ∷ es) met hits first
    unfolding pass_all
    closed_goes low above named room rest =
        rw (broken_by_more w c met (link_at w e) (links_at w es) low above named)
        (ap (pass_all w c q passes es) (pass_on e met hits first low above named room) ∙ go (is_hit_at w passes e) refl)
      where
        go : (b : Bool) → is_hit_at w passes e ≡ b
            → let found = going (suc met) (hits ++ (get_or w e.spot.link 0 ∷ [])) (first_spot hits first e.spot) in
            pass_all w c q passes es (cond b found (going (suc met) hits first))
            ≡ cond (broken_by w c (suc met) (links_at w es)) broken (reached met hits first (e ∷ es))
        go true hit = rw (← reached_hit hit) (rest (hits ++ (get_or w e.spot.link 0 ∷ [])) (first_spot hits first e.spot))
        go false miss = rw (← reached_miss miss) (rest hits first)

    closed_more : ((hs : List ℕ) (f : Spot) → suc met ≤ c → Closed es (suc met) hs f) → Closed (e ∷ es) met hits first
    closed_more rest =
        go (dec_le (get_or w e.spot.link 0) c) (dec_le e.spot.level levels) (dec_lt met c) (is_parent w e.from (get_or w e.spot.link 0)) refl
      where
        go : Dec (get_or w e.spot.link 0 ≤ c) → Dec (e.spot.level ≤ levels) → Dec (met < c) → (named : Bool)
            → is_parent w e.from (get_or w e.spot.link 0) ≡ named → Closed (e ∷ es) met hits first
        go (no high) above room named is =
            closed_stops (pass_high e met hits first (omega arith)) (broken_by-high w c met (link_at w e) (links_at w es) (omega arith))
        go (yes low) (no deep) room named is =
            closed_stops (pass_deep w c q passes e (going met hits first) (omega arith))
            (broken_by-deep w c met (link_at w e) (links_at w es) (omega arith))
        go (yes low) (yes above) (no full) named is =
            closed_stops (pass_full e met hits first (omega arith)) (broken_by_full w c met (link_at w e) (links_at w es) (omega arith))
        go (yes low) (yes above) (yes room) false is =
            closed_stops (pass_parent e met hits first is) (broken_by_parent w c met (link_at w e) (links_at w es) is)
        go (yes low) (yes above) (yes room) true is = closed_goes low above is room (λ hs f. rest hs f room)

  pub pass_all_closed : (es : List Edge) (met : ℕ) (hits : List ℕ) (first : Spot) → met ≤ c → Closed es met hits first
  unfolding pass_all
  pass_all_closed [] met hits first few = sym (rw (broken_by-none w c met few) (reached-none met hits first))
  pass_all_closed (e ∷ es) met hits first few = closed_more e es met hits first (pass_all_closed es (suc met))

  -- from any link on, n levels left below the parent: the first hit hangs where it did, else at the spot of the first link that is a hit
  pub enter_closed : (n l from at : ℕ) (g : Region) (met : ℕ) (hits : List ℕ) (first : Spot) → l + n ≡ suc levels → met ≤ c
      → let links = search_from w q n l from at g in
      let spot = first_spot hits first (spot_or first (filter (is_hit_at w passes) (edges_from w q n l from at g))) in
      enter w c q passes n from at g (going met hits first)
      ≡ cond (broken_by w c met links) broken (going (met + length links) (hits ++ hits_among w passes links) spot)
  enter_closed n l from at g met hits first depth few =
      rw (search_from_edges w q n l from at g)
      (enter-passes w c q passes n l from at g (going met hits first) depth ∙ pass_all_closed (edges_from w q n l from at g) met hits first few)

filter_map : {A B : Type 0} (f : A → B) (t : B → Bool) (xs : List A) → filter t (map f xs) ≡ map f (filter (λ x. t (f x)) xs)
unfolding filter
filter_map f t [] = refl
filter_map f t (x ∷ xs) = go (t (f x)) (filter_map f t xs)
  where
    go : (b : Bool) → filter t (map f xs) ≡ map f (filter (λ y. t (f y)) xs)
        → cond b (f x ∷ filter t (map f xs)) (filter t (map f xs)) ≡ map f (cond b (x ∷ filter (λ y. t (f y)) xs) (filter (λ y. t (f y)) xs))
    go true e = ap (◌∷◌ (f x)) e
    go false e = e

filter-some : {A : Type 0} (t : A → Bool) (xs : List A) (y : A) (ys : List A) → filter t xs ≡ y ∷ ys → 1 ≤ length xs
unfolding filter
filter-some t [] y ys e = absurd (nil≢cons e)
filter-some t (x ∷ xs) y ys e = omega arith

hits_among-first : (w : List ℕ) (passes : Grant → Bool) (links : List Link) (f : Link) (fs : List Link) → filter (is_hit w passes) links ≡ f ∷ fs
    → get_or (hits_among w passes links) 0 0 ≡ f.to
unfolding hits_among
hits_among-first w passes links f fs kept = rw kept

-- the first hit hangs at the spot `first`: it is that of the first link f that is a hit
pub record FirstHit (w hits : List ℕ) (first : Spot) (f : Link) : Type 0 where
  pub level : first.level ≡ f.level
  pub holds : get_or w first.link 0 ≡ f.to
  pub cell : get_or hits 0 0 ≡ f.to
  pub within : Within w (capacity_of w) f
  pub some : 1 ≤ capacity_of w

pub record Searched (w : List ℕ) (q : Region) (passes : Grant → Bool) (met : ℕ) (hits : List ℕ) (first : Spot) : Type 0 where
  pub whole : broken_by w (capacity_of w) 0 (search_links w q) ≡ false
  pub count : met ≡ length (search_links w q)
  pub found : hits ≡ hits_among w passes (search_links w q)
  pub first-hit : (f : Link) (fs : List Link) → filter (is_hit w passes) (search_links w q) ≡ f ∷ fs → FirstHit w hits first f

-- the whole search
module _ (w : List ℕ) (q : Region) (passes : Grant → Bool) where
  abbrev search_edges : List Edge
  search_edges = edges_from w q (suc levels) 0 0 root_place root_region

  search_links_edges : search_links w q ≡ links_at w search_edges
  unfolding search_links
  search_links_edges = search_from_edges w q (suc levels) 0 0 root_place root_region

  -- the state of a search that goes to its end
  abbrev whole_search : Search
  whole_search =
      going (length (search_links w q)) (hits_among w passes (search_links w q)) (spot_or nowhere (filter (is_hit_at w passes) search_edges))

  search_closed : search_by w q passes ≡ cond (broken_by w (capacity_of w) 0 (search_links w q)) broken whole_search
  unfolding search_by search_links
  search_closed =
      rw (← zero-add (length (search_from w q (suc levels) 0 0 root_place root_region)))
      (enter_closed w (capacity_of w) q passes (suc levels) 0 0 root_place root_region 0 [] nowhere refl (omega arith))

  pub search-broken_iff : (search_by w q passes ≡ broken) ↔ (broken_by w (capacity_of w) 0 (search_links w q) ≡ true)
  search-broken_iff = go (broken_by w (capacity_of w) 0 (search_links w q)) search_closed
    where
      go : (b : Bool) → search_by w q passes ≡ cond b broken whole_search → (search_by w q passes ≡ broken) ↔ (b ≡ true)
      go true p = (λ e. refl, λ e. p)
      go false p = (λ e. absurd (let z : ◌≡◌ {A = ℕ} 0 1 = cc in omega arith), λ e. absurd (false≢true e))

  pub search-going : (met : ℕ) (hits : List ℕ) (first : Spot) → search_by w q passes ≡ going met hits first → Searched w q passes met hits first
  search-going met hits first e = go (broken_by w (capacity_of w) 0 (search_links w q)) refl search_closed
    where
      head_hit : (es : List Edge) (f : Link) (fs : List Link) → first ≡ spot_or nowhere es → links_at w es ≡ f ∷ fs
          → (first.level ≡ f.level) × (get_or w first.link 0 ≡ f.to)
      head_hit [] f fs s k = absurd (nil≢cons k)
      head_hit (edge ∷ es) f fs s k =
          let same : link_at w edge ≡ f = head-eq_of_cons-eq k in
          (rw s (ap (λ (x : Link). x.level) same), rw s (ap (λ (x : Link). x.to) same))

      go : (b : Bool) → broken_by w (capacity_of w) 0 (search_links w q) ≡ b → search_by w q passes ≡ cond b broken whole_search → Searched w q passes met hits first
      go true whole p = absurd (let z : ◌≡◌ {A = ℕ} 0 1 = cc in omega arith)
      go false whole p =
          let found : hits ≡ hits_among w passes (search_links w q) = cc in
          record {
            whole = whole;
            count = cc;
            found = found;
            first-hit = λ f fs kept.
                let hangs = head_hit (filter (is_hit_at w passes) search_edges) f fs (cc) (sym (filter_map (link_at w) (is_hit w passes) search_edges) ∙ (rw search_links_edges at kept)) in
                record {
                  level = hangs.0;
                  holds = hangs.1;
                  cell = ap (λ (hs : List ℕ). get_or hs 0 0) found ∙ hits_among-first w passes (search_links w q) f fs kept;
                  within = unbroken-first w (capacity_of w) 0 (search_links w q) whole (is_hit w passes) f fs kept;
                  some = omega (arith, filter-some (is_hit w passes) (search_links w q) f fs kept, unbroken-few w (capacity_of w) 0 (search_links w q) whole);
                };
          }
