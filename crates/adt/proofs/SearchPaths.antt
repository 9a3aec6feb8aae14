-- The cells that a search meets, where it goes to its end on any words, hang on paths from the root along which each names its parent.
--   along_end       the end of such a path
--   links_some      a hit's cell is that of some link
--   going-path      the first hit of a search that goes to its end is at the end of such a path, of as many steps as its level
-- Assumes nothing.
use Prim.Native.Nat.{ℕ, zero, suc}
use mathlib.Core.Path.{◌≡◌, refl, sym, ap, subst, ◌∙◌}
use mathlib.Core.Bool.{Bool, true, false, cond}
use mathlib.Core.List.{List, [], ◌∷◌, ◌++◌, map, nil≢cons, head-eq_of_cons-eq}
use native.Mathlib.Omega.{arith}
use lib.Dec.{eqb}
use lib.ListN.{length, get_or}
use borrow.Author.Tests.{eqb-true, eqb-false}
use Rattle.lists.specs.Tests.{filter, any}
use Rattle.model.specs.declared.Grant.{Grant}
use Rattle.geometry.specs.declared.Side.{Side}
use Rattle.geometry.specs.declared.Side.TheVariants.{Left, Right}
use Rattle.geometry.specs.Axis.{axis_of}
use Rattle.geometry.specs.Levels.{levels}
use Rattle.geometry.specs.Region.{Region, root_region, half, meets}
use Rattle.pool.specs.Layout.{root_place}
use Rattle.pool.specs.Capacity.{capacity_of}
use Rattle.adt.specs.Node.{link_place, parent_at}
use Rattle.adt.specs.Search.{Spot, going, search_by}
use Rattle.adt.specs.Links.{Link, meets_cause, broken_by, search_from, search_links, is_hit, hits_among}
use Rattle.adt.specs.Reach.{node_at, cell_before, NamesBefore, ParentsAlong, PathTo}
use Rattle.adt.proofs.LinkLaws.{or_left, or_right, right_within}
use Rattle.adt.proofs.ReachLaws.{path_child}
use Rattle.adt.proofs.SearchLinks.{search-going}

pub along_end : (w : List ℕ) (c : ℕ) (p : List Side) → ParentsAlong w c p → NamesBefore w c p
unfolding ParentsAlong
along_end w c [] a = a
along_end w c (s ∷ p) a = a.0

pub links_some : (links : List Link) {k : ℕ} {ks : List ℕ} → k ∷ ks ≡ map (λ (link : Link). link.to) links
    → (f : Link) × (fs : List Link) × (links ≡ f ∷ fs)
links_some [] e = absurd (let z : ◌≡◌ {A = ℕ} 0 1 = cc in omega arith)
links_some (f ∷ fs) e = (f, fs, refl)

any-parts : {A : Type 0} (t : A → Bool) (xs ys : List A) → any t (xs ++ ys) ≡ false → (any t xs ≡ false) × (any t ys ≡ false)
unfolding any
any-parts t [] ys e = (refl, e)
any-parts t (x ∷ xs) ys e =
    let rest = any-parts t xs ys (or_right (t x) (any t (xs ++ ys)) e) in
    (rw (or_left (t x) (any t (xs ++ ys)) e) rest.0, rest.1)

module _ (w : List ℕ) (c : ℕ) where
  -- what is known of a path before its end is met
  abbrev Before : List Side → Type 0
  Before [] = Unit
  Before (s ∷ p) = ParentsAlong w c p

  along_met : (p : List Side) → Before p → NamesBefore w c p → ParentsAlong w c p
  unfolding ParentsAlong
  along_met [] before here = here
  along_met (s ∷ p) before here = (here, before)

  -- the links each lead to the end of such a path, at their level
  unfoldable AllLead : List Link → Type 0
  AllLead [] = Unit
  AllLead (f ∷ fs) = PathTo w c f.to f.level × AllLead fs

  lead_append : (xs ys : List Link) → AllLead xs → AllLead ys → AllLead (xs ++ ys)
  unfolding AllLead
  lead_append [] ys a b = b
  lead_append (x ∷ xs) ys a b = (a.0, lead_append xs ys a.1 b)

  lead_first : (t : Link → Bool) (xs : List Link) (f : Link) (fs : List Link) → AllLead xs → filter t xs ≡ f ∷ fs → PathTo w c f.to f.level
  unfolding AllLead filter
  lead_first t [] f fs a kept = absurd (nil≢cons kept)
  lead_first t (x ∷ xs) f fs a kept = go (t x) kept (lead_first t xs f fs a.1)
    where
      go : (b : Bool) → cond b (x ∷ filter t xs) (filter t xs) ≡ f ∷ fs → (filter t xs ≡ f ∷ fs → PathTo w c f.to f.level) → PathTo w c f.to f.level
      go true kept rest = subst (λ (y : Link). PathTo w c y.to y.level) (head-eq_of_cons-eq kept) a.0
      go false kept rest = rest kept

  -- the link at a place, which ends the path p
  module _ (l from at : ℕ) (p : List Side) (ends : get_or w at 0 ≡ node_at w p) (came : from ≡ cell_before w p) (deep : length p ≡ l) (before : Before p) where
    abbrev here : Link
    here = record { level = l; from = from; to = get_or w at 0 }

    met_along : ¬ (get_or w at 0 ≡ 0) → meets_cause w c here ≡ false → ParentsAlong w c p
    met_along nz right =
        let in-pool = right_within w c here right in
        along_met p before
        (record {
          some = omega (arith, ends, nz);
          few = omega (arith, ends, in-pool.low);
          named = ap (parent_at w) (sym ends) ∙ eqb-true (parent_at w (get_or w at 0)) from in-pool.named ∙ came;
        })

    -- the link, and those behind it to the left and to the right
    met_all : ¬ (get_or w at 0 ≡ 0) → (left right : List Link) → (ParentsAlong w c p → any (meets_cause w c) left ≡ false → AllLead left)
        → (ParentsAlong w c p → any (meets_cause w c) right ≡ false → AllLead right)
        → any (meets_cause w c) (here ∷ left ++ right) ≡ false → AllLead (here ∷ left ++ right)
    unfolding any AllLead
    met_all nz left right goLeft goRight e =
        let others = any (meets_cause w c) (left ++ right) in
        let along = met_along nz (or_left (meets_cause w c here) others e) in
        let parts = any-parts (meets_cause w c) left right (or_right (meets_cause w c here) others e) in (
          record { path = p; ends = sym ends; steps = deep; parents = along },
          lead_append left right (goLeft along parts.0) (goRight along parts.1),
        )

    -- the link of the cell there to its child on a side ends the path that goes on to it
    onward_ends : ¬ (get_or w at 0 ≡ 0) → (s : Side) → get_or w (link_place (get_or w at 0) s) 0 ≡ node_at w (s ∷ p)
    onward_ends nz s = sym (path_child w p s (sym ends) (omega (arith, nz)))

  links_lead : (q : Region) (n l from at : ℕ) (g : Region) (p : List Side) → get_or w at 0 ≡ node_at w p → from ≡ cell_before w p → length p ≡ l → Before p
      → any (meets_cause w c) (search_from w q n l from at g) ≡ false → AllLead (search_from w q n l from at g)
  unfolding search_from AllLead cell_before
  links_lead q zero l from at g p ends came deep before = go (eqb (get_or w at 0) 0) refl
    where
      links : List Link
      links = record { level = l; from = from; to = get_or w at 0 } ∷ []

      go : (b : Bool) → eqb (get_or w at 0) 0 ≡ b → any (meets_cause w c) (cond b [] links) ≡ false → AllLead (cond b [] links)
      go true z right = tt
      go false z right = met_all l from at p ends came deep before (eqb-false (get_or w at 0) 0 z) [] [] (λ a e. tt) (λ a e. tt) right
  links_lead q (suc n) l from at g p ends came deep before =
      let k = get_or w at 0 in
      go (eqb k 0) refl (meets g q)
      (λ s nz along.
      links_lead q n (suc l) k (link_place k s) (half s g (axis_of l)) (s ∷ p) (onward_ends l from at p ends came deep before nz s) ends (ap suc deep) along)
    where
      behind : Side → List Link
      behind s = search_from w q n (suc l) (get_or w at 0) (link_place (get_or w at 0) s) (half s g (axis_of l))

      links : List Link
      links = record { level = l; from = from; to = get_or w at 0 } ∷ behind Left ++ behind Right

      go : (b : Bool) → eqb (get_or w at 0) 0 ≡ b → (m : Bool)
          → ((s : Side) → ¬ (get_or w at 0 ≡ 0) → ParentsAlong w c p → any (meets_cause w c) (behind s) ≡ false → AllLead (behind s))
          → any (meets_cause w c) (cond b [] (cond m links [])) ≡ false → AllLead (cond b [] (cond m links []))
      go true z m rest right = tt
      go false z false rest right = tt
      go false z true rest right =
          let nz = eqb-false (get_or w at 0) 0 z in
          met_all l from at p ends came deep before nz (behind Left) (behind Right) (rest Left nz) (rest Right nz) right

pub going-path : (w : List ℕ) (q : Region) (passes : Grant → Bool) (met k : ℕ) (others : List ℕ) (first : Spot)
    → search_by w q passes ≡ going met (k ∷ others) first → PathTo w (capacity_of w) k first.level
unfolding search_links broken_by hits_among node_at cell_before
going-path w q passes met k others first e =
    let c = capacity_of w in
    let all = search-going w q passes met (k ∷ others) first e in
    let some = links_some (filter (is_hit w passes) (search_links w q)) all.found in
    let hit = all.first-hit some.0 some.1 some.2 in
    let lead = links_lead w c q (suc levels) 0 0 root_place root_region [] refl refl refl tt (or_left _ _ all.whole) in
    let path = lead_first w c (is_hit w passes) (search_links w q) some.0 some.1 lead some.2 in
    subst (λ (x : ℕ). PathTo w c x first.level) (sym hit.cell) (subst (λ (x : ℕ). PathTo w c some.0.to x) (sym hit.level) path)
