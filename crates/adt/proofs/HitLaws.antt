-- The hits of a search are cells of the pool.
--   links_some        no link that a search goes through is blank
--   hits-within       every hit of a search that was not broken is a cell from 1 to C
--   stands_within     the same of the memory that stands for it, by the hit's place
-- Assumes nothing.
use Prim.Native.Nat.{ℕ, zero, suc, ◌<◌, ◌≤◌}
use Rattle.std.proofs.Common.{Ok}
use Rattle.std.specs.Prelude.{⊤}
use mathlib.Core.Path.{◌≡◌, refl, sym, ap, subst}
use mathlib.Core.Logic.{⊎_elim}
use mathlib.Core.Bool.{Bool, true, false, cond}
use mathlib.Core.List.{List, [], ◌∷◌, map, Memᴰ}
use mathlib.Core.List.Memᴰ
use native.Mathlib.Omega.{arith}
use lib.Dec.{eqb}
use lib.ListN.{length, take, get_or}
use lib.Seq.{get_or-take, length-take-le}
use borrow.Author.Tests.{eqb-false}
use Rattle.lists.specs.Tests.{any}
use Rattle.lists.proofs.TestLaws.{filter_mem}
use Rattle.lists.proofs.ElementLaws.{mem_get_d}
use Rattle.model.specs.declared.Grant.{Grant}
use Rattle.geometry.specs.declared.Side.TheVariants.{Left, Right}
use Rattle.geometry.specs.Axis.{axis_of}
use Rattle.geometry.specs.Region.{Region, half, meets}
use Rattle.model.specs.Limits.{max_grants}
use Rattle.pool.specs.Capacity.{capacity_of}
use Rattle.adt.specs.Node.{link_place}
use Rattle.adt.specs.Search.{Spot, going, search_by}
use Rattle.adt.specs.declared.search.Counters.{Counters}
use Rattle.adt.specs.SearchMemory.{Encodes}
use Rattle.adt.specs.Links.{Link, meets_cause, broken_by, search_from, search_links, is_hit, hits_among}
use Rattle.adt.proofs.LinkLaws.{or_left, or_right, right_within}
use Rattle.adt.proofs.SearchLinks.{search-going}

-- a link is in a list that is empty unless a test passes
cond_mem : (b : Bool) (links : List Link) {f : Link} → Memᴰ f (cond b links []) → (b ≡ true) × Memᴰ f links
cond_mem true links m = (refl, m)
cond_mem false links m = absurd (Memᴰ.not-nil m)

unless_mem : (b : Bool) (links : List Link) {f : Link} → Memᴰ f (cond b [] links) → (b ≡ false) × Memᴰ f links
unless_mem true links m = absurd (Memᴰ.not-nil m)
unless_mem false links m = (refl, m)

to_some : {f : Link} {l from k : ℕ} → eqb k 0 ≡ false → f ≡ record { level = l; from = from; to = k } → 0 < f.to
to_some {f} {l} {from} {k} n e = let z : ¬ (k ≡ 0) = eqb-false k 0 n in let t : f.to ≡ k = ap (λ (x : Link). x.to) e in omega arith

pub links_some : (w : List ℕ) (q : Region) (n l from at : ℕ) (g : Region) (f : Link) → Memᴰ f (search_from w q n l from at g) → 0 < f.to
unfolding search_from
links_some w q zero l from at g f m = let u = unless_mem (eqb (get_or w at 0) 0) _ m in to_some u.0 (Memᴰ.eq_of_singleton u.1)
links_some w q (suc n) l from at g f m =
    let k = get_or w at 0 in
    let u = unless_mem (eqb k 0) _ m in
    let v = cond_mem (meets g q) _ u.1 in
    ⊎_elim
    (λ e. to_some u.0 e)
    (λ r. ⊎_elim
    (λ x. links_some w q n (suc l) k (link_place k Left) (half Left g (axis_of l)) f x)
    (λ y. links_some w q n (suc l) k (link_place k Right) (half Right g (axis_of l)) f y)
    (Memᴰ.append_cases (search_from w q n (suc l) k (link_place k Left) (half Left g (axis_of l))) r))
    (Memᴰ.cases_cons v.1)

-- no link of an unbroken walk is above C
unbroken-below : (w : List ℕ) (c : ℕ) (links : List Link) → any (meets_cause w c) links ≡ false → (f : Link) → Memᴰ f links → f.to ≤ c
unfolding any
unbroken-below w c [] e f m = absurd (Memᴰ.not-nil m)
unbroken-below w c (x ∷ links) e f m =
    let here = right_within w c x (or_left (meets_cause w c x) (any (meets_cause w c) links) e) in
    let rest = or_right (meets_cause w c x) (any (meets_cause w c) links) e in
    ⊎_elim
    (λ q. let t : f.to ≡ x.to = ap (λ (k : Link). k.to) q in omega (arith, here.low))
    (λ r. unbroken-below w c links rest f r)
    (Memᴰ.cases_cons m)

-- a member of a mapped list
map_mem : (links : List Link) (k : ℕ) → Memᴰ k (map (λ (f : Link). f.to) links) → (f : Link) × (f.to ≡ k) × Memᴰ f links
map_mem [] k m = absurd (Memᴰ.not-nil m)
map_mem (x ∷ links) k m =
    ⊎_elim {C = (f : Link) × (f.to ≡ k) × Memᴰ f (x ∷ links)}
    (λ q. (x, sym q, Memᴰ.head refl))
    (λ r. let f = map_mem links k r in (f.0, f.1, Memᴰ.tail f.2))
    (Memᴰ.cases_cons m)

pub record IsCell (c k : ℕ) : Type 0 where
  pub some : 0 < k
  pub few : k ≤ c

pub hits-within : (w : List ℕ) (q : Region) (passes : Grant → Bool) (met : ℕ) (hits : List ℕ) (first : Spot) → search_by w q passes ≡ going met hits first
    → (k : ℕ) → Memᴰ k hits → IsCell (capacity_of w) k
unfolding broken_by hits_among search_links
hits-within w q passes met hits first e k m =
    let s = search-going w q passes met hits first e in
    let f = map_mem _ k (subst (Memᴰ k) s.found m) in
    let on = (filter_mem (is_hit w passes) _ f.0 f.2).0 in
    let some = links_some w q _ _ _ _ _ f.0 on in
    let few = unbroken-below w (capacity_of w) _ (or_left _ _ s.whole) f.0 on in
    record { some = subst (λ (x : ℕ). 0 < x) f.1 some; few = subst (λ (x : ℕ). x ≤ capacity_of w) f.1 few }

pub stands_within : (w : List ℕ) (q : Region) (passes : Grant → Bool) {c : ℕ} {u : ⊤} {h : List ℕ} {t : Counters}
    → Encodes c (Ok u) h t (search_by w q passes) → c ≤ max_grants → capacity_of w ≡ c → (i : ℕ) → i < t.found → IsCell c (get_or h i 0)
stands_within w q passes {h = h} {t = t} s few e i lt =
    let n = s.counted in
    let long : length (take t.found h) ≡ t.found = length-take-le t.found h (omega (arith, n.hit_room, n.found-met, n.met-cells)) in
    let m = mem_get_d (take t.found h) i 0 (omega arith) in
    let found = subst (λ (k : ℕ). Memᴰ k (take t.found h)) (get_or-take t.found h i 0 lt) m in
    let cell = hits-within w q passes _ _ _ (sym s.state) (get_or h i 0) found in
    subst (λ (x : ℕ). IsCell x (get_or h i 0)) e cell
