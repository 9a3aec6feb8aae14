-- What the memory of a number's search says: nothing can be trusted, nothing is hit, or the first hit and its spot.
--   number-broken, number_absent, number_at
-- Assumes nothing.
use Prim.Native.Nat.{ℕ, zero, suc, ◌<◌, ◌≤◌}
use mathlib.Core.Path.{◌≡◌, refl, sym, ap, subst, ◌∙◌}
use mathlib.Core.List.{List, [], ◌∷◌}
use Rattle.std.proofs.Common.{None, Some, Result, Ok, Err}
use Rattle.std.specs.Prelude.{⊤}
use native.Mathlib.Omega.{arith}
use native.Mathlib.Decide.{dec_lt}
use lib.ListN.{length, take, get_or, get_or-eq_default}
use Rattle.geometry.specs.Region.{Region}
use Rattle.geometry.specs.Levels.{levels}
use Rattle.geometry.specs.SearchRange.{range_of_number}
use Rattle.geometry.specs.Point.{in_range}
use Rattle.pool.specs.Capacity.{Sized}
use Rattle.pool.proofs.CapacityLaws.{capacity_of-pool_length}
use Rattle.adt.specs.declared.Broken.{Broken}
use Rattle.adt.specs.declared.search.Counters.{Counters}
use Rattle.adt.specs.Search.{Spot, going, search}
use Rattle.adt.specs.SearchMemory.{search_in, Encodes}
use Rattle.adt.specs.Links.{hits_among}
use Rattle.adt.proofs.EnterSteps.{stands_as}
use Rattle.adt.proofs.HitLaws.{stands_within}
use Rattle.adt.proofs.SearchLinks.{search-going}
use Rattle.adt.proofs.SearchPaths.{links_some, going-path}
use Rattle.calls.specs.Walks.{number_search, is_broken, hits_of}
use Rattle.index.specs.NumberSearch.{NumberFound}

head-take : (f : ℕ) (h : List ℕ) → ¬ (f ≡ 0) → 0 < length h → (others : List ℕ) × (take f h ≡ get_or h 0 0 ∷ others)
head-take zero h n p = absurd (n refl)
head-take (suc f) [] n p = absurd (omega arith)
head-take (suc f) (x ∷ xs) n p = (take f xs, refl)

-- a place that holds something lies in the words
holds-within : (w : List ℕ) (i : ℕ) → 0 < get_or w i 0 → i < length w
holds-within w i p = go (dec_lt i (length w))
  where
    go : Dec (i < length w) → i < length w
    go (yes h) = h
    go (no h) = absurd (let z = get_or-eq_default w 0 {n = i} (omega arith) in omega arith)

module _ (w : List ℕ) (n c : ℕ) (q : Region) (eq : q ≡ range_of_number n) (sized : Sized w c)
    {r : Result ⊤ Broken} {h : List ℕ} {t : Counters} (s : Encodes c r h t (search w q)) where
  at-number : {b : Result ⊤ Broken} → r ≡ b → number_search w n ≡ search_in b h t
  at-number e = ap (search w) (sym eq) ∙ sym (stands_as s e)

  pub number-broken : {b d : Broken} → r ≡ Err b → NumberFound w n (Err d)
  unfolding NumberFound
  number-broken e = at-number e

  pub number_absent : {u : ⊤} → r ≡ Ok u → t.found ≡ 0 → NumberFound w n (Ok None)
  unfolding NumberFound
  number_absent e z = record { unbroken = ap is_broken (at-number e); none = ap hits_of (at-number e) ∙ rw z }

  pub number_at : {u : ⊤} → r ≡ Ok u → ¬ (t.found ≡ 0)
      → NumberFound w n (Ok (Some (record { cell = get_or h 0 0; level = t.level; link = t.link })))
  unfolding NumberFound hits_among
  number_at {u} e z =
      let st : Encodes c (Ok u) h t (search w q) = subst (λ (b : Result ⊤ Broken). Encodes c b h t (search w q)) e s in
      let cap = capacity_of-pool_length w c sized.long in
      let cell = stands_within w q (in_range q) st sized.few cap 0 (omega arith) in
      let take = head-take t.found h z (omega (arith, st.counted.hit_room)) in
      let first : Spot = record { level = t.level; link = t.link } in
      let found : search w q ≡ going t.met (get_or h 0 0 ∷ take.0) first = sym st.state ∙ ap (λ (hs : List ℕ). going t.met hs first) take.1 in
      let all = search-going w q (in_range q) _ _ _ found in
      let some = links_some _ all.found in
      let hit = all.first-hit some.0 some.1 some.2 in
      let on : get_or w t.link 0 ≡ get_or h 0 0 = hit.holds ∙ sym hit.cell in
      record {
        met = t.met;
        others = take.0;
        found = ap (search w) (sym eq) ∙ found;
        some = cell.some;
        few = subst (λ (x : ℕ). get_or h 0 0 ≤ x) (sym cap) cell.few;
        deep = subst (λ (x : ℕ). x ≤ levels) (sym hit.level) hit.within.above;
        place = holds-within w t.link (omega (arith, on, cell.some));
        path = going-path w q (in_range q) _ _ _ _ found;
      }
