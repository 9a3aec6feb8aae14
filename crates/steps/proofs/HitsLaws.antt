-- What the memory of a search says to the calls (specs/Hits).
--   hits-broken, hits-found             the search was broken; its hits lie at the start of the list
--   broken-search, found-hits           the same read back from the answer; found-cells: that the hits are cells; found-room,
--                                       found_long: that they are a part of the list
--   taken-broken, taken-hits            the same of the search of a box
--   length-hits                         how many were hit
--   cell_hit                            a hit is a cell that can be read
--   grants_from w hits i                the grants in the cells of the hits from the i-th on
-- Assumes nothing.
use Prim.Native.Nat.{ℕ, ◌<◌, ◌≤◌}
use mathlib.Core.Path.{◌≡◌, refl, sym, ap, subst, ◌∙◌}
use mathlib.Core.Bool.{Bool}
use mathlib.Core.List.{List, map}
use Rattle.std.proofs.Common.{Result, Ok, Err}
use Rattle.std.specs.Prelude.{⊤}
use native.Mathlib.Omega.{arith}
use lib.ListN.{length, take, drop, get_or}
use lib.Seq.{length-take-le, get_or-take}
use Rattle.model.specs.declared.Box.{Box}
use Rattle.model.specs.declared.Choice.{Choice}
use Rattle.model.specs.Relation.{taken}
use Rattle.geometry.specs.Region.{Region}
use Rattle.geometry.specs.SearchRange.{range_of_box}
use Rattle.model.specs.declared.Grant.{Grant}
use Rattle.pool.specs.Capacity.{Sized, InPool}
use Rattle.pool.specs.Cell.{grant_at}
use Rattle.pool.proofs.CapacityLaws.{cell_in_pool, capacity_of-pool_length}
use Rattle.adt.specs.Search.{broken, search_by}
use Rattle.adt.specs.declared.Broken.{Broken}
use Rattle.adt.specs.declared.search.Counters.{Counters}
use Rattle.adt.specs.SearchMemory.{Encodes}
use Rattle.adt.proofs.EnterSteps.{stands_as}
use Rattle.adt.proofs.HitLaws.{stands_within}
use Rattle.calls.specs.Walks.{box_search, is_broken, hits_of}
use Rattle.steps.specs.Hits.{Cells, HitsAt, HitsFound, TakenFound}

module _ (w : List ℕ) (c : ℕ) (q : Region) (passes : Grant → Bool) (sized : Sized w c)
    {r : Result ⊤ Broken} {h : List ℕ} {t : Counters} (s : Encodes c r h t (search_by w q passes)) where
  pub hits-broken : {b d : Broken} → r ≡ Err b → HitsFound w q passes h (Err d)
  unfolding HitsFound
  hits-broken e = sym (stands_as s e)

  pub hits-found : {u : ⊤} → r ≡ Ok u → HitsFound w q passes h (Ok t.found)
  unfolding HitsFound
  hits-found {u} e =
      let st : Encodes c (Ok u) h t (search_by w q passes) = subst (λ (b : Result ⊤ Broken). Encodes c b h t (search_by w q passes)) e s in
      let cap = capacity_of-pool_length w c sized.long in
      let n = st.counted in
      let room : t.found ≤ length h = omega (arith, n.hit_room, n.found-met, n.met-cells, sized.few) in
      let long : length (take t.found h) ≡ t.found = length-take-le t.found h room in
      record {
        unbroken = ap is_broken (sym st.state);
        found = ap hits_of (sym st.state);
        few = omega (arith, cap, n.found-met, n.met-cells);
        room = room;
        cells =
            record {
              few = omega (arith, long, n.found-met, n.met-cells, sized.few);
              cell = λ i lt.
                  let in_found : i < t.found = omega (arith, long) in
                  let k = stands_within w q passes st sized.few cap i in_found in
                  subst (InPool w) (sym (get_or-take t.found h i 0 in_found)) (cell_in_pool sized k.some k.few);
            };
      }

-- p is the range that was searched for; the test may go by it
module _ (w : List ℕ) (test : Region → Grant → Bool) {p q : Region} (same : p ≡ q) (h : List ℕ) {r : Result ℕ Broken}
    (f : HitsFound w p (test p) h r) where
  pub broken-search : {b : Broken} → r ≡ Err b → search_by w q (test q) ≡ broken
  unfolding HitsFound
  broken-search e = ap (λ (g : Region). search_by w g (test g)) (sym same) ∙ subst (HitsFound w p (test p) h) e f

  pub found-hits : {n : ℕ} → r ≡ Ok n → HitsAt w q (test q) h n
  unfolding HitsFound
  found-hits {n} e = subst (λ (g : Region). HitsAt w g (test g) h n) same (subst (HitsFound w p (test p) h) e f)

-- the same of the search of a box; b is the box that was searched
module _ (w : List ℕ) (choice : Choice) {b q : Box} (same : b ≡ q) (h : List ℕ) {r : Result ℕ Broken} (f : TakenFound w b choice h r) where
  pub taken-broken : {d : Broken} → r ≡ Err d → box_search w q choice ≡ broken
  taken-broken e = ap (λ (x : Box). box_search w x choice) (sym same) ∙ broken-search w (λ p. taken choice b) refl h f e

  pub taken-hits : {n : ℕ} → r ≡ Ok n → HitsAt w (range_of_box q) (taken choice q) h n
  taken-hits {n} e = subst (λ (x : Box). HitsAt w (range_of_box x) (taken choice x) h n) same (found-hits w (λ p. taken choice b) refl h f e)

module _ (w : List ℕ) (q : Region) (passes : Grant → Bool) (h : List ℕ) where
  pub found-cells : {r : Result ℕ Broken} → HitsFound w q passes h r → {n : ℕ} → r ≡ Ok n → Cells w (take n h)
  found-cells f e = (found-hits w (λ p. passes) refl h f e).cells

  pub found-room : {r : Result ℕ Broken} → HitsFound w q passes h r → {n : ℕ} → r ≡ Ok n → n ≤ length h
  found-room f e = (found-hits w (λ p. passes) refl h f e).room

  pub found_long : {r : Result ℕ Broken} → HitsFound w q passes h r → {n : ℕ} → r ≡ Ok n → n ≡ length (take n h)
  found_long f e = sym (length-take-le _ h (found-room f e))

  pub length-hits : {n : ℕ} → HitsAt w q passes h n → length (hits_of (search_by w q passes)) ≡ n
  length-hits {n} at = ap length at.found ∙ length-take-le n h at.room

-- what a read of a cell asks, of the cell of a hit
pub cell_hit : {w h : List ℕ} → Cells w h → {i k : ℕ} → i < length h → k ≡ get_or h i 0 → InPool w k
cell_hit {w} cells {i} lt e = subst (InPool w) (sym e) (cells.cell i lt)

-- the grants in the cells of the hits from the i-th on
abbrev pub grants_from : List ℕ → List ℕ → ℕ → List Grant
grants_from w hits i = map (grant_at w) (drop i hits)
