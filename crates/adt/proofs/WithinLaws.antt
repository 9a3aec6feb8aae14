-- Where the way down and the removal walk end lies in the pool.
--   descent_within       the blank link's place
--   follow-within    the terminal cell, and the place of its link
-- Assumes nothing.
use Prim.Native.Nat.{ℕ, zero, suc, ◌-◌, ◌<◌, ◌≤◌}
use mathlib.Core.Path.{◌≡◌, refl}
use mathlib.Core.Bool.{Bool, true, false, cond, ◌&&◌}
use mathlib.Core.List.{List}
use native.Mathlib.Omega.{arith}
use lib.Dec.{leb, ltb, eqb}
use lib.ListN.{length, get_or}
use borrow.Author.Tests.{leb-true, eqb-false}
use Rattle.geometry.specs.declared.Side.{Side}
use Rattle.geometry.specs.declared.Side.TheVariants.{Left, Right}
use Rattle.geometry.specs.Axis.{axis_of}
use Rattle.geometry.specs.Levels.{levels}
use Rattle.geometry.specs.Region.{Region, side_of, half}
use Rattle.pool.specs.Capacity.{pool_length}
use Rattle.pool.proofs.LayoutLaws.{place-within}
use Rattle.adt.specs.Node.{link_field, link_place, is_parent}
use Rattle.adt.specs.Insert.{InsertionWalk, blank_at, descend_from}
use Rattle.adt.specs.Insert as insert
use Rattle.adt.specs.Remove.{RemovalWalk, terminal, next_link, follow}
use Rattle.adt.specs.Remove as remove

and_true : (a b : Bool) → (a && b) ≡ true → a ≡ true
and_true true b e = refl
and_true false b e = e

module _ (w : List ℕ) (c : ℕ) (long : length w ≡ pool_length c) where
  -- a link of a cell of the pool
  link-within : (k : ℕ) (s : Side) → eqb k 0 ≡ false → leb k c ≡ true → link_place k s < length w
  link-within k s n le = let p = place-within c k (link_field s) (let z = eqb-false k 0 n in omega arith) (leb-true k c le) in omega arith

  descent_cases : (x y at from : ℕ) (blank go : Bool) (way : InsertionWalk) → at < length w
      → (blank ≡ false → go ≡ true → way ≡ blank_at x y → x < length w)
      → cond blank (blank_at at from) (cond go way insert.broken) ≡ blank_at x y → x < length w
  descent_cases x y at from true go way h f e = let q : at ≡ x = cc in omega arith
  descent_cases x y at from false true way h f e = f refl refl e
  descent_cases x y at from false false way h f e = absurd (let z : ◌≡◌ {A = ℕ} 0 1 = cc in omega arith)

  pub descent_within : (p : List ℕ) (n from at : ℕ) (g : Region) (met x y : ℕ) → at < length w → descend_from w c p n from at g met ≡ blank_at x y → x < length w
  unfolding descend_from
  descent_within p zero from at g met x y h e = absurd (let z : ◌≡◌ {A = ℕ} 0 1 = cc in omega arith)
  descent_within p (suc n) from at g met x y h e =
      let k = get_or w at 0 in
      let a = axis_of (levels - n) in
      let s = side_of g a (get_or p a 0) in
      descent_cases x y at from (eqb k 0) (leb k c && ltb met c && is_parent w from k) (descend_from w c p n k (link_place k s) (half s g a) (suc met)) h
      (λ nz go f. descent_within p n k (link_place k s) (half s g a) (suc met) x y (link-within k s nz (and_true (leb k c) (ltb met c) (and_true (leb k c && ltb met c) (is_parent w from k) go))) f) e

  -- the end of a removal walk lies in the pool
  pub record Ends (leaf cut : ℕ) : Type 0 where
    pub some : 0 < leaf
    pub few : leaf ≤ c
    pub place : cut < length w

  next-within : (k : ℕ) → 0 < k → k ≤ c → next_link w k < length w
  next-within k pos le = go (eqb (get_or w (link_place k Left) 0) 0)
    where
      go : (b : Bool) → cond b (link_place k Right) (link_place k Left) < length w
      go true = omega (arith, place-within c k (link_field Right) pos le)
      go false = omega (arith, place-within c k (link_field Left) pos le)

  follow_cases : (leaf cut k at : ℕ) (blank go : Bool) (rest : RemovalWalk) → 0 < k → k ≤ c → at < length w
      → (blank ≡ false → go ≡ true → rest ≡ terminal leaf cut → Ends leaf cut)
      → cond blank (terminal k at) (cond go rest remove.broken) ≡ terminal leaf cut → Ends leaf cut
  follow_cases leaf cut k at true go rest pos le h f e =
      let q : k ≡ leaf = cc in
      let r : at ≡ cut = cc in
      record { some = omega arith; few = omega arith; place = omega arith }
  follow_cases leaf cut k at false true rest pos le h f e = f refl refl e
  follow_cases leaf cut k at false false rest pos le h f e = absurd (let z : ◌≡◌ {A = ℕ} 0 1 = cc in omega arith)

  pub follow-within : (n k at met leaf cut : ℕ) → 0 < k → k ≤ c → at < length w → follow w c n k at met ≡ terminal leaf cut → Ends leaf cut
  unfolding follow
  follow-within zero k at met leaf cut pos le h e =
      follow_cases leaf cut k at (eqb (get_or w (next_link w k) 0) 0) false remove.broken pos le h
      (λ nz go f. absurd (let z : ◌≡◌ {A = ℕ} 0 1 = cc in omega arith)) e
  follow-within (suc n) k at met leaf cut pos le h e =
      let next = get_or w (next_link w k) 0 in
      follow_cases leaf cut k at (eqb next 0) (leb next c && ltb met c && is_parent w k next) (follow w c n next (next_link w k) (suc met)) pos le h
      (λ nz go f.
      let some : 0 < next = let z = eqb-false next 0 nz in omega arith in
      let few = leb-true next c (and_true (leb next c) (ltb met c) (and_true (leb next c && ltb met c) (is_parent w k next) go)) in
      follow-within n next (next_link w k) (suc met) leaf cut some few (next-within k pos le) f)
      e
