-- Grant's way down that stops and document 01's links of it are one way: it is broken exactly where they are broken.
--   broken_insertion        a way as a test
--   descend_from-broken     from any link on the way
--   descend-broken         the whole way of a point
--   free_broken_links       the two links of the free list are broken exactly where one of document 01's is above C
-- Assumes nothing.
use Prim.Native.Nat.{ℕ, zero, suc, ◌+◌, ◌-◌, ◌≤◌}
use mathlib.Core.Path.{◌≡◌, refl, sym, ap}
use mathlib.Core.Bool.{Bool, true, false, cond, not, ◌&&◌, ◌||◌, or-false}
use mathlib.Core.List.{List, [], ◌∷◌}
use lib.Dec.{ltb, eqb}
use lib.ListN.{get_or}
use native.Mathlib.Omega.{arith}
use Rattle.lists.specs.Tests.{any}
use Rattle.geometry.specs.Axis.{axis_of}
use Rattle.geometry.specs.Levels.{levels}
use Rattle.geometry.specs.Region.{Region, root_region, side_of, half}
use Rattle.pool.specs.Layout.{root_place, field_of}
use Rattle.pool.specs.Capacity.{capacity_of}
use Rattle.adt.specs.Node.{link_place}
use Rattle.adt.specs.Insert.{InsertionWalk, broken, blank_at, descend_from, descend, free_head, next_free, free_broken}
use Rattle.adt.specs.Links.{Link, broken_by, insertion_from, insertion_links, free_links}
use Rattle.adt.proofs.LinkLaws.{broken_by-deep, broken_by-blank, broken_by-next}

abbrev pub broken_insertion : InsertionWalk → Bool
broken_insertion broken = true
broken_insertion (blank_at at from) = false

broken_insertion_cond : (b : Bool) (x y : InsertionWalk) → broken_insertion (cond b x y) ≡ cond b (broken_insertion x) (broken_insertion y)
broken_insertion_cond true x y = refl
broken_insertion_cond false x y = refl

-- n levels are left below the parent, so the link leads to the level l
pub descend_from-broken : (w : List ℕ) (c : ℕ) (p : List ℕ) (n l from at : ℕ) (g : Region) (met : ℕ) → l + n ≡ suc levels → met ≤ c
    → broken_insertion (descend_from w c p n from at g met) ≡ broken_by w c met (insertion_from w p n l from at g)
unfolding descend_from insertion_from
descend_from-broken w c p zero l from at g met depth few = sym (broken_by-deep w c met (record { level = l; from = from; to = get_or w at 0 }) [] (omega arith))
descend_from-broken w c p (suc n) l from at g met depth few =
    let k = get_or w at 0 in
    let a = axis_of l in
    let s = side_of g a (get_or p a 0) in
    let level : levels - n ≡ l = omega arith in
    let rest = descend_from-broken w c p n (suc l) k (link_place k s) (half s g a) (suc met) (omega arith) in
    let here : Link = record { level = l; from = from; to = k } in
    rw (level, broken_insertion_cond, broken_insertion_cond, broken_by-blank)
    (ap (cond (eqb k 0) false) (broken_by-next w c met here (insertion_from w p n (suc l) k (link_place k s) (half s g a)) _ (omega arith) rest))

pub descend-broken : (w p : List ℕ) → broken_insertion (descend w p) ≡ broken_by w (capacity_of w) 0 (insertion_links w p)
unfolding descend insertion_links
descend-broken w p = descend_from-broken w (capacity_of w) p (suc levels) 0 0 root_place root_region 0 refl (omega arith)

pub free_broken_links : (w : List ℕ) → free_broken w ≡ any (ltb (capacity_of w)) (free_links w)
unfolding free_broken free_links any field_of
free_broken_links w = ap (◌||◌ (ltb (capacity_of w) (free_head w))) (go (eqb (free_head w) 0) (next_free w))
  where
    go : (blank : Bool) (next : ℕ) → (not blank && ltb (capacity_of w) next) ≡ any (ltb (capacity_of w)) (cond blank [] (next ∷ []))
    go true next = refl
    go false next = sym (or-false (ltb (capacity_of w) next))
