-- The removal walk that stops and document 01's links of it are one walk: it is broken exactly where they are broken.
--   next-link              both go through the same link from a cell
--   broken_removal          a walk as a test
--   follow-broken          from any cell on the walk
--   terminal_from-broken    the whole walk from a cell at its own spot
-- Assumes nothing.
use Prim.Native.Nat.{ℕ, zero, suc, ◌+◌, ◌-◌, ◌≤◌}
use mathlib.Core.Path.{◌≡◌, refl, ap}
use mathlib.Core.Bool.{Bool, true, false, cond}
use mathlib.Core.List.{List, []}
use lib.Dec.{eqb}
use lib.ListN.{get_or}
use native.Mathlib.Omega.{arith}
use Rattle.geometry.specs.declared.Side.TheVariants.{Left, Right}
use Rattle.geometry.specs.Levels.{levels}
use Rattle.pool.specs.Capacity.{capacity_of}
use Rattle.adt.specs.Node.{link_place}
use Rattle.adt.specs.Search.{Spot}
use Rattle.adt.specs.Remove.{RemovalWalk, broken, terminal, next_link, follow, terminal_from}
use Rattle.adt.specs.Links.{Link, broken_by, left_else_right, removal_from, removal_links}
use Rattle.adt.proofs.LinkLaws.{broken_by-deep, broken_by-blank, broken_by-next}

pub next-link : (w : List ℕ) (k : ℕ) → get_or w (next_link w k) 0 ≡ left_else_right w k
next-link w k = go (eqb (get_or w left 0) 0)
  where
    left : ℕ
    left = link_place k Left

    go : (blank : Bool) → get_or w (cond blank (link_place k Right) left) 0 ≡ cond blank (get_or w (link_place k Right) 0) (get_or w left 0)
    go true = refl
    go false = refl

abbrev pub broken_removal : RemovalWalk → Bool
broken_removal broken = true
broken_removal (terminal leaf at) = false

broken_removal_cond : (b : Bool) (x y : RemovalWalk) → broken_removal (cond b x y) ≡ cond b (broken_removal x) (broken_removal y)
broken_removal_cond true x y = refl
broken_removal_cond false x y = refl

-- the cell k is at level l, n levels above the last
pub follow-broken : (w : List ℕ) (c n l k at met : ℕ) → l + n ≡ levels → met ≤ c
    → broken_removal (follow w c n k at met) ≡ broken_by w c met (removal_from w n l k)
unfolding follow removal_from
follow-broken w c zero l k at met depth few =
    let here : Link = record { level = suc l; from = k; to = left_else_right w k } in
    rw (next-link, broken_removal_cond, broken_by-blank, broken_by-deep w c met here [] (omega arith))
follow-broken w c (suc n) l k at met depth few =
    let next = left_else_right w k in
    let here : Link = record { level = suc l; from = k; to = next } in
    let rest = follow-broken w c n (suc l) next (next_link w k) (suc met) (omega arith) in
    rw (next-link, broken_removal_cond, broken_removal_cond, broken_by-blank)
    (ap (cond (eqb next 0) false) (broken_by-next w c met here (removal_from w n (suc l) next) _ (omega arith) rest))

pub terminal_from-broken : (w : List ℕ) (k : ℕ) (here : Spot) → here.level ≤ levels → 1 ≤ capacity_of w
    → broken_removal (terminal_from w k here) ≡ broken_by w (capacity_of w) 1 (removal_links w k here.level)
unfolding terminal_from removal_links
terminal_from-broken w k here above some = follow-broken w (capacity_of w) (levels - here.level) here.level k here.link 1 (omega arith) some
