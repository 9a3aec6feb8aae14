-- Words that stand for a plain book hold its live grants on one tree, as adt/specs/Reach says it.
--   represents_carried     the cell at a path from the root carries the grant in it, which is live
--   carried-cell           the cell that carries a grant is the one of its number in the tree
--   represents_holds
-- Assumes nothing.
use Prim.Native.Nat.{ℕ, ◌<◌}
use mathlib.Core.Path.{◌≡◌, sym, ap, subst, ◌∙◌}
use mathlib.Core.List.Memᴰ
use mathlib.Core.List.{List, map, map-map, Memᴰ}
use lib.Dec.{T}
use Rattle.lists.proofs.TestLaws.{T-iff}
use Rattle.lists.proofs.DistinctLaws.{Distinct}
use Rattle.lists.proofs.KeyLaws.{distinct_key}
use Rattle.model.specs.declared.Grant.{Grant}
use Rattle.model.specs.Book.{Book}
use Rattle.geometry.specs.declared.Side.{Side}
use Rattle.geometry.specs.Point.{inside, point_of}
use Rattle.pool.specs.Cell.{grant_at}
use Rattle.adt.specs.Reach.{node_at, region_of, Carries, CarriedAt, Holds}
use Rattle.adt.proofs.Spells.{cells_of}
use Rattle.adt.proofs.TreeLaws.{cells_upto}
use Rattle.adt.proofs.ReachLaws.{carries_one, linked_within, linked_once, linked_path, linked_reached, linked_same, linked_placed, linked_shallow}
use Rattle.adt.proofs.ReachLaws.{linked_parent}
use Rattle.adt.proofs.FreeHeadLaws.{linked_free}
use Rattle.calls.proofs.Represents.{grant_number, Represents, represents_cell, represents_live, live_represents}

module _ {w : List ℕ} {b : Book} (h : Represents w b) where
  -- the grant in the cell at a path
  abbrev grant_on : List Side → Grant
  grant_on p = grant_at w (node_at w p)

  path-carries : (p : List Side) → 0 < node_at w p → Carries w (node_at w p) (grant_on p)
  path-carries p i = (h.carried (node_at w p) (linked_reached h.linked p i)).words

  pub represents_carried : (p : List Side) → 0 < node_at w p → (g : Grant) × Memᴰ g b.live × CarriedAt w g p
  represents_carried p i =
      (grant_on p, live_represents h (grant_on p) (Memᴰ.map (grant_at w) (linked_reached h.linked p i)), record { reached = i; carries = path-carries p i })

  -- what is carried there is the grant in it
  carried_is : {g : Grant} {p : List Side} → CarriedAt w g p → g ≡ grant_on p
  carried_is {g} {p} c = carries_one w (node_at w p) g (grant_on p) c.carries (path-carries p c.reached)

  -- no two cells have one number
  numbers-cells : Distinct (map (λ k. (grant_at w k).number) (cells_of h.tree))
  numbers-cells = rw (map-map grant_number (grant_at w) (cells_of h.tree)) at h.distinct

  pub carried-cell : {g : Grant} {p : List Side} → CarriedAt w g p → (k : ℕ) → Memᴰ k (cells_of h.tree) → (grant_at w k).number ≡ g.number
      → node_at w p ≡ k
  carried-cell {g} {p} c k m e =
      distinct_key (λ k. (grant_at w k).number) numbers-cells (node_at w p) k (linked_reached h.linked p c.reached) m
      (sym (e ∙ ap grant_number (carried_is c)))

  carried_same : {g : Grant} {p q : List Side} → CarriedAt w g p → CarriedAt w g q → q ≡ p
  carried_same {g} {p} {q} c d =
      linked_same h.linked p q c.reached
      (carried-cell d (node_at w p) (linked_reached h.linked p c.reached) (ap grant_number (sym (carried_is c))))

  live-carried : (g : Grant) → Memᴰ g b.live → (p : List Side) × CarriedAt w g p
  live-carried g m =
      let o = represents_cell h g (represents_live h g m) in
      let p = linked_path h.linked o.0 o.1 in
      let pos = (cells_upto h.linked.spells o.0 o.1).0 in
      (p.0, record { reached = rw p.1 pos; carries = rw p.1 (subst (Carries w o.0) o.2 (h.carried o.0 o.1).words) })

  carried-placed : (g : Grant) (p : List Side) → CarriedAt w g p → T (inside (region_of p) (point_of g))
  carried-placed g p c = (T-iff (inside (region_of p) (point_of g))).1 (rw (carried_is c) (linked_placed h.linked p c.reached))

  pub represents_holds : Holds w b.capacity b.live
  represents_holds = record {
    within = linked_within h.linked;
    once = linked_once h.linked;
    live = represents_carried;
    each = λ g m. let o = live-carried g m in (o.0, o.1, λ q c. carried_same o.1 c);
    placed = carried-placed;
    shallow = linked_shallow h.linked;
    parents = linked_parent h.linked;
    free = linked_free h.linked;
  }
