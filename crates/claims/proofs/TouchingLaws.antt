-- On words that stand for a plain book, the panel shows the live grants that hold the door and cover the quarter.
--   grants-touching    they are what the search hits, ascending by number
--   shows-touching     and what is shown row by row
--   touching_claim     so it is on every pool that calls made (specs/PanelClaims)
-- Assumes nothing.
use Prim.Native.Nat.{ℕ, ◌+◌}
use mathlib.Core.Path.{◌≡◌, refl, ap, ◌∙◌}
use mathlib.Core.List.Memᴰ
use mathlib.Core.List.{List}
use native.Mathlib.Omega.{arith}
use lib.Dec.{leb, ltb}
use borrow.Author.Tests.{leb-true, le-leb, ltb-true, lt-ltb}
use Rattle.std.proofs.Common.{None}
use Rattle.lists.specs.Tests.{filter}
use Rattle.lists.proofs.TestLaws.{tests_agree, filter_same}
use Rattle.model.specs.declared.Grant.{Grant}
use Rattle.model.specs.Overlap.{overlaps}
use Rattle.model.specs.Values.{GrantFits}
use Rattle.model.specs.Refusal.{first_fault}
use Rattle.model.specs.Book.{Book}
use Rattle.calls.specs.Order.{look_order}
use Rattle.calls.proofs.Represents.{Represents, represents_pool, represents_live, represents_fits, Hits}
use Rattle.calls.proofs.QueryLaws.{quarter-found}
use Rattle.claims.proofs.MadeLaws.{made_represents}
use Rattle.panel.specs.Answering.{answering}
use Rattle.panel.specs.Touching.{door_box, at_door_search, grants_touching, placed, touching_at}
use Rattle.claims.specs.PanelClaims.{at_door, ShowsTouching, TouchingClaim}

-- a number is below the one after n exactly if it is at most n
below_next : (x n : ℕ) → ltb x (n + 1) ≡ leb x n
below_next x n =
    tests_agree (ltb x (n + 1)) (leb x n)
    (λ e. le-leb x n (omega (arith, ltb-true x (n + 1) e)))
    (λ e. lt-ltb x (n + 1) (omega (arith, leb-true x n e)))

-- a grant that fits overlaps the box that is searched exactly if it holds the door and covers the quarter
overlaps_door : (door quarter : ℕ) (g : Grant) → GrantFits g → overlaps g.bounds (door_box door quarter) ≡ at_door door quarter g
unfolding overlaps
overlaps_door door quarter g fits =
    let staff = fits.bounds g.bounds.staff_from (Memᴰ.head refl) in
    rw (
      le-leb g.bounds.staff_from 65535 (omega (arith, staff)),
      le-leb 0 g.bounds.staff_to (omega arith),
      below_next g.bounds.quarter_from quarter,
    )

module _ {w : List ℕ} {b : Book} (h : Represents w b) where
  found : (door quarter : ℕ) → Hits w b.live (λ g. overlaps g.bounds (door_box door quarter)) (at_door_search w door quarter)
  found door quarter = quarter-found h (door_box door quarter) refl

  pub grants-touching : (door quarter : ℕ) → grants_touching w door quarter ≡ filter (at_door door quarter) b.live
  grants-touching door quarter =
      (found door quarter).grants
      ∙ filter_same (λ (g : Grant). overlaps g.bounds (door_box door quarter)) (at_door door quarter) b.live
      (λ g m. overlaps_door door quarter g (represents_fits h g (represents_live h g m)))

  pub shows-touching : ShowsTouching w b.live
  unfolding touching_at look_order first_fault
  shows-touching door quarter i =
      rw (represents_pool h, (found door quarter).whole) (ap (λ (gs : List Grant). answering None (placed gs i)) (grants-touching door quarter))

pub touching_claim : TouchingClaim
unfolding TouchingClaim
touching_claim c w gs made = shows-touching (made_represents made)
