-- What it means that a grant holds a box, and what list's choice changes (document 02, card 4).
--   box_walk w q      the walk through the box's range that keeps every cell that it meets
--   HoldingGrants    the answer of three goes by overlapping and by holding on staff, doors and quarters, on every two boxes; a grant holds a box
--                    exactly if every point of the box lies in it; on any words list goes that one walk under either choice, so that 9 is the same,
--                    and its hits are the cells met that the choice takes; what holding takes touching takes
-- That list lists these, on pools that calls made, is ListsGrants of KeepsGrants. Assumes nothing: these are definitions.
use Rattle.std.specs.Prelude.{ℕ, ◌↔◌, ◌≡◌, true, false, List}
use Rattle.lists.specs.Tests.{filter}
use Rattle.model.specs.declared.Box.{Box}
use Rattle.model.specs.declared.Grant.{Grant}
use Rattle.model.specs.declared.Relation.TheVariants.{Apart, Touches, Holds}
use Rattle.model.specs.declared.Choice.{Choice}
use Rattle.model.specs.declared.Choice.TheVariants.{Touching, Holding}
use Rattle.model.specs.Overlap.{Overlap}
use Rattle.model.specs.Relation.{HoldsBox, relation_of, Taken, taken}
use Rattle.model.specs.Arguments.{reversed_box}
use Rattle.geometry.specs.SearchRange.{range_of_box}
use Rattle.pool.specs.Cell.{grant_at}
use Rattle.adt.specs.Search.{Search, search_by}
use Rattle.calls.specs.Walks.{box_search, is_broken, hits_of}
use Rattle.claims.specs.HalfOpenQuarters.{LiesIn}

abbrev pub box_walk : List ℕ → Box → Search
box_walk w q = search_by w (range_of_box q) (λ g. true)

pub record HoldingGrants : Type 0 where
  -- whether they overlap comes first, also where a box is reversed
  pub apart : (a b : Box) → (relation_of a b ≡ Apart) ↔ (Overlap a b → ⊥)
  pub touches : (a b : Box) → (relation_of a b ≡ Touches) ↔ (Overlap a b × (HoldsBox a b → ⊥))
  pub holds : (a b : Box) → (relation_of a b ≡ Holds) ↔ (Overlap a b × HoldsBox a b)
  -- of a box that fault 2 lets through
  pub overlapping : (a b : Box) → reversed_box b ≡ false → HoldsBox a b → Overlap a b
  pub points : (a b : Box) → reversed_box b ≡ false
      → (relation_of a b ≡ Holds) ↔ ((staff door quarter : ℕ) → LiesIn b staff door quarter → LiesIn a staff door quarter)
  -- of every grant and box
  pub included : (q : Box) (g : Grant) → Taken Holding q g → Taken Touching q g
  -- on any words, under either choice
  pub nine : (w : List ℕ) (q : Box) (choice : Choice) → is_broken (box_search w q choice) ≡ is_broken (box_walk w q)
  pub hits : (w : List ℕ) (q : Box) (choice : Choice)
      → hits_of (box_search w q choice) ≡ filter (λ k. taken choice q (grant_at w k)) (hits_of (box_walk w q))
