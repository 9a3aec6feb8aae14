-- Laws of a free cell: the next one in left, zeros elsewhere.
--   Cleared w k            every field of the cell k but left is 0
--   cleared_same           where its fields are the same
--   cleared_with_cell       of a free cell that was stored
--   cleared_fresh_pool      of each cell that start makes
--   cleared_words          the words of such a cell are those of a free cell that leads to what its left names
-- Assumes nothing.
use Prim.Native.Nat.{ℕ, zero, suc, ◌-◌, ◌<◌, ◌≤◌}
use mathlib.Core.Path.{◌≡◌, refl, ◌∙◌}
use mathlib.Core.Bool.{cond}
use mathlib.Core.List.{List}
use native.Mathlib.Omega.{arith}
use lib.Dec.{eqb}
use lib.ListN.{length, get_or, get_or-replicate}
use lib.Seq.{slice}
use Rattle.pool.specs.declared.Field.{Field}
use Rattle.pool.specs.declared.Field.TheVariants.{Left, Right, Number, RankKind, StaffFrom, StaffTo, DoorFrom, DoorTo, QuarterFrom, QuarterTo, Parent}
use Rattle.pool.specs.Layout.{cell_words, offset, place, field_of}
use Rattle.pool.specs.Capacity.{pool_length}
use Rattle.pool.specs.Cell.{with_cell}
use Rattle.pool.specs.Fresh.{free_cell, fresh_pool}
use Rattle.pool.proofs.LayoutLaws.{offset_lt}
use Rattle.pool.proofs.CellLaws.{field_with_cell-same}
use Rattle.pool.proofs.FreshLaws.{field_fresh_pool}
use Rattle.pool.proofs.CellWordsLaws.{slice_cell}

abbrev pub Cleared : List ℕ → ℕ → Type 0
Cleared w k = (f : Field) → offset Right ≤ offset f → field_of w k f ≡ 0

pub cleared_same : (w v : List ℕ) (k : ℕ) → ((f : Field) → field_of v k f ≡ field_of w k f) → Cleared w k → Cleared v k
cleared_same w v k same cleared f h = same f ∙ cleared f h

-- the words of a free cell but the first are 0
free-word : (next i : ℕ) → 1 ≤ i → i < cell_words → get_or (free_cell next) i 0 ≡ 0
free-word next zero h l = absurd (omega arith)
free-word next (suc i) h l = get_or-replicate (cell_words - 1) i 0 0 (omega arith)

pub cleared_with_cell : (w : List ℕ) (c k next : ℕ) → 0 < k → k ≤ c → length w ≡ pool_length c → Cleared (with_cell w k (free_cell next)) k
cleared_with_cell w c k next pos le long f h = field_with_cell-same w k (free_cell next) refl c f pos le long ∙ free-word next (offset f) h (offset_lt f)

pub cleared_fresh_pool : (c k : ℕ) → 0 < k → k ≤ c → Cleared (fresh_pool c) k
cleared_fresh_pool c k pos le f h = field_fresh_pool c k f pos le ∙ free-word (cond (eqb k c) 0 (suc k)) (offset f) h (offset_lt f)

pub cleared_words : (w : List ℕ) (c k : ℕ) → 0 < k → k ≤ c → length w ≡ pool_length c → Cleared w k
    → slice (place k Left) (place (suc k) Left) w ≡ free_cell (field_of w k Left)
cleared_words w c k pos le long cleared =
    rw (
      slice_cell w c k pos le long,
      cleared Right (omega arith),
      cleared Number (omega arith),
      cleared RankKind (omega arith),
      cleared StaffFrom (omega arith),
      cleared StaffTo (omega arith),
      cleared DoorFrom (omega arith),
      cleared DoorTo (omega arith),
      cleared QuarterFrom (omega arith),
      cleared QuarterTo (omega arith),
      cleared Parent (omega arith),
    ) refl
