-- The words of a cell: all of them as a part of the pool, and those that carry its grant.
--   slice_cell             the part of the pool that a cell is, field by field
--   words_at-same           the grant's words, where its fields are the same
--   words_at-with_cell       of a cell that was stored
-- Assumes nothing.
use Prim.Native.Nat.{ℕ, suc, ◌<◌, ◌≤◌}
use mathlib.Core.Path.{◌≡◌, refl, ap, ◌∙◌}
use mathlib.Core.List.{List, [], ◌∷◌, ◌++◌}
use native.Mathlib.Omega.{arith}
use lib.ListN.{length, get_or}
use lib.Seq.{slice, slice_empty, slice-cons}
use Rattle.model.specs.declared.Grant.{Grant}
use Rattle.pool.specs.declared.Field.{Field}
use Rattle.pool.specs.declared.Field.TheVariants.{Left, Right, Number, RankKind, StaffFrom, StaffTo, DoorFrom, DoorTo, QuarterFrom, QuarterTo, Parent}
use Rattle.pool.specs.Layout.{offset, place, field_of}
use Rattle.pool.specs.Capacity.{pool_length}
use Rattle.pool.specs.Cell.{words_at, grant_words, cell_of, with_cell}
use Rattle.pool.proofs.LayoutLaws.{offset_lt}
use Rattle.pool.proofs.CellLaws.{SameGrantWords, field_with_cell-same}

place-next : (k : ℕ) (f : Field) → 0 < k → place k f < place (suc k) Left
unfolding place
place-next k f pos = omega (arith, offset_lt f)

place_end : (c k : ℕ) → 0 < k → k ≤ c → (n : ℕ) → n ≡ pool_length c → place (suc k) Left ≤ n
unfolding place
place_end c k pos le n e = omega arith

module _ (w : List ℕ) (c k : ℕ) (pos : 0 < k) (le : k ≤ c) (long : length w ≡ pool_length c) where
  -- one field, and the words after it
  slice_field : (f : Field) (i : ℕ) → suc (place k f) ≡ i → slice (place k f) (place (suc k) Left) w ≡ field_of w k f ∷ slice i (place (suc k) Left) w
  unfolding field_of
  slice_field f i e =
      slice-cons (place k f) (place (suc k) Left) w 0 (before f) end
      ∙ ap (λ (j : ℕ). field_of w k f ∷ slice j (place (suc k) Left) w) e
    where
      before : (f : Field) → place k f < place (suc k) Left
      before f = place-next k f pos

      end : place (suc k) Left ≤ length w
      end = place_end c k pos le (length w) long

  next : (f g : Field) → offset g ≡ suc (offset f) → suc (place k f) ≡ place k g
  unfolding place
  next f g e = omega arith

  last : suc (place k Parent) ≡ place (suc k) Left
  unfolding place
  last = omega arith

  pub slice_cell : slice (place k Left) (place (suc k) Left) w ≡ field_of w k Left ∷ field_of w k Right ∷ words_at w k ++ (field_of w k Parent ∷ [])
  slice_cell =
      rw (
        slice_field Left (place k Right) (next Left Right refl),
        slice_field Right (place k Number) (next Right Number refl),
        slice_field Number (place k RankKind) (next Number RankKind refl),
        slice_field RankKind (place k StaffFrom) (next RankKind StaffFrom refl),
        slice_field StaffFrom (place k StaffTo) (next StaffFrom StaffTo refl),
        slice_field StaffTo (place k DoorFrom) (next StaffTo DoorFrom refl),
        slice_field DoorFrom (place k DoorTo) (next DoorFrom DoorTo refl),
        slice_field DoorTo (place k QuarterFrom) (next DoorTo QuarterFrom refl),
        slice_field QuarterFrom (place k QuarterTo) (next QuarterFrom QuarterTo refl),
        slice_field QuarterTo (place k Parent) (next QuarterTo Parent refl),
        slice_field Parent (place (suc k) Left) last,
        slice_empty (place (suc k) Left) w,
      ) refl

pub words_at-same : (w v : List ℕ) (k : ℕ) → SameGrantWords w v k → words_at v k ≡ words_at w k
words_at-same w v k same =
    cc (same Number tt, same RankKind tt, same StaffFrom tt, same StaffTo tt, same DoorFrom tt, same DoorTo tt, same QuarterFrom tt, same QuarterTo tt)

pub words_at-with_cell : (w : List ℕ) (c k l r : ℕ) (g : Grant) (p : ℕ) → 0 < k → k ≤ c → length w ≡ pool_length c
    → words_at (with_cell w k (cell_of l r g p)) k ≡ grant_words g
words_at-with_cell w c k l r g p pos le long =
    let v = with_cell w k (cell_of l r g p) in
    let at : (f : Field) → field_of v k f ≡ get_or (cell_of l r g p) (offset f) 0 = λ f. field_with_cell-same w k (cell_of l r g p) refl c f pos le long in
    rw (at Number, at RankKind, at StaffFrom, at StaffTo, at DoorFrom, at DoorTo, at QuarterFrom, at QuarterTo) refl
