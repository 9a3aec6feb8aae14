-- Laws of the places of a pool's words, and of reads after stores.
--   offset_lt                   an offset is one of a cell's words
--   same-offset, place_injective    two places of cells are equal only if offset and cell are
--   place_past_header           a cell's place is none of the header's
--   place-within                the places of cells 1 to c lie in a pool of c cells
--   field_set_other_field, field_set_header    fields that other stores leave
-- Assumes nothing.
use Prim.Native.Nat.{ℕ, ◌+◌, ◌-◌, ◌*◌, ◌/◌, ◌%◌, ◌<◌, ◌≤◌}
use mathlib.Core.Path.{◌≡◌, sym, ap, ◌∙◌}
use mathlib.Core.List.{List}
use native.Mathlib.Omega.{arith}
use lib.Arith.{digits_div, digits_mod}
use lib.Dec.{lit<}
use lib.ListN.{set}
use lib.Seq.{get_or-set_other}
use Rattle.pool.specs.declared.Field.{Field}
use Rattle.pool.specs.declared.Field.TheVariants.{Left, Right, Number, RankKind, StaffFrom, StaffTo, DoorFrom, DoorTo, QuarterFrom, QuarterTo, Parent}
use Rattle.pool.specs.Layout.{header_words, cell_words, offset, place, field_of}
use Rattle.pool.specs.Capacity.{pool_length}

pub offset_lt : (f : Field) → offset f < cell_words
offset_lt Left = lit< tt
offset_lt Right = lit< tt
offset_lt Number = lit< tt
offset_lt RankKind = lit< tt
offset_lt StaffFrom = lit< tt
offset_lt StaffTo = lit< tt
offset_lt DoorFrom = lit< tt
offset_lt DoorTo = lit< tt
offset_lt QuarterFrom = lit< tt
offset_lt QuarterTo = lit< tt
offset_lt Parent = lit< tt

module _ (j k : ℕ) (f g : Field) (e : place j f ≡ place k g) where
  past_header : (j - 1) * cell_words + offset f ≡ (k - 1) * cell_words + offset g
  unfolding place
  past_header = omega (arith, e)

  pub same-offset : offset f ≡ offset g
  same-offset = sym (digits_mod (j - 1) (offset_lt f)) ∙ ap (λ (n : ℕ). n % cell_words) past_header ∙ digits_mod (k - 1) (offset_lt g)

  same-cell : j - 1 ≡ k - 1
  same-cell = sym (digits_div (j - 1) (offset_lt f)) ∙ ap (λ (n : ℕ). n / cell_words) past_header ∙ digits_div (k - 1) (offset_lt g)

pub place_injective : (j k : ℕ) (f g : Field) → 0 < j → 0 < k → place j f ≡ place k g → (j ≡ k) × (offset f ≡ offset g)
place_injective j k f g hj hk e = let c = same-cell j k f g e in (omega arith, same-offset j k f g e)

pub place_past_header : (k : ℕ) (f : Field) → header_words ≤ place k f
unfolding place
place_past_header k f = omega arith

pub place-within : (c k : ℕ) (f : Field) → 0 < k → k ≤ c → place k f < pool_length c
unfolding place
place-within c k f hk hc = omega (arith, offset_lt f)

pub field_set_other_field : (w : List ℕ) (j k : ℕ) (f g : Field) (v : ℕ) → ¬ (offset f ≡ offset g) → field_of (set w (place k f) v) j g ≡ field_of w j g
unfolding field_of
field_set_other_field w j k f g v n = get_or-set_other w (place k f) (place j g) v 0 (λ e. n (sym (same-offset j k g f e)))

pub field_set_header : (w : List ℕ) (i k : ℕ) (f : Field) (v : ℕ) → i < header_words → field_of (set w i v) k f ≡ field_of w k f
unfolding field_of
field_set_header w i k f v h = get_or-set_other w i (place k f) v 0 (omega (arith, place_past_header k f))
