-- Laws of the places at which cells hang, and of stores there.
--   link_injective                  two links' places are equal only if cell and side are
--   sides_apart                     the links of a cell are two
--   Away at k, LinkOf ks at         the place is no link of the cell k; it is a link of one of the cells ks
--   link_away, root_away, other_away     places that are no link of a cell: that of another cell's link, the root's, another cell's field
--   Hook c at                       a place at which a cell may hang: the root's, or a link of one of the cells 1 to c
--   hook_within, hook_header, hook_not-free     it lies in the pool, and is no other word of the header
--   hook_past, hook_away            it is no field of a cell behind the links, and none at all of a cell that it is no link of
--   field_set_hook                  a store there leaves every field behind the links
--   hook_with_cell                   a store of a cell leaves the places that are none of its links
-- Assumes nothing.
use Prim.Native.Nat.{ℕ, ◌<◌, ◌≤◌}
use mathlib.Core.Path.{◌≡◌, refl, sym, ap, ◌∙◌}
use mathlib.Core.Logic.{◌≢◌}
use mathlib.Core.List.Memᴰ
use mathlib.Core.List.{List, Memᴰ}
use native.Mathlib.Omega.{arith}
use lib.ListN.{length, get_or, set}
use lib.Seq.{get_or-set_other}
use Rattle.lists.proofs.DistinctLaws.{Upto}
use Rattle.geometry.specs.declared.Side.{Side}
use Rattle.geometry.specs.declared.Side.TheVariants.{Left, Right}
use Rattle.pool.specs.declared.Field.{Field}
use Rattle.pool.specs.declared.Field.TheVariants as field
use Rattle.pool.specs.Layout.{root_place, free_place, header_words, cell_words, offset, place, field_of}
use Rattle.pool.specs.Capacity.{pool_length}
use Rattle.pool.specs.Cell.{with_cell}
use Rattle.pool.proofs.LayoutLaws.{same-offset, place_injective, place_past_header, place-within}
use Rattle.pool.proofs.CellLaws.{field_with_cell_other, header_with_cell}
use Rattle.adt.specs.Node.{link_field, link_place}

side_offset : (s t : Side) → offset (link_field s) ≡ offset (link_field t) → s ≡ t
side_offset Left Left e = refl
side_offset Left Right e = absurd (omega arith)
side_offset Right Left e = absurd (omega arith)
side_offset Right Right e = refl

pub link_injective : (j k : ℕ) (s t : Side) → 0 < j → 0 < k → link_place j s ≡ link_place k t → (j ≡ k) × (s ≡ t)
link_injective j k s t hj hk e =
    let r = place_injective j k (link_field s) (link_field t) hj hk e in
    (r.0, side_offset s t r.1)

pub sides_apart : (k : ℕ) → link_place k Left ≢ link_place k Right
unfolding place
sides_apart k = omega arith

-- the place is no link of the cell k
abbrev pub Away : ℕ → ℕ → Type 0
Away at k = (s : Side) → link_place k s ≢ at

-- the place is a link of one of the cells
pub record LinkOf (ks : List ℕ) (at : ℕ) : Type 0 where
  pub cell : ℕ
  pub member : Memᴰ cell ks
  pub side : Side
  pub is : at ≡ link_place cell side

pub link_more : {ks js : List ℕ} {at : ℕ} → ((k : ℕ) → Memᴰ k ks → Memᴰ k js) → LinkOf ks at → LinkOf js at
link_more f h = record { cell = h.cell; member = f h.cell h.member; side = h.side; is = h.is }

-- a cell that is none of them is away from it
pub link_away : {c : ℕ} {ks : List ℕ} {at : ℕ} (k : ℕ) → 0 < k → Upto c ks → LinkOf ks at → ¬ Memᴰ k ks → Away at k
link_away k pos up h n s e =
    let same = link_injective k h.cell s h.side pos (up h.cell h.member).0 (e ∙ h.is) in
    n (Memᴰ.cast same.0 h.member)

-- the root's place is no link of a cell, and a field of another cell is none
pub root_away : (k : ℕ) → Away root_place k
root_away k s = omega (arith, place_past_header k (link_field s))

pub other_away : (j k : ℕ) (f : Field) → 0 < j → 0 < k → ¬ (j ≡ k) → Away (place j f) k
other_away j k f hj hk n z e = n (sym (place_injective k j (link_field z) f hk hj e).0)

pub data Hook (c : ℕ) : ℕ → Type 0 where
  hook_root : Hook c root_place
  hook_link : {k : ℕ} (s : Side) → 0 < k → k ≤ c → Hook c (link_place k s)

pub hook_within : {c at : ℕ} → Hook c at → at < pool_length c
hook_within hook_root = omega arith
hook_within {c} (hook_link {k = k} s pos le) = place-within c k (link_field s) pos le

-- of the header's words only the root's
pub hook_header : {c at : ℕ} (i : ℕ) → Hook c at → i < header_words → i ≢ root_place → i ≢ at
hook_header i hook_root h n = n
hook_header i (hook_link {k = k} s pos le) h n = omega (arith, place_past_header k (link_field s))

pub hook_not-free : {c at : ℕ} → Hook c at → at ≢ free_place
hook_not-free hook e = hook_header free_place hook (omega arith) (omega arith) (sym e)

link-first : (s : Side) → offset (link_field s) ≤ offset field.Right
link-first Left = omega arith
link-first Right = omega arith

pub hook_past : {c at : ℕ} (k : ℕ) (f : Field) → Hook c at → offset field.Right < offset f → place k f ≢ at
hook_past k f hook_root h = omega (arith, place_past_header k f)
hook_past k f (hook_link {k = j} s pos le) h = λ e. omega (arith, same-offset k j f (link_field s) e, link-first s)

pub hook_away : {c at : ℕ} (k : ℕ) → Hook c at → Away at k → (f : Field) → place k f ≢ at
hook_away k hook away field.Left = away Left
hook_away k hook away field.Right = away Right
hook_away k hook away field.Number = hook_past k field.Number hook (omega arith)
hook_away k hook away field.RankKind = hook_past k field.RankKind hook (omega arith)
hook_away k hook away field.StaffFrom = hook_past k field.StaffFrom hook (omega arith)
hook_away k hook away field.StaffTo = hook_past k field.StaffTo hook (omega arith)
hook_away k hook away field.DoorFrom = hook_past k field.DoorFrom hook (omega arith)
hook_away k hook away field.DoorTo = hook_past k field.DoorTo hook (omega arith)
hook_away k hook away field.QuarterFrom = hook_past k field.QuarterFrom hook (omega arith)
hook_away k hook away field.QuarterTo = hook_past k field.QuarterTo hook (omega arith)
hook_away k hook away field.Parent = hook_past k field.Parent hook (omega arith)

pub field_set_hook : {c at : ℕ} (w : List ℕ) (k v : ℕ) (f : Field) → Hook c at → offset field.Right < offset f → field_of (set w at v) k f ≡ field_of w k f
unfolding field_of
field_set_hook {at = at} w k v f hook h = get_or-set_other w at (place k f) v 0 (hook_past k f hook h)

-- a store of a cell leaves the places where others hang
pub hook_with_cell : {c at : ℕ} (w : List ℕ) (k : ℕ) (ws : List ℕ) → length ws ≡ cell_words → 0 < k → Hook c at → Away at k
    → get_or (with_cell w k ws) at 0 ≡ get_or w at 0
unfolding field_of
hook_with_cell w k ws ten pk hook_root away = header_with_cell w k ws ten root_place (omega arith)
hook_with_cell w k ws ten pk (hook_link {k = j} s pos le) away =
    field_with_cell_other w k ws ten j (link_field s) pos pk (λ e. away s (ap (λ (i : ℕ). link_place i s) (sym e)))
