-- Laws of a cell's words and of its grant.
--   length-with_cell             a store of a cell keeps the length
--   field_with_cell-same         a field of the cell that was stored is the word at its offset
--   field_with_cell_other        fields of other cells stay
--   header_with_cell             the header's words stay
--   of_grant f                   whether a field is one of those that carry a grant
--   grant_between               these stand behind the links and before the parent
--   SameGrantWords w v k        the fields of cell k that carry its grant are the same in both
--   grant_at-same                then the grant is the same
--   grant_at-with_cell-same       the grant that was stored, if it fits
-- Assumes nothing.
use Prim.Native.Nat.{ℕ, ◌+◌, ◌*◌, ◌/◌, ◌%◌, ◌<◌, ◌≤◌}
use mathlib.Core.Path.{◌≡◌, refl, ap, ◌∙◌}
use mathlib.Core.Bool.{Bool, true, false}
use mathlib.Core.List.{List}
use native.Mathlib.Omega.{arith}
use lib.Dec.{T, lit<}
use lib.ListN.{length, get_or}
use lib.Seq.{sets, length-sets}
use Rattle.lists.proofs.StoreLaws.{get_d_sets_same, get_d_sets_other}
use Rattle.model.specs.declared.Kind.{Kind}
use Rattle.model.specs.declared.Kind.TheVariants.{Bars, Opens}
use Rattle.model.specs.declared.Grant.{Grant}
use Rattle.model.specs.Kind.{kind_number, kind_of}
use Rattle.model.specs.Values.{GrantFits}
use Rattle.pool.specs.declared.Field.{Field}
use Rattle.pool.specs.declared.Field.TheVariants.{Left, Right, Number, RankKind, StaffFrom, StaffTo, DoorFrom, DoorTo, QuarterFrom, QuarterTo, Parent}
use Rattle.pool.specs.Layout.{header_words, cell_words, offset, place, field_of}
use Rattle.pool.specs.Capacity.{pool_length}
use Rattle.pool.specs.Cell.{grant_at, cell_of, with_cell}
use Rattle.pool.proofs.LayoutLaws.{offset_lt, place_past_header}

pub length-with_cell : (w : List ℕ) (k : ℕ) (ws : List ℕ) → length (with_cell w k ws) ≡ length w
unfolding with_cell
length-with_cell w k ws = length-sets w (place k Left) ws

module _ (w : List ℕ) (k : ℕ) (ws : List ℕ) (ten : length ws ≡ cell_words) where
  pub field_with_cell-same : (c : ℕ) (f : Field) → 0 < k → k ≤ c → length w ≡ pool_length c → field_of (with_cell w k ws) k f ≡ get_or ws (offset f) 0
  unfolding field_of with_cell place
  field_with_cell-same c f pos le long =
      ap (λ (j : ℕ). get_or (sets w (place k Left) ws) j 0) (omega arith)
      ∙ get_d_sets_same w (place k Left) ws (offset f) 0 (omega arith) (omega (arith, offset_lt f))

  pub field_with_cell_other : (j : ℕ) (f : Field) → 0 < j → 0 < k → ¬ (j ≡ k) → field_of (with_cell w k ws) j f ≡ field_of w j f
  unfolding field_of with_cell place
  field_with_cell_other j f hj hk n = get_d_sets_other w (place k Left) ws (place j f) 0 (λ m lt. omega (arith, offset_lt f))

  pub header_with_cell : (i : ℕ) → i < header_words → get_or (with_cell w k ws) i 0 ≡ get_or w i 0
  unfolding with_cell
  header_with_cell i h = get_d_sets_other w (place k Left) ws i 0 (λ m lt. omega (arith, place_past_header k Left))

-- the field carries a part of the grant
abbrev pub of_grant : Field → Bool
of_grant Left = false
of_grant Right = false
of_grant Number = true
of_grant RankKind = true
of_grant StaffFrom = true
of_grant StaffTo = true
of_grant DoorFrom = true
of_grant DoorTo = true
of_grant QuarterFrom = true
of_grant QuarterTo = true
of_grant Parent = false

pub record BetweenLinksAndParent (f : Field) : Type 0 where
  pub past : offset Right < offset f
  pub before : offset f < offset Parent

pub grant_between : (f : Field) → T (of_grant f) → BetweenLinksAndParent f
grant_between Left h = absurd h
grant_between Right h = absurd h
grant_between Number h = record { past = lit< tt; before = lit< tt }
grant_between RankKind h = record { past = lit< tt; before = lit< tt }
grant_between StaffFrom h = record { past = lit< tt; before = lit< tt }
grant_between StaffTo h = record { past = lit< tt; before = lit< tt }
grant_between DoorFrom h = record { past = lit< tt; before = lit< tt }
grant_between DoorTo h = record { past = lit< tt; before = lit< tt }
grant_between QuarterFrom h = record { past = lit< tt; before = lit< tt }
grant_between QuarterTo h = record { past = lit< tt; before = lit< tt }
grant_between Parent h = absurd h

abbrev pub SameGrantWords : List ℕ → List ℕ → ℕ → Type 0
SameGrantWords w v k = (f : Field) → T (of_grant f) → field_of v k f ≡ field_of w k f

pub grant_at-same : (w v : List ℕ) (k : ℕ) → SameGrantWords w v k → grant_at v k ≡ grant_at w k
unfolding grant_at
grant_at-same w v k same =
    cc (same Number tt, same RankKind tt, same StaffFrom tt, same StaffTo tt, same DoorFrom tt, same DoorTo tt, same QuarterFrom tt, same QuarterTo tt)

-- rank and kind from their word
pub rank-word : (r : ℕ) (k : Kind) → r < 256 → (r * 2 + kind_number k) / 2 % 256 ≡ r
rank-word r Bars h = omega arith
rank-word r Opens h = omega arith

pub kind-word : (r : ℕ) (k : Kind) → kind_of ((r * 2 + kind_number k) % 2) ≡ k
kind-word r Bars = ap kind_of (let e : (r * 2 + 0) % 2 ≡ 0 = omega arith in e)
kind-word r Opens = ap kind_of (let e : (r * 2 + 1) % 2 ≡ 1 = omega arith in e)

pub grant_at-with_cell-same : (w : List ℕ) (c k l r : ℕ) (g : Grant) (p : ℕ) → 0 < k → k ≤ c → length w ≡ pool_length c → GrantFits g
    → grant_at (with_cell w k (cell_of l r g p)) k ≡ g
unfolding grant_at
grant_at-with_cell-same w c k l r g p pos le long fits =
    let v = with_cell w k (cell_of l r g p) in
    let at : (f : Field) → field_of v k f ≡ get_or (cell_of l r g p) (offset f) 0 = λ f. field_with_cell-same w k (cell_of l r g p) refl c f pos le long in
    let rank = rank-word g.rank g.kind fits.rank in
    let kind = kind-word g.rank g.kind in
    rw (at Number, at RankKind, at StaffFrom, at StaffTo, at DoorFrom, at DoorTo, at QuarterFrom, at QuarterTo, rank, kind) refl
