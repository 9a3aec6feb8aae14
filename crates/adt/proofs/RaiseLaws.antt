-- The parents that removal stores (specs/Remove): of the terminal cell, and of its children.
--   NoParent i         no cell's parent stands at this place: no_parent, header_no_parent, hook_no_parent
--   reparented-place, raised-place     no word is changed but a cell's parent
--   reparented-same, reparented_other  the cell's own, and the fields of others
--   raised_leaf        the terminal cell names the parent of the unwanted one
--   raised_child       its children name it
--   raised_other       the fields of others stay
-- Assumes nothing.
use Prim.Native.Nat.{ℕ, ◌<◌, ◌≤◌}
use mathlib.Core.Logic.{◌≢◌}
use mathlib.Core.Path.{◌≡◌, refl, sym, ◌∙◌}
use mathlib.Core.Bool.{Bool, true, false, cond, ◌||◌}
use mathlib.Core.List.{List}
use native.Mathlib.Omega.{arith}
use lib.Dec.{ltb, eqb}
use lib.ListN.{length, get_or, set, length-set}
use lib.Seq.{get_or-set_same, get_or-set_other}
use borrow.Author.Tests.{eqb-false, ne_eqb, le-ltb}
use Rattle.geometry.specs.declared.Side.{Side}
use Rattle.geometry.specs.declared.Side.TheVariants.{Left, Right}
use Rattle.pool.specs.declared.Field.{Field}
use Rattle.pool.specs.declared.Field.TheVariants as field
use Rattle.pool.specs.Layout.{header_words, offset, place, field_of}
use Rattle.pool.specs.Capacity.{pool_length, capacity_of}
use Rattle.pool.proofs.LayoutLaws.{same-offset, place_injective, place_past_header, place-within}
use Rattle.pool.proofs.CapacityLaws.{capacity_of-pool_length}
use Rattle.adt.specs.Node.{link_place, parent_at}
use Rattle.adt.specs.Remove.{reparented, raised}
use Rattle.adt.proofs.NodeLaws.{Hook, hook_past}
use Rattle.adt.proofs.DescentSteps.{length-reparented}
use Rattle.adt.proofs.ExchangeLaws.{other}

-- no cell's parent stands at this place
abbrev pub NoParent : ℕ → Type 0
NoParent i = (z : ℕ) → place z field.Parent ≢ i

-- a field before the parent, the header, and where a cell may hang
pub no_parent : (j : ℕ) (f : Field) → offset f < offset field.Parent → NoParent (place j f)
no_parent j f before z e = omega (arith, same-offset z j field.Parent f e)

pub header_no_parent : (i : ℕ) → i < header_words → NoParent i
header_no_parent i lt z e = omega (arith, place_past_header z field.Parent)

pub hook_no_parent : {c at : ℕ} → Hook c at → NoParent at
hook_no_parent hook z e = hook_past z field.Parent hook (omega arith) e

-- a store of one cell's parent leaves the fields of others
field_set_parent : (w : List ℕ) (j v i : ℕ) (f : Field) → 0 < j → 0 < i → ¬ (i ≡ j) → field_of (set w (place j field.Parent) v) i f ≡ field_of w i f
unfolding field_of
field_set_parent w j v i f hj hi n =
    get_or-set_other w (place j field.Parent) (place i f) v 0 (λ e. n (place_injective i j f field.Parent hi hj e).0)

module _ (w : List ℕ) (j p : ℕ) where
  pub reparented-place : (i : ℕ) → NoParent i → get_or (reparented w j p) i 0 ≡ get_or w i 0
  unfolding reparented
  reparented-place i none = go (eqb j 0 || ltb (capacity_of w) j)
    where
      go : (b : Bool) → get_or (cond b w (set w (place j field.Parent) p)) i 0 ≡ get_or w i 0
      go true = refl
      go false = get_or-set_other w (place j field.Parent) i p 0 (λ e. none j (sym e))

  pub reparented_other : (i : ℕ) (f : Field) → 0 < i → ¬ (i ≡ j) → field_of (reparented w j p) i f ≡ field_of w i f
  unfolding reparented
  reparented_other i f pos n = go (eqb j 0) refl
    where
      stored : (b : Bool) → 0 < j → field_of (cond b w (set w (place j field.Parent) p)) i f ≡ field_of w i f
      stored true hj = refl
      stored false hj = field_set_parent w j p i f hj pos n

      go : (b : Bool) → eqb j 0 ≡ b → field_of (cond (b || ltb (capacity_of w) j) w (set w (place j field.Parent) p)) i f ≡ field_of w i f
      go true z = refl
      go false z = stored (ltb (capacity_of w) j) (let nz = eqb-false j 0 z in omega arith)

  pub reparented-same : {c : ℕ} → length w ≡ pool_length c → 0 < j → j ≤ c → parent_at (reparented w j p) j ≡ p
  unfolding reparented field_of
  reparented-same {c} long pos le =
      rw (ne_eqb j 0 (omega arith), capacity_of-pool_length w c long, le-ltb c j le)
      (get_or-set_same w (place j field.Parent) p 0 (omega (arith, place-within c j field.Parent pos le)))

module _ (w : List ℕ) (k leaf : ℕ) where
  -- the terminal cell's child on a side
  abbrev child_on : Side → ℕ
  child_on s = get_or w (link_place leaf s) 0

  -- the words with its own parent, and then with the left child's
  abbrev own_raised : List ℕ
  own_raised = set w (place leaf field.Parent) (parent_at w k)

  abbrev left_raised : List ℕ
  left_raised = reparented own_raised (child_on Left) leaf

  pub raised-place : (i : ℕ) → NoParent i → get_or (raised w k leaf) i 0 ≡ get_or w i 0
  unfolding raised
  raised-place i none =
      reparented-place left_raised (child_on Right) leaf i none
      ∙ reparented-place own_raised (child_on Left) leaf i none
      ∙ get_or-set_other w (place leaf field.Parent) i (parent_at w k) 0 (λ e. none leaf (sym e))

  module _ {c : ℕ} (long : length w ≡ pool_length c) (pos : 0 < leaf) (le : leaf ≤ c) where
    pub raised_other : (j : ℕ) (f : Field) → 0 < j → ¬ (j ≡ leaf) → ((s : Side) → ¬ (j ≡ child_on s)) → field_of (raised w k leaf) j f ≡ field_of w j f
    unfolding raised
    raised_other j f hj n apart =
        reparented_other left_raised (child_on Right) leaf j f hj (apart Right)
        ∙ reparented_other own_raised (child_on Left) leaf j f hj (apart Left)
        ∙ field_set_parent w leaf (parent_at w k) j f pos hj n

    raised_own : field_of (set w (place leaf field.Parent) (parent_at w k)) leaf field.Parent ≡ parent_at w k
    unfolding field_of
    raised_own = get_or-set_same w (place leaf field.Parent) (parent_at w k) 0 (omega (arith, place-within c leaf field.Parent pos le))

    pub raised_leaf : ((s : Side) → ¬ (leaf ≡ child_on s)) → parent_at (raised w k leaf) leaf ≡ parent_at w k
    unfolding raised
    raised_leaf apart =
        reparented_other left_raised (child_on Right) leaf leaf field.Parent pos (apart Right)
        ∙ reparented_other own_raised (child_on Left) leaf leaf field.Parent pos (apart Left)
        ∙ raised_own

    pub raised_child : (s : Side) → 0 < child_on s → child_on s ≤ c → ¬ (child_on s ≡ child_on (other s)) → parent_at (raised w k leaf) (child_on s) ≡ leaf
    unfolding raised
    raised_child Left hj hle n =
        reparented_other left_raised (child_on Right) leaf (child_on Left) field.Parent hj n
        ∙ reparented-same own_raised (child_on Left) leaf (length-set w (place leaf field.Parent) (parent_at w k) ∙ long) hj hle
    raised_child Right hj hle n =
        reparented-same left_raised (child_on Right) leaf
        (length-reparented own_raised (child_on Left) leaf ∙ length-set w (place leaf field.Parent) (parent_at w k) ∙ long) hj hle
