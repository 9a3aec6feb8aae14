-- The links that removal stores (specs/Remove `replaced`): the words with a terminal cell in the place of the unwanted cell k.
--   words-set, header_set     a store at a place where a cell may hang leaves the grants' words and the header but the root
--   cut_off                    the words with the terminal cell cut from its parent
--   replaced-long, replaced_past, replaced-words, replaced_header   the length, the fields behind the links, the grants' words and the header stay
--   replaced_here, replaced_leaf, replaced_other                    where k hung, the terminal cell's links, and every other place
-- Assumes nothing.
use Prim.Native.Nat.{ℕ, ◌<◌, ◌≤◌}
use mathlib.Core.Logic.{◌≢◌}
use mathlib.Core.Path.{◌≡◌, sym, ◌∙◌}
use mathlib.Core.List.{List}
use native.Mathlib.Omega.{arith}
use lib.ListN.{length, get_or, set, length-set}
use lib.Seq.{get_or-set_same, get_or-set_other}
use Rattle.geometry.specs.declared.Side.{Side}
use Rattle.geometry.specs.declared.Side.TheVariants.{Left, Right}
use Rattle.pool.specs.declared.Field.{Field}
use Rattle.pool.specs.declared.Field.TheVariants as field
use Rattle.pool.specs.Layout.{root_place, header_words, offset, field_of}
use Rattle.pool.specs.Capacity.{pool_length}
use Rattle.pool.proofs.CellLaws.{grant_between, SameGrantWords}
use Rattle.adt.specs.Node.{link_place}
use Rattle.adt.specs.Remove.{replaced}
use Rattle.adt.proofs.NodeLaws.{sides_apart, Away, Hook, hook_link, hook_within, hook_header, field_set_hook}

-- a store at a place where a cell may hang leaves the grants' words and the header but the root
pub words-set : {c at : ℕ} (w : List ℕ) (v : ℕ) → Hook c at → (j : ℕ) → SameGrantWords w (set w at v) j
words-set w v hook j f h = field_set_hook w j v f hook (grant_between f h).past

pub header_set : {c at : ℕ} (w : List ℕ) (v : ℕ) → Hook c at → (i : ℕ) → i < header_words → i ≢ root_place → get_or (set w at v) i 0 ≡ get_or w i 0
header_set {at = at} w v hook i h n = get_or-set_other w at i v 0 (hook_header i hook h n)

-- the words with the terminal cell cut from its parent, and then with the links of k in it
abbrev pub cut_off : List ℕ → ℕ → List ℕ
cut_off w leaf_at = set w leaf_at 0

abbrev pub left_moved : List ℕ → ℕ → ℕ → ℕ → List ℕ
left_moved w k leaf leaf_at = set (cut_off w leaf_at) (link_place leaf Left) (get_or (cut_off w leaf_at) (link_place k Left) 0)

abbrev pub both_moved : List ℕ → ℕ → ℕ → ℕ → List ℕ
both_moved w k leaf leaf_at = set (left_moved w k leaf leaf_at) (link_place leaf Right) (get_or (cut_off w leaf_at) (link_place k Right) 0)

-- reads of the words with a terminal cell in the place of the cell k
module _ (w : List ℕ) (k : ℕ) {c at leaf leaf_at : ℕ} (long : length w ≡ pool_length c) (hook : Hook c at) (leafHook : Hook c leaf_at) (pos : 0 < leaf)
    (le : leaf ≤ c) where
  pub replaced-long : length (replaced w k at leaf leaf_at) ≡ length w
  unfolding replaced
  replaced-long =
      length-set (both_moved w k leaf leaf_at) at leaf
      ∙ length-set (left_moved w k leaf leaf_at) (link_place leaf Right) _
      ∙ length-set (cut_off w leaf_at) (link_place leaf Left) _
      ∙ length-set w leaf_at 0

  -- no field behind the links
  pub replaced_past : (j : ℕ) (f : Field) → offset field.Right < offset f → field_of (replaced w k at leaf leaf_at) j f ≡ field_of w j f
  unfolding replaced
  replaced_past j f h =
      field_set_hook (both_moved w k leaf leaf_at) j leaf f hook h
      ∙ field_set_hook {c = c} (left_moved w k leaf leaf_at) j _ f (hook_link Right pos le) h
      ∙ field_set_hook {c = c} (cut_off w leaf_at) j _ f (hook_link Left pos le) h
      ∙ field_set_hook w j 0 f leafHook h

  pub replaced-words : (j : ℕ) → SameGrantWords w (replaced w k at leaf leaf_at) j
  replaced-words j f h = replaced_past j f (grant_between f h).past

  pub replaced_header : (i : ℕ) → i < header_words → i ≢ root_place → get_or (replaced w k at leaf leaf_at) i 0 ≡ get_or w i 0
  unfolding replaced
  replaced_header i h n =
      header_set (both_moved w k leaf leaf_at) leaf hook i h n
      ∙ header_set (left_moved w k leaf leaf_at) _ (hook_link Right pos le) i h n
      ∙ header_set (cut_off w leaf_at) _ (hook_link Left pos le) i h n
      ∙ header_set w 0 leafHook i h n

  pub replaced_here : get_or (replaced w k at leaf leaf_at) at 0 ≡ leaf
  unfolding replaced
  replaced_here =
      let e = length-set (left_moved w k leaf leaf_at) (link_place leaf Right) (get_or (cut_off w leaf_at) (link_place k Right) 0) in
      let f = length-set (cut_off w leaf_at) (link_place leaf Left) (get_or (cut_off w leaf_at) (link_place k Left) 0) in
      get_or-set_same (both_moved w k leaf leaf_at) at leaf 0 (omega (arith, hook_within hook, e, f, length-set w leaf_at 0))

  -- the terminal cell has the links of k
  pub replaced_leaf : Away at leaf → (s : Side) → get_or (replaced w k at leaf leaf_at) (link_place leaf s) 0 ≡ get_or (cut_off w leaf_at) (link_place k s) 0
  unfolding replaced
  replaced_leaf away Left =
      get_or-set_other (both_moved w k leaf leaf_at) at (link_place leaf Left) leaf 0 (away Left)
      ∙ get_or-set_other (left_moved w k leaf leaf_at) (link_place leaf Right) (link_place leaf Left) _ 0 (sides_apart leaf)
      ∙ get_or-set_same (cut_off w leaf_at) (link_place leaf Left) _ 0 (omega (arith, hook_within {c = c} (hook_link Left pos le), length-set w leaf_at 0))
  replaced_leaf away Right =
      let f = length-set (cut_off w leaf_at) (link_place leaf Left) (get_or (cut_off w leaf_at) (link_place k Left) 0) in
      get_or-set_other (both_moved w k leaf leaf_at) at (link_place leaf Right) leaf 0 (away Right)
      ∙ get_or-set_same (left_moved w k leaf leaf_at) (link_place leaf Right) _ 0
      (omega (arith, hook_within {c = c} (hook_link Right pos le), f, length-set w leaf_at 0))

  -- no other place is stored
  pub replaced_other : (link : ℕ) → link ≢ at → Away link leaf → get_or (replaced w k at leaf leaf_at) link 0 ≡ get_or (cut_off w leaf_at) link 0
  unfolding replaced
  replaced_other link n away =
      get_or-set_other (both_moved w k leaf leaf_at) at link leaf 0 n
      ∙ get_or-set_other (left_moved w k leaf leaf_at) (link_place leaf Right) link _ 0 (λ e. away Right (sym e))
      ∙ get_or-set_other (cut_off w leaf_at) (link_place leaf Left) link _ 0 (λ e. away Left (sym e))
