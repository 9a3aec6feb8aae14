-- The way down, the removal walk and the stores of a removal, step by step, as the code makes them.
--   descent_end, descent_blank, descent_above, descent_full, descent_parent, descent_next    of `descend_from`
--   follow-terminal, follow-deep, follow-above, follow_full, follow_parent, follow-next      of `follow`
--   replace_steps, raise_steps, unlink-terminal, unlink_other           of `replaced`, `raised` and `unlinked`
--   reparent_none, reparent_above, reparent_stored                      of `reparented`
--   length-reparented, length-raised                                    stores keep the length
-- Assumes nothing.
use Prim.Native.Nat.{ℕ, zero, suc, ◌+◌, ◌-◌, ◌<◌, ◌≤◌}
use mathlib.Core.Path.{◌≡◌, refl, ◌∙◌}
use mathlib.Core.Bool.{Bool, true, false, cond, ◌&&◌, ◌||◌}
use mathlib.Core.List.{List}
use native.Mathlib.Numerals.{add-one, sub-one}
use native.Mathlib.Omega.{arith}
use lib.Dec.{leb, ltb, eqb}
use lib.ListN.{length, get_or, set, length-set}
use borrow.Author.Tests.{le-leb, lt-leb, lt-ltb, le-ltb, eq-eqb, ne_eqb}
use Rattle.geometry.specs.declared.Side.{Side}
use Rattle.geometry.specs.Axis.{axis_of}
use Rattle.geometry.specs.Levels.{levels}
use Rattle.geometry.specs.Region.{Region, side_of, half}
use Rattle.pool.specs.declared.Field.TheVariants as field
use Rattle.pool.specs.Layout.{place, field_of}
use Rattle.pool.specs.Capacity.{capacity_of}
use Rattle.adt.specs.Node.{link_place, parent_at, is_parent}
use Rattle.adt.specs.Insert.{InsertionWalk, blank_at, descend_from}
use Rattle.adt.specs.Insert as insert
use Rattle.adt.specs.Remove.{terminal, next_link, follow, replaced, reparented, raised, unlinked, freed, removed}
use Rattle.adt.specs.Remove as remove

module _ (w : List ℕ) (c : ℕ) (p : List ℕ) (n from link : ℕ) (g : Region) (met : ℕ) where
  pub descent_end : n ≤ 0 → insert.broken ≡ descend_from w c p n from link g met
  unfolding descend_from
  descent_end h = go n h
    where
      go : (n : ℕ) → n ≤ 0 → insert.broken ≡ descend_from w c p n from link g met
      go zero h = refl
      go (suc n) h = absurd (omega arith)

  module _ (k : ℕ) (some : 0 < n) (e : k ≡ get_or w link 0) where
    -- the rest of the way, along the child on the side that holds the point
    abbrev onward : ℕ → Side → InsertionWalk
    onward a s = descend_from w c p (n - 1) k (link_place k s) (half s g a) (met + 1)

    -- the way goes on, or ends, by the tests of k
    descent_cases : {a : ℕ} {s : Side} → a ≡ axis_of (levels - (n - 1)) → s ≡ side_of g a (get_or p a 0)
        → cond (eqb k 0) (blank_at link from) (cond (leb k c && ltb met c && is_parent w from k) (onward a s) insert.broken) ≡ descend_from w c p n from link g met
    unfolding descend_from
    descent_cases ea es = go n some ea es
      where
        go : (n : ℕ) → 0 < n → {a : ℕ} {s : Side} → a ≡ axis_of (levels - (n - 1)) → s ≡ side_of g a (get_or p a 0)
            → cond (eqb k 0) (blank_at link from) (cond (leb k c && ltb met c && is_parent w from k) (descend_from w c p (n - 1) k (link_place k s) (half s g a) (met + 1)) insert.broken)
            ≡ descend_from w c p n from link g met
        go zero h ea es = absurd (omega arith)
        go (suc n) h ea es = rw (es, ea, ← e, sub-one (suc n), add-one met)

    pub descent_blank : k ≡ 0 → blank_at link from ≡ descend_from w c p n from link g met
    descent_blank z = rw (eq-eqb k 0 z) at (descent_cases refl refl)

    module _ (nz : ¬ (k ≡ 0)) where
      pub descent_above : c < k → insert.broken ≡ descend_from w c p n from link g met
      descent_above h = rw (ne_eqb k 0 nz, lt-leb k c h) at (descent_cases refl refl)

      module _ (le : k ≤ c) where
        pub descent_full : c ≤ met → insert.broken ≡ descend_from w c p n from link g met
        descent_full h = rw (ne_eqb k 0 nz, le-leb k c le, le-ltb met c h) at (descent_cases refl refl)

        pub descent_parent : met < c → ¬ (parent_at w k ≡ from) → insert.broken ≡ descend_from w c p n from link g met
        descent_parent h other =
            rw (ne_eqb k 0 nz, le-leb k c le, lt-ltb met c h, ne_eqb (parent_at w k) from other) at (descent_cases refl refl)

        pub descent_next : met < c → parent_at w k ≡ from → {a from' link' : ℕ} {s : Side} {g' : Region} → a ≡ axis_of (levels - (n - 1)) → s ≡ side_of g a (get_or p a 0)
            → g' ≡ half s g a → from' ≡ k → link' ≡ link_place k s → descend_from w c p (n - 1) from' link' g' (met + 1) ≡ descend_from w c p n from link g met
        descent_next h named ea es eg ef el =
            rw (eg, ef, el) (rw (ne_eqb k 0 nz, le-leb k c le, lt-ltb met c h, eq-eqb (parent_at w k) from named) at (descent_cases ea es))

module _ (w : List ℕ) (c n k link met : ℕ) (at next : ℕ) (ea : at ≡ next_link w k) (e : next ≡ get_or w at 0) where
  pub follow-terminal : next ≡ 0 → terminal k link ≡ follow w c n k link met
  unfolding follow
  follow-terminal z = go n
    where
      go : (n : ℕ) → terminal k link ≡ follow w c n k link met
      go zero = rw (← ea, ← e, eq-eqb next 0 z)
      go (suc n) = rw (← ea, ← e, eq-eqb next 0 z)

  module _ (nz : ¬ (next ≡ 0)) where
    pub follow-deep : n ≡ 0 → remove.broken ≡ follow w c n k link met
    unfolding follow
    follow-deep z = rw (z, ← ea, ← e, ne_eqb next 0 nz)

    module _ (some : ¬ (n ≡ 0)) where
      follow_cases : cond (leb next c && ltb met c && is_parent w k next) (follow w c (n - 1) next at (met + 1)) remove.broken ≡ follow w c n k link met
      unfolding follow
      follow_cases = go n some
        where
          go : (n : ℕ) → ¬ (n ≡ 0) → cond (leb next c && ltb met c && is_parent w k next) (follow w c (n - 1) next at (met + 1)) remove.broken ≡ follow w c n k link met
          go zero h = absurd (h refl)
          go (suc n) h = rw (← ea, ← e, ne_eqb next 0 nz, sub-one (suc n), add-one met)

      pub follow-above : c < next → remove.broken ≡ follow w c n k link met
      follow-above h = rw (lt-leb next c h) at follow_cases

      module _ (le : next ≤ c) where
        pub follow_full : c ≤ met → remove.broken ≡ follow w c n k link met
        follow_full h = rw (le-leb next c le, le-ltb met c h) at follow_cases

        pub follow_parent : met < c → ¬ (parent_at w next ≡ k) → remove.broken ≡ follow w c n k link met
        follow_parent h other = rw (le-leb next c le, lt-ltb met c h, ne_eqb (parent_at w next) k other) at follow_cases

        pub follow-next : met < c → parent_at w next ≡ k → follow w c (n - 1) next at (met + 1) ≡ follow w c n k link met
        follow-next h named = rw (le-leb next c le, lt-ltb met c h, eq-eqb (parent_at w next) k named) at follow_cases

-- the stores of a removal, one after the other
pub replace_steps : (w : List ℕ) (k link leaf cut : ℕ) {l r : ℕ} {v u : List ℕ} → l ≡ field_of (set w cut 0) k field.Left
    → r ≡ field_of (set w cut 0) k field.Right
    → v ≡ set (set w cut 0) (place leaf field.Left) l → u ≡ set v (place leaf field.Right) r → set u link leaf ≡ replaced w k link leaf cut
unfolding replaced field_of
replace_steps w k link leaf cut el er ev eu = rw (eu, ev, el, er)

pub unlink-terminal : (w : List ℕ) (k link leaf cut : ℕ) {v : List ℕ} → leaf ≡ k → v ≡ set w link 0 → v ≡ unlinked w k link leaf cut
unfolding unlinked
unlink-terminal w k link leaf cut e f = f ∙ rw (eq-eqb leaf k e)

pub unlink_other : (w : List ℕ) (k link leaf cut : ℕ) {u v : List ℕ} → ¬ (leaf ≡ k) → u ≡ replaced w k link leaf cut → v ≡ raised u k leaf
    → v ≡ unlinked w k link leaf cut
unfolding unlinked
unlink_other w k link leaf cut n e r = r ∙ rw (e, ne_eqb leaf k n)

-- a blank link, one above C, and one to a cell
module _ (w : List ℕ) {c : ℕ} (cap : capacity_of w ≡ c) {j child : ℕ} (e : j ≡ child) (p : ℕ) where
  pub reparent_none : j ≡ 0 → w ≡ reparented w child p
  unfolding reparented
  reparent_none z = rw (← e, eq-eqb j 0 z)

  pub reparent_above : ¬ (j ≡ 0) → c < j → w ≡ reparented w child p
  unfolding reparented
  reparent_above nz h = rw (← e, ne_eqb j 0 nz, cap, lt-ltb c j h)

  pub reparent_stored : ¬ (j ≡ 0) → j ≤ c → {v : List ℕ} → v ≡ set w (place j field.Parent) p → v ≡ reparented w child p
  unfolding reparented
  reparent_stored nz h s = s ∙ rw (← e, ne_eqb j 0 nz, cap, le-ltb c j h)

pub raise_steps : (w : List ℕ) (k leaf : ℕ) {l r p : ℕ} {v u x : List ℕ} → l ≡ field_of w leaf field.Left → r ≡ field_of w leaf field.Right
    → p ≡ field_of w k field.Parent → v ≡ set w (place leaf field.Parent) p → u ≡ reparented v l leaf → x ≡ reparented u r leaf → x ≡ raised w k leaf
unfolding raised field_of
raise_steps w k leaf el er ep ev eu ex = ex ∙ rw (eu, ev, ep, el, er)

pub length-reparented : (w : List ℕ) (j p : ℕ) → length (reparented w j p) ≡ length w
unfolding reparented
length-reparented w j p = go (eqb j 0 || ltb (capacity_of w) j)
  where
    go : (b : Bool) → length (cond b w (set w (place j field.Parent) p)) ≡ length w
    go true = refl
    go false = length-set w (place j field.Parent) p

pub length-raised : (w : List ℕ) (k leaf : ℕ) → length (raised w k leaf) ≡ length w
unfolding raised
length-raised w k leaf = simp (length-reparented, length-set)
