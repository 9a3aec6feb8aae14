-- The walk along the staff numbers finds the precedence (specs/PrecedenceWalk).
--   some_overridden_iff     the test of the first pass: a staff number of the grant is overridden
--   Passed gs g s          all of its staff numbers below s are overridden
--   passed_none            so at the start of the walk
--   passed_reach           and after a turn
--   walk_whole, walk_partly, walk_nowhere    what the walk then knows
-- Assumes nothing.
use Prim.Native.Nat.{ℕ, ◌+◌, ◌<◌, ◌≤◌, max}
use mathlib.Core.Logic.{◌↔◌}
use mathlib.Core.Path.{◌≡◌, refl, sym, ap, ◌∙◌}
use mathlib.Core.Bool.{Bool, true, false, cond, not, ◌&&◌, and-eq-true_iff, false≢true}
use mathlib.Core.List.{List, [], ◌∷◌, Memᴰ}
use native.Mathlib.Omega.{arith}
use native.Mathlib.Decide.{dec_lt}
use borrow.Author.Tests.{ltb-false, le-ltb, not-true}
use lib.Dec.{ltb}
use Rattle.lists.specs.Tests.{any}
use Rattle.lists.proofs.TestLaws.{both_le, le_both}
use Rattle.lists.proofs.KeyLaws.{any_mem, mem_any}
use Rattle.model.specs.declared.Grant.{Grant}
use Rattle.model.specs.Box.{staff_of}
use Rattle.model.specs.Overlap.{overlap_on}
use Rattle.model.specs.Decide.{outranks}
use Rattle.precedence.specs.declared.Precedence.TheVariants.{Whole, Partial, None}
use Rattle.precedence.specs.Precedence.{HasStaff, Overridden, SomeOverridden, HasPrecedence, overrides, precedence}
use Rattle.precedence.specs.PrecedenceWalk.{share_staff, overrides_some, further, reach}
use Rattle.precedence.proofs.PrecedenceLaws.{overrides_iff, stands_iff}

-- a staff number of both
record Shared (g h : Grant) : Type 0 where
  number : ℕ
  first : HasStaff g number
  second : HasStaff h number

-- from what the tests of two ranges say, the higher start is in both
shared_start : (g h : Grant) → g.bounds.staff_from ≤ g.bounds.staff_to → h.bounds.staff_from ≤ h.bounds.staff_to
    → g.bounds.staff_from ≤ h.bounds.staff_to → h.bounds.staff_from ≤ g.bounds.staff_to → Shared g h
shared_start g h a b c d =
    record {
      number = max g.bounds.staff_from h.bounds.staff_from;
      first = record { starts = omega arith; ends = omega arith };
      second = record { starts = omega arith; ends = omega arith };
    }

share_iff : (g h : Grant) → (share_staff g.bounds h.bounds ≡ true) ↔ Shared g h
unfolding share_staff
share_iff g h =
    let a = ltb g.bounds.staff_to g.bounds.staff_from in
    let b = ltb h.bounds.staff_to h.bounds.staff_from in
    let o = overlap_on (staff_of g.bounds) (staff_of h.bounds) in (
      (λ e.
          let three = (and-eq-true_iff (not a && not b) o).0 e in
          let two = (and-eq-true_iff (not a) (not b)).0 three.0 in
          let ends = both_le g.bounds.staff_from h.bounds.staff_to h.bounds.staff_from g.bounds.staff_to three.1 in
          shared_start g h (ltb-false _ _ (not-true a two.0)) (ltb-false _ _ (not-true b two.1)) ends.0 ends.1),
      (λ s.
          let p = s.first in
          let q = s.second in
          rw (
            le-ltb g.bounds.staff_to g.bounds.staff_from (omega (arith, p.starts, p.ends)),
            le-ltb h.bounds.staff_to h.bounds.staff_from (omega (arith, q.starts, q.ends)),
          )
          (le_both g.bounds.staff_from h.bounds.staff_to h.bounds.staff_from g.bounds.staff_to
          (omega (arith, p.starts, q.ends)) (omega (arith, q.starts, p.ends)))),
    )

pub some_overridden_iff : (gs : List Grant) (g : Grant) → (any (overrides_some g) gs ≡ true) ↔ SomeOverridden gs g
unfolding overrides_some
some_overridden_iff gs g = (
  (λ e.
      let one = any_mem (overrides_some g) gs e in
      let h = one.0 in
      let two = (and-eq-true_iff (outranks h g) (share_staff g.bounds h.bounds)).0 one.2 in
      let s = (share_iff g h).0 two.1 in
      record { number = s.number; staff = s.first; lost = record { by = h; member = one.1; above = two.0; staff = s.second } }),
  (λ s.
      let o = s.lost in
      mem_any (overrides_some g) o.member
      (rw o.above ((share_iff g o.by).1 (record { number = s.number; first = s.staff; second = o.staff })))),
)

abbrev pub Passed : List Grant → Grant → ℕ → Type 0
Passed gs g s = (t : ℕ) → g.bounds.staff_from ≤ t → t < s → Overridden gs g t

pub passed_none : (gs : List Grant) (g : Grant) (s : ℕ) → s ≡ g.bounds.staff_from → Passed gs g s
passed_none gs g s e t a b = absurd (omega arith)

-- from s up to a number, all are overridden
abbrev Run : List Grant → Grant → ℕ → ℕ → Type 0
Run gs g s r = (t : ℕ) → s ≤ t → t < r → Overridden gs g t

module _ (gs : List Grant) (g : Grant) (s : ℕ) where
  run_further : (best : ℕ) (h : Grant) → Memᴰ h gs → Run gs g s best → Run gs g s (further g s best h)
  unfolding further
  run_further best h m run = go (overrides g s h) refl
    where
      go : (b : Bool) → overrides g s h ≡ b → Run gs g s (cond b (max best (h.bounds.staff_to + 1)) best)
      go false e t a b = run t a b
      go true e t a b = by_place (dec_lt t best)
        where
          o : (outranks h g ≡ true) × HasStaff h s
          o = (overrides_iff g s h).0 e

          by_place : Dec (t < best) → Overridden gs g t
          by_place (yes l) = run t a l
          by_place (no l) = record { by = h; member = m; above = o.0; staff = record { starts = omega (arith, o.1.starts); ends = omega arith } }

  run_reach : (best : ℕ) (hs : List Grant) → ((h : Grant) → Memᴰ h hs → Memᴰ h gs) → Run gs g s best → Run gs g s (reach g s best hs)
  unfolding reach
  run_reach best [] sub run = run
  run_reach best (h ∷ hs) sub run = run_reach (further g s best h) hs (λ x m. sub x (Memᴰ.tail m)) (run_further best h (sub h (Memᴰ.head refl)) run)

  pub passed_reach : {n : ℕ} → g.bounds.staff_from ≤ s → n ≡ reach g s s gs → Passed gs g s → Passed gs g n
  passed_reach {n} low e passed t a b = by_place (dec_lt t s)
    where
      by_place : Dec (t < s) → Overridden gs g t
      by_place (yes l) = passed t a l
      by_place (no l) = run_reach s gs (λ h m. m) (λ u x y. absurd (omega arith)) t (omega arith) (omega (arith, e))

further_grows : (g : Grant) (s best : ℕ) (h : Grant) → best ≤ further g s best h
unfolding further
further_grows g s best h = go (overrides g s h)
  where
    go : (b : Bool) → best ≤ cond b (max best (h.bounds.staff_to + 1)) best
    go true = omega arith
    go false = omega arith

reach_grows : (g : Grant) (s best : ℕ) (hs : List Grant) → best ≤ reach g s best hs
unfolding reach
reach_grows g s best [] = omega arith
reach_grows g s best (h ∷ hs) = omega (arith, further_grows g s best h, reach_grows g s (further g s best h) hs)

further_past : (g : Grant) (s best : ℕ) (h : Grant) → overrides g s h ≡ true → s < further g s best h
unfolding further
further_past g s best h e = rw e (omega (arith, ((overrides_iff g s h).0 e).1.ends))

reach_past : (g : Grant) (s best : ℕ) (hs : List Grant) (h : Grant) → Memᴰ h hs → overrides g s h ≡ true → s < reach g s best hs
unfolding reach
reach_past g s best [] h m e = elim m [ ]
reach_past g s best (x ∷ hs) h (Memᴰ.head q) e =
    omega (arith, further_past g s best x (sym (ap (overrides g s) q) ∙ e), reach_grows g s (further g s best x) hs)
reach_past g s best (x ∷ hs) h (Memᴰ.tail m) e = reach_past g s (further g s best x) hs h m e

module _ (gs : List Grant) (g : Grant) where
  pub walk_whole : any (overrides_some g) gs ≡ false → Whole ≡ precedence gs g
  unfolding HasPrecedence
  walk_whole e =
      (stands_iff gs g Whole).0
      (λ s staff o. false≢true (sym e ∙ (some_overridden_iff gs g).1 (record { number = s; staff = staff; lost = o })))

  module _ (some : any (overrides_some g) gs ≡ true) where
    pub walk_partly : (s n : ℕ) → g.bounds.staff_from ≤ s → s ≤ g.bounds.staff_to → n ≡ reach g s s gs → n ≤ s → Partial ≡ precedence gs g
    unfolding HasPrecedence
    walk_partly s n a b e stuck =
        (stands_iff gs g Partial).0 (
          (some_overridden_iff gs g).0 some,
          record {
            number = s;
            staff = record { starts = a; ends = b };
            kept = λ o. absurd (omega (arith, reach_past g s s gs o.by o.member ((overrides_iff g s o.by).1 (o.above, o.staff))));
          },
        )

    pub walk_nowhere : (s : ℕ) → Passed gs g s → g.bounds.staff_to < s → None ≡ precedence gs g
    unfolding HasPrecedence
    walk_nowhere s passed end =
        (stands_iff gs g None).0 ((some_overridden_iff gs g).0 some, λ t staff. passed t staff.starts (omega (arith, staff.ends)))
