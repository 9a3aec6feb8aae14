-- Why a precedence is shown: a grant decides for exactly those of its staff numbers that are not overridden.
--   kept-decides         of grants that touch a door and a quarter, the one that decides for a staff number is the one not overridden there
--   whole-decides, nowhere-decides    so a whole grant decides for all its staff, and one that stands nowhere for none
-- Assumes nothing.
use Prim.Native.Nat.{ℕ}
use mathlib.Core.Logic.{◌↔◌}
use mathlib.Core.Path.{◌≡◌, refl, subst}
use mathlib.Core.Bool.{Bool, true, false}
use mathlib.Core.List.{List, map, Memᴰ}
use Rattle.lists.specs.Tests.{filter}
use Rattle.lists.proofs.TestLaws.{both_le, le_both, mem_filter, filter_mem}
use Rattle.lists.proofs.DistinctLaws.{Distinct}
use Rattle.lists.proofs.KeyLaws.{distinct-keys-filter}
use Rattle.model.specs.declared.Grant.{Grant}
use Rattle.model.specs.Interval.{holds}
use Rattle.model.specs.Box.{staff_of}
use Rattle.model.specs.Decide.{outranks, decision_of, decide_among}
use Rattle.model.proofs.DecideLaws.{Yields, outranks-not_yields, not-outranks_yields, Foremost, foremost_decides}
use Rattle.precedence.specs.declared.Precedence.TheVariants.{Whole, None}
use Rattle.precedence.specs.Precedence.{HasStaff, Overridden, HasPrecedence, precedence}
use Rattle.precedence.proofs.PrecedenceLaws.{precedence_stands}

-- those of them that hold a staff number: they overlap the point that decide is asked about
abbrev pub holding : ℕ → List Grant → List Grant
holding s gs = filter (λ h. holds (staff_of h.bounds) s) gs

module _ (gs : List Grant) (distinct : Distinct (map (λ h. h.number) gs)) (g : Grant) (member : Memᴰ g gs) (s : ℕ) (staff : HasStaff g s) where
  test : (h : Grant) → HasStaff h s → holds (staff_of h.bounds) s ≡ true
  test h k = le_both h.bounds.staff_from s s h.bounds.staff_to k.starts k.ends

  held : (h : Grant) → holds (staff_of h.bounds) s ≡ true → HasStaff h s
  held h e = let both = both_le h.bounds.staff_from s s h.bounds.staff_to e in record { starts = both.0; ends = both.1 }

  kept_foremost : (Overridden gs g s → ⊥) → Foremost g (holding s gs)
  kept_foremost free =
      record {
        member = mem_filter (λ h. holds (staff_of h.bounds) s) gs g member (test g staff);
        yield = λ h m. go h (filter_mem (λ h. holds (staff_of h.bounds) s) gs h m) (outranks h g) refl;
      }
    where
      go : (h : Grant) → Memᴰ h gs × (holds (staff_of h.bounds) s ≡ true) → (a : Bool) → outranks h g ≡ a → Yields h g
      go h m true x = absurd (free (record { by = h; member = m.0; above = x; staff = held h m.1 }))
      go h m false x = not-outranks_yields h g x

  foremost_kept : Foremost g (holding s gs) → Overridden gs g s → ⊥
  foremost_kept f o =
      outranks-not_yields o.by g o.above
      (f.yield o.by (mem_filter (λ h. holds (staff_of h.bounds) s) gs o.by o.member (test o.by o.staff)))

  pub kept-decides : (Overridden gs g s → ⊥) ↔ (decide_among (holding s gs) ≡ decision_of g.kind g)
  kept-decides =
      let same = foremost_decides (holding s gs) (distinct-keys-filter (λ h. h.number) (λ h. holds (staff_of h.bounds) s) gs distinct) g in
      (λ free. same.0 (kept_foremost free), λ e. foremost_kept (same.1 e))

  pub whole-decides : precedence gs g ≡ Whole → decide_among (holding s gs) ≡ decision_of g.kind g
  unfolding HasPrecedence
  whole-decides e = kept-decides.0 (subst (HasPrecedence gs g) e (precedence_stands gs g) s staff)

  pub nowhere-decides : precedence gs g ≡ None → decide_among (holding s gs) ≡ decision_of g.kind g → ⊥
  unfolding HasPrecedence
  nowhere-decides e d = kept-decides.1 d ((subst (HasPrecedence gs g) e (precedence_stands gs g)).1 s staff)
