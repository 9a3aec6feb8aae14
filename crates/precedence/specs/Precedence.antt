-- How far a grant stands where other grants touch the same door and quarter (document 01, "The plain book": decide). A panel shows it, so
-- that nobody acts on a grant that a higher one overrides.
--   HasStaff g s           s is one of g's staff numbers
--   Overridden gs g s      one of gs outranks g and has the staff number s, so that it and not g decides for s
--   HasPrecedence gs g x          in plain words: Whole, none of g's staff numbers is overridden; None, g has some and each is; Partial, one is and one isn't
--   overrides g s h, overridden gs g s, precedence gs g    the same as tests; proofs/PrecedenceLaws joins them
-- gs are grants that touch one door and one quarter: which these are is list's and decide's matter. Assumes nothing: these are definitions.
use Rattle.std.specs.Prelude.{ℕ, ◌+◌, ◌-◌, ◌≤◌, ◌≡◌, Bool, true, cond, not, ◌&&◌}
use mathlib.Core.List.{List, Memᴰ}
use Rattle.lists.specs.Tests.{any, every}
use Rattle.lists.specs.Ranges.{count_from}
use Rattle.model.specs.declared.Grant.{Grant}
use Rattle.model.specs.Interval.{holds}
use Rattle.model.specs.Box.{staff_of}
use Rattle.model.specs.Decide.{outranks}
use Rattle.precedence.specs.declared.Precedence.{Precedence}
use Rattle.precedence.specs.declared.Precedence.TheVariants.{Whole, Partial, None}

pub record HasStaff (g : Grant) (s : ℕ) : Type 0 where
  pub starts : g.bounds.staff_from ≤ s
  pub ends : s ≤ g.bounds.staff_to

pub record Overridden (gs : List Grant) (g : Grant) (s : ℕ) : Type 0 where
  pub by : Grant
  pub member : Memᴰ by gs
  pub above : outranks by g ≡ true
  pub staff : HasStaff by s

-- one of g's staff numbers is overridden
pub record SomeOverridden (gs : List Grant) (g : Grant) : Type 0 where
  pub number : ℕ
  pub staff : HasStaff g number
  pub lost : Overridden gs g number

-- one of g's staff numbers isn't
pub record SomeKept (gs : List Grant) (g : Grant) : Type 0 where
  pub number : ℕ
  pub staff : HasStaff g number
  pub kept : Overridden gs g number → ⊥

unfoldable pub HasPrecedence : List Grant → Grant → Precedence → Type 0
HasPrecedence gs g Whole = (s : ℕ) → HasStaff g s → Overridden gs g s → ⊥
HasPrecedence gs g Partial = SomeOverridden gs g × SomeKept gs g
HasPrecedence gs g None = SomeOverridden gs g × ((s : ℕ) → HasStaff g s → Overridden gs g s)

unfoldable pub overrides : Grant → ℕ → Grant → Bool
overrides g s h = outranks h g && holds (staff_of h.bounds) s

abbrev pub overridden : List Grant → Grant → ℕ → Bool
overridden gs g s = any (overrides g s) gs

-- g's staff numbers, ascending
abbrev pub staff_numbers : Grant → List ℕ
staff_numbers g = count_from g.bounds.staff_from (g.bounds.staff_to + 1 - g.bounds.staff_from)

unfoldable pub precedence : List Grant → Grant → Precedence
precedence gs g =
    cond (every (λ s. not (overridden gs g s)) (staff_numbers g)) Whole
    (cond (every (overridden gs g) (staff_numbers g)) None Partial)
