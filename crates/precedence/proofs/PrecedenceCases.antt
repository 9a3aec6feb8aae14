-- Standings computed: a grant of rank 10 for staff 100 to 199, beside others.
--   precedence_cases
-- Assumes nothing.
use Prim.Native.Nat.{ℕ}
use mathlib.Core.Path.{◌≡◌, refl}
use mathlib.Core.List.{List, [], ◌∷◌}
use Rattle.lists.specs.Tests.{any, every}
use Rattle.lists.specs.Ranges.{count_from}
use Rattle.model.specs.declared.Kind.TheVariants.{Bars}
use Rattle.model.specs.declared.Grant.{Grant}
use Rattle.model.specs.Decide.{outranks}
use Rattle.precedence.specs.declared.Precedence.{Precedence}
use Rattle.precedence.specs.declared.Precedence.TheVariants.{Whole, Partial, None}
use Rattle.precedence.specs.Precedence.{overrides, precedence}

-- a grant by number, rank and staff
abbrev grant_for : ℕ → ℕ → ℕ → ℕ → Grant
grant_for n r from to =
    record {
      number = n;
      rank = r;
      kind = Bars;
      bounds =
          record {
            staff_from = from;
            staff_to = to;
            door_from = 12;
            door_to = 12;
            quarter_from = 40;
            quarter_to = 40;
          };
    }

abbrev night : Grant
night = grant_for 7 10 100 199

-- how the night grant stands beside others, itself among them
abbrev Beside : List Grant → Precedence → Type 0
Beside gs x = precedence (night ∷ gs) night ≡ x

-- alone; one staff number; all of them; two that meet; two with one number between them; beside its staff; a lower rank; an equal rank with a
-- lower number, and with a higher one
pub precedence_cases : Beside [] Whole
    × Beside (grant_for 3 20 150 150 ∷ []) Partial
    × Beside (grant_for 3 20 0 65535 ∷ []) None
    × Beside (grant_for 3 20 151 300 ∷ grant_for 4 30 0 150 ∷ []) None
    × Beside (grant_for 3 20 152 300 ∷ grant_for 4 30 0 150 ∷ []) Partial
    × Beside (grant_for 3 20 200 300 ∷ grant_for 4 30 0 99 ∷ []) Whole
    × Beside (grant_for 3 9 0 65535 ∷ []) Whole
    × Beside (grant_for 6 10 0 65535 ∷ []) Whole
    × Beside (grant_for 8 10 0 65535 ∷ []) None
unfolding precedence overrides outranks any every count_from
precedence_cases = (refl, refl, refl, refl, refl, refl, refl, refl, refl)
