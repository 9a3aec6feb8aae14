-- The definitions of specs/ on a few small lists, computed.
--   count_cases     count, without and distinct of 3, 5, 3, 7
--   agree_cases     two lists that share some numbers, the empty list, and one number four times against twice
--   place_cases     the last of a kind are left, ascending
-- Assumes nothing.
use Prim.Native.Nat.{ℕ}
use mathlib.Core.Path.{◌≡◌, refl}
use mathlib.Core.List.{List, [], ◌∷◌}
use Rattle.lists.specs.Tests.{filter}
use Rattle.lists.specs.Ranges.{count_from}
use Rattle.lists.specs.Total.{total}
use Rattle.multisets.specs.Multiplicity.{count, without, distinct}
use Rattle.multisets.specs.Agreement.{agree, left, is_left, left_places}

abbrev here : List ℕ
here = 3 ∷ 5 ∷ 3 ∷ 7 ∷ []

abbrev there : List ℕ
there = 3 ∷ 3 ∷ 3 ∷ 5 ∷ []

abbrev four : List ℕ
four = 6 ∷ 6 ∷ 6 ∷ 6 ∷ []

abbrev two : List ℕ
two = 6 ∷ 6 ∷ []

pub count_cases : (count 3 here ≡ 2) × (count 4 here ≡ 0) × (without 3 here ≡ 5 ∷ 7 ∷ []) × (distinct here ≡ 3 ∷ 5 ∷ 7 ∷ [])
unfolding filter distinct
count_cases = (refl, refl, refl, refl)

pub agree_cases : (agree here there ≡ 3)
    × (agree there here ≡ 3)
    × (left here there ≡ 1)
    × (left there here ≡ 1)
    × (agree [] there ≡ 0)
    × (left here [] ≡ 4)
    × (agree four two ≡ 2)
    × (left four two ≡ 2)
    × (left two four ≡ 0)
unfolding filter distinct total agree left
agree_cases = (refl, refl, refl, refl, refl, refl, refl, refl, refl)

pub place_cases : (left_places here there ≡ 3 ∷ [])
    × (left_places there here ≡ 2 ∷ [])
    -- the first 3 agrees; both others are left, and 5 and 7, which are not there at all
    × (left_places (3 ∷ 5 ∷ 3 ∷ 7 ∷ 3 ∷ []) (3 ∷ 9 ∷ []) ≡ 1 ∷ 2 ∷ 3 ∷ 4 ∷ [])
    × (left_places here [] ≡ 0 ∷ 1 ∷ 2 ∷ 3 ∷ [])
    × (left_places four two ≡ 2 ∷ 3 ∷ [])
    × (left_places two four ≡ [])
unfolding filter count_from is_left left_places
place_cases = (refl, refl, refl, refl, refl, refl)
