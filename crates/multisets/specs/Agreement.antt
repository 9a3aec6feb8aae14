-- What two lists have in common, and what is left of each (document 02, card 13): where both have a number, it agrees as often as the list has it
-- that has it less often.
--   agree xs ys         how many agree
--   left xs ys          how many are left in xs
--   is_left xs ys i      whether the number at place i of xs is left: before it stand as many of its kind as ys has, so of a the last a - b are left
--   left_places xs ys    the places of xs at which numbers are left, ascending
-- Assumes nothing: these are definitions.
use Rattle.std.specs.Prelude.{ℕ, ◌-◌, min, Bool, List, map, leb, length, get_or, take}
use Rattle.lists.specs.Tests.{filter}
use Rattle.lists.specs.Ranges.{count_from}
use Rattle.lists.specs.Total.{total}
use Rattle.multisets.specs.Multiplicity.{count, distinct}

unfoldable pub agree : List ℕ → List ℕ → ℕ
agree xs ys = total (map (λ x. min (count x xs) (count x ys)) (distinct xs))

unfoldable pub left : List ℕ → List ℕ → ℕ
left xs ys = total (map (λ x. count x xs - count x ys) (distinct xs))

unfoldable pub is_left : List ℕ → List ℕ → ℕ → Bool
is_left xs ys i = let x = get_or xs i 0 in leb (count x ys) (count x (take i xs))

unfoldable pub left_places : List ℕ → List ℕ → List ℕ
left_places xs ys = filter (is_left xs ys) (count_from 0 (length xs))
