-- How often a number stands in a list.
--   count x xs         its multiplicity
--   without x xs       the other numbers, in their order
--   distinct xs        each number of the list once
-- Assumes nothing: these are definitions.
use Rattle.std.specs.Prelude.{ℕ, not, List, [], ◌∷◌, eqb, length}
use Rattle.lists.specs.Tests.{filter}

abbrev pub count : ℕ → List ℕ → ℕ
count x xs = length (filter (eqb x) xs)

abbrev pub without : ℕ → List ℕ → List ℕ
without x xs = filter (λ y. not (eqb x y)) xs

unfoldable pub distinct : List ℕ → List ℕ
distinct [] = []
distinct (x ∷ xs) = x ∷ without x (distinct xs)
