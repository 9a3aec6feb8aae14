-- The test of every element, of lists that are put together.
--   every_append, every_flat_map
-- Assumes nothing.
use mathlib.Core.Path.{◌≡◌, refl}
use mathlib.Core.Bool.{Bool, true, and-eq-true_iff}
use mathlib.Core.List.{List, [], ◌∷◌, ◌++◌, flat_map}
use Rattle.lists.specs.Tests.{every}

module _ {A : Type 0} (t : A → Bool) where
  pub every_append : (xs ys : List A) → every t xs ≡ true → every t ys ≡ true → every t (xs ++ ys) ≡ true
  unfolding every
  every_append [] ys a b = b
  every_append (x ∷ xs) ys a b =
      let both = (and-eq-true_iff (t x) (every t xs)).0 a in
      rw both.0 (every_append xs ys both.1 b)

  pub every_flat_map : {B : Type 0} (f : B → List A) (xs : List B) → ((x : B) → every t (f x) ≡ true) → every t (flat_map f xs) ≡ true
  unfolding every flat_map
  every_flat_map f [] h = refl
  every_flat_map f (x ∷ xs) h = every_append (f x) (flat_map f xs) (h x) (every_flat_map f xs h)
