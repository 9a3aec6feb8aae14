-- What a file gives to one who asks for a part of it (document 01, "The grants file"): its doors, and a grant by its number.
--   if_sound f x y       x where nothing is wrong in the file, else y
--   doors_given f        an accepted file's doors; a refused one has none
--   has_door f d         the door d is one of those
--   numbered_of gs n     the first of the grants with this number
--   numbered_in f n      the grant of an accepted file with it; a refused one has none
-- Of other doors a file holds only those grants that touch its own too, so that no question about them may be answered from it.
-- Assumes nothing: these are definitions.
use Rattle.std.specs.Prelude.{ℕ, Bool, false, cond, List, [], ◌∷◌, eqb, Option, None, Some, is_ok}
use Rattle.model.specs.declared.Grant.{Grant}
use Rattle.model.specs.declared.Interval.{Interval}
use Rattle.model.specs.Interval.{holds}
use Rattle.grants_file.specs.File.{doors_in, grants_in}
use Rattle.grants_file.specs.Defects.{defect_in}

abbrev pub if_sound : {A : Type 0} → List ℕ → A → A → A
if_sound f x y = cond (is_ok (defect_in f)) x y

abbrev pub doors_given : List ℕ → Option Interval
doors_given f = if_sound f (Some (doors_in f)) None

abbrev pub has_door : List ℕ → ℕ → Bool
has_door f d = if_sound f (holds (doors_in f) d) false

unfoldable pub numbered_of : List Grant → ℕ → Option Grant
numbered_of [] n = None
numbered_of (g ∷ gs) n = cond (eqb g.number n) (Some g) (numbered_of gs n)

abbrev pub numbered_in : List ℕ → ℕ → Option Grant
numbered_in f n = if_sound f (numbered_of (grants_in f) n) None
