-- Laws of the bytes before a newline.
--   before_other, any_other      of a byte that is no newline
--   before_newline_lem, any-newline  of a newline
--   newline-after                where there is a newline, it stands behind the bytes before it
-- Assumes nothing.
use Prim.Native.Nat.{ℕ, ◌<◌}
use mathlib.Core.Path.{◌≡◌}
use mathlib.Core.Bool.{Bool, true, false, cond, ◌||◌}
use mathlib.Core.List.{List, [], ◌∷◌}
use native.Mathlib.Omega.{arith}
use lib.ListN.{length}
use Rattle.lists.specs.Tests.{any}
use Rattle.console.specs.Newline.{is_newline, before_newline}

module _ (b : ℕ) (bs : List ℕ) where
  pub before_other : is_newline b ≡ false → before_newline (b ∷ bs) ≡ b ∷ before_newline bs
  unfolding before_newline
  before_other e = rw e

  pub any_other : is_newline b ≡ false → any is_newline (b ∷ bs) ≡ any is_newline bs
  unfolding any
  any_other e = rw e

  pub before_newline_lem : is_newline b ≡ true → before_newline (b ∷ bs) ≡ []
  unfolding before_newline
  before_newline_lem e = rw e

  pub any-newline : is_newline b ≡ true → any is_newline (b ∷ bs) ≡ true
  unfolding any
  any-newline e = rw e

pub newline-after : (bs : List ℕ) → any is_newline bs ≡ true → length (before_newline bs) < length bs
unfolding any before_newline
newline-after [] e = let z : ◌≡◌ {A = ℕ} 0 1 = cc in omega arith
newline-after (b ∷ bs) e = go (is_newline b) (newline-after bs) e
  where
    go : (t : Bool) → (any is_newline bs ≡ true → length (before_newline bs) < length bs) → (t || any is_newline bs) ≡ true
        → length (cond t [] (b ∷ before_newline bs)) < length (b ∷ bs)
    go true rest e = omega arith
    go false rest e = omega (arith, rest e)
