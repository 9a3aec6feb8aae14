-- What a file gives to one who asks, as the code finds it.
--   taken, taken-front                           a file in which nothing is wrong is accepted, and has a block
--   ok_some                                      a verdict of which only the yes or no is kept
--   numbered_here, numbered_next, numbered-end   the grants left, one at a time
-- Assumes nothing.
use Prim.Native.Nat.{ℕ, ◌+◌, ◌≤◌, ◌<◌}
use mathlib.Core.Path.{◌≡◌, refl, sym, ◌∙◌}
use mathlib.Core.List.{List, ◌∷◌}
use Rattle.std.specs.Bool.{⊤}
use Rattle.std.specs.Result.{result_ok}
use Rattle.std.proofs.Common.{None, Some, Result, Ok, Err}
use Rattle.std.proofs.lemmas.Option.{none-some}
use native.Mathlib.Omega.{arith}
use lib.ListN.{drop, drop_of_length-le}
use borrow.Author.Tests.{eq-eqb, ne_eqb}
use Rattle.model.specs.declared.Grant.{Grant}
use Rattle.grants_file.specs.declared.Defect.{Defect}
use Rattle.grants_file.specs.File.{blocks_in, total_in, grants_in}
use Rattle.grants_file.specs.Defects.{defect_in}
use Rattle.grants_file.specs.FileSets.{Accepted}
use Rattle.file_contents.specs.Contents.{numbered_of}
use Rattle.grants_file.proofs.FileLaws.{length-grants_in}
use Rattle.grants_file.proofs.DefectLaws.{sound_accepted}
use Rattle.grants_file.proofs.GrantSteps.{accepted-whole}

module _ (f : List ℕ) {r : Result ⊤ Defect} (told : r ≡ defect_in f) where
  pub taken : r ≡ Ok tt → Accepted f
  taken e = sound_accepted f (sym e ∙ told)

  pub taken-front : r ≡ Ok tt → 0 < blocks_in f
  taken-front e = (accepted-whole f (taken e)).some

-- a verdict of which only the yes or no is kept
pub ok_some : {r : Result ⊤ Defect} {x : ⊤} → result_ok r ≡ Some x → r ≡ Ok tt
ok_some {r = Ok y} e = refl
ok_some {r = Err y} e = absurd (none-some _ e)

module _ (f : List ℕ) (n i : ℕ) where
  module _ {g : Grant} (here : drop i (grants_in f) ≡ g ∷ drop (i + 1) (grants_in f)) where
    pub numbered_here : g.number ≡ n → Some g ≡ numbered_of (drop i (grants_in f)) n
    unfolding numbered_of
    numbered_here e = rw (here, eq-eqb g.number n e)

    pub numbered_next : (g.number ≡ n → ⊥) → numbered_of (drop (i + 1) (grants_in f)) n ≡ numbered_of (drop i (grants_in f)) n
    unfolding numbered_of
    numbered_next e = rw (here, ne_eqb g.number n e)

  pub numbered-end : total_in f ≤ i → None ≡ numbered_of (drop i (grants_in f)) n
  unfolding numbered_of
  numbered-end h = rw (drop_of_length-le (grants_in f) {i = i} (omega (arith, length-grants_in f)))
