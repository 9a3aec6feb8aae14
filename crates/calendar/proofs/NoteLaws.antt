-- The base day that is shown (specs/Note).
--   shown_year               a base day that is shown has a year of four digits
-- Assumes nothing.
use Prim.Native.Nat.{◌≤◌}
use mathlib.Core.Path.{◌≡◌, refl}
use mathlib.Core.Bool.{Bool, true, false, cond}
use Rattle.std.proofs.lemmas.Option.{same_Some}
use Rattle.std.proofs.Common.{Option, None, Some}
use native.Mathlib.Omega.{arith}
use borrow.Author.Tests.{leb-true}
use lib.Dec.{leb}
use Rattle.calendar.specs.declared.Date.{Date}
use Rattle.calendar.specs.Calendar.{last_year}
use Rattle.calendar.specs.Note.{shown_base}

pub shown_year : (b : Option Date) {d : Date} → Some d ≡ shown_base b → d.year ≤ last_year
unfolding shown_base
shown_year None e = absurd (grind arith)
shown_year (Some b) {d} e = go (leb b.year last_year) refl e
  where
    go : (t : Bool) → leb b.year last_year ≡ t → Some d ≡ cond t (Some b) None → d.year ≤ last_year
    go true p q = rw (same_Some d b q) (leb-true b.year last_year p)
    go false p q = absurd (grind arith)
