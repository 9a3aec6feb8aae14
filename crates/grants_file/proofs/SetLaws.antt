-- Laws of the sets that files stand for, specs/FileSets.
--   ascending-above, ascending_rises    the numbers of a set that ascends are above the last before it, and rise
--   rises_ascending                     numbers that rise, all above the last, ascend
--   equal-same, alone-differs           equal lists have the same grants; where a grant is in one alone, they don't
--   set_rises, set-sorted               the numbers of a file's set rise; it is its own sort
--   set-touching                        each of its grants touches the doors
-- Assumes nothing.
use Prim.Native.Nat.{ℕ, ◌<◌}
use mathlib.Core.Logic.{inl, inr}
use mathlib.Core.Path.{◌≡◌, refl, sym, subst}
use mathlib.Core.List.{List, Memᴰ}
use native.Mathlib.Omega.{arith}
use Rattle.lists.specs.Tests.{filter}
use Rattle.lists.specs.Sort.{sort_by}
use Rattle.lists.proofs.TestLaws.{filter_all}
use Rattle.lists.proofs.SortLaws.{Rises, rises_none, rises_more, rises_ascends, ascends_sort_by}
use Rattle.model.specs.declared.Grant.{Grant}
use Rattle.model.specs.declared.Interval.{Interval}
use Rattle.model.specs.Grant.{touches}
use Rattle.grants_file.specs.FileSets.{Ascending, ascending-none, ascending_more, FileSet, SameGrants, InOneAlone}

pub ascending-above : {last : ℕ} {gs : List Grant} → Ascending last gs → (g : Grant) → Memᴰ g gs → last < g.number
ascending-above (ascending-none {last = last}) g x4 = elim x4 [ ]
ascending-above {last} (ascending_more h a) g (Memᴰ.head e) = subst (λ (x : Grant). last < x.number) (sym e) h
ascending-above (ascending_more h a) g (Memᴰ.tail m) = omega (arith, ascending-above a g m)

pub ascending_rises : {last : ℕ} {gs : List Grant} → Ascending last gs → Rises (λ g. g.number) gs
ascending_rises ascending-none = rises_none
ascending_rises (ascending_more {g = g} {gs = gs} h a) = rises_more {x = g} {xs = gs} (ascending-above a) (ascending_rises a)

pub rises_ascending : (last : ℕ) {gs : List Grant} → Rises (λ g. g.number) gs → ((g : Grant) → Memᴰ g gs → last < g.number) → Ascending last gs
rises_ascending last rises_none above = ascending-none
rises_ascending last (rises_more {x = g} {xs = gs} f r) above = ascending_more {g = g} (above g (Memᴰ.head refl)) (rises_ascending g.number r f)

pub equal-same : {gs hs : List Grant} → gs ≡ hs → SameGrants gs hs
equal-same e g = (λ m. subst (Memᴰ g) e m, λ m. subst (Memᴰ g) (sym e) m)

pub alone-differs : {g : Grant} {gs hs : List Grant} → InOneAlone g gs hs → SameGrants gs hs → ⊥
alone-differs {g} (inl a) same = a.1 ((same g).0 a.0)
alone-differs {g} (inr a) same = a.1 ((same g).1 a.0)

module _ {doors : Interval} {gs : List Grant} (s : FileSet doors gs) where
  pub set_rises : Rises (λ g. g.number) gs
  set_rises = ascending_rises s.ascending

  pub set-sorted : sort_by (λ g. g.number) gs ≡ gs
  set-sorted = ascends_sort_by (λ g. g.number) (rises_ascends (λ g. g.number) set_rises)

  pub set-touching : filter (touches doors) gs ≡ gs
  set-touching = filter_all (touches doors) gs (λ g m. (s.each g m).touching)
