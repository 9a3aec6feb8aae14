-- The test that two grants are equal in all their values, specs/Grant.
--   same_grant_iff     it passes exactly if they are one grant
--   eq-same_grant      it is the derived `==` of grants
-- Assumes nothing.
use mathlib.Core.Logic.{◌↔◌}
use mathlib.Core.Path.{◌≡◌, refl, subst}
use mathlib.Core.Bool.{true, and-true}
use lib.Dec.{eqb}
use Rattle.lists.specs.Tests.{same_numbers}
use Rattle.lists.proofs.ListLaws.{same_numbers_true, same_numbers_same}
use Rattle.model.specs.declared.Kind.{Kind}
use Rattle.model.specs.declared.Kind.TheVariants.{Bars, Opens}
use Rattle.model.specs.declared.Grant.{Grant}
use Rattle.model.specs.contracts.KindPartialEq.TheImpl as kind
use Rattle.model.specs.contracts.GrantPartialEq.TheImpl as grant
use Rattle.model.specs.Kind.{kind_number}
use Rattle.model.specs.Grant.{grant_values, same_grant}
use Rattle.model.proofs.AnswerLaws.{grant_values_injective}

pub same_grant_iff : (g h : Grant) → (same_grant g h ≡ true) ↔ (g ≡ h)
unfolding same_grant
same_grant_iff g h = (
  (λ e. grant_values_injective g h (same_numbers_true (grant_values g) (grant_values h) e)),
  (λ e. subst (λ (x : Grant). same_grant g x ≡ true) e (same_numbers_same (grant_values g))),
)

eq-kind_number : (k l : Kind) → kind.ghosts.eq k l ≡ eqb (kind_number k) (kind_number l)
eq-kind_number Bars Bars = refl
eq-kind_number Bars Opens = refl
eq-kind_number Opens Bars = refl
eq-kind_number Opens Opens = refl

pub eq-same_grant : (g h : Grant) → grant.ghosts.eq g h ≡ same_grant g h
unfolding same_grant same_numbers
eq-same_grant g h = rw (eq-kind_number g.kind h.kind, and-true (eqb g.bounds.quarter_to h.bounds.quarter_to)) refl
