use mathlib.Core.Path.{◌≡◌, refl, sym, ◌∙◌}
use native.Mathlib.Omega.{arith}
use Rattle.calendar.specs.Calendar.{date_after}
use Rattle.calendar.proofs.CalendarLaws.{after_snoc, after_year}
use Rattle.question.proofs.QuarterLaws.{same_date_tests, days_found, days_on, days_none}
use Rattle.question.proofs.quarters.days_since.Goals as goal

pub returns-then-eq : goal.returns-then-eq
returns-then-eq c =
    let l = c.loop-n in
    let same = same_date_tests l.date c.args.day ∙ sym c.if-eq.ensures in
    (days_found c.args.base c.args.day 683 l.n c.loop-n-test.true l.invariant.0 same ∙ l.invariant.1, omega arith)

pub next_day-date-requires : goal.next_day-date-requires
next_day-date-requires c =
    let l = c.loop-n in
    let year = after_year c.args.base l.n in
    omega (arith, rw (← l.invariant.0) at year, c.requires, c.loop-n-test.true)

pub loop-n-init : goal.loop-n-init
unfolding date_after
loop-n-init c = (refl, refl)

pub loop-n-preserved : goal.loop-n-preserved
loop-n-preserved c =
    let l = c.loop-n in
    let same = same_date_tests l.date c.args.day ∙ sym c.if-eq.ensures in (
      rw (after_snoc c.args.base l.n, ← l.invariant.0) c.next_day-date.ensures,
      days_on c.args.base c.args.day 683 l.n c.loop-n-test.true l.invariant.0 same ∙ l.invariant.1,
    )

pub returns : goal.returns
returns c =
    let l = c.loop-n in
    let end : l.n ≡ 683 = omega arith in
    (sym end ∙ days_none c.args.base c.args.day 683 l.n (omega arith) ∙ l.invariant.1, omega arith)
