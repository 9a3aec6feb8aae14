-- `answer` meets its contract: the call that the line stands for, and its answer as text. Assumes nothing.
use mathlib.Core.Path.{sym, ap, ◌∙◌}
use Rattle.std.proofs.Common.{Some}
use Rattle.slip_session.proofs.LineLaws.{prints_bad, prints_grant, prints_revoke, prints_list, prints_decide, prints_count}
use Rattle.slip_session.proofs.answer.Goals as goal

pub returns-in-Grant : goal.returns-in-Grant
returns-in-Grant c =
    prints_grant _ _ _ (sym c.in-Some.ensures ∙ ap Some c.in-Grant.is) c.grant.result c.grant.ensures c.print_outcome.ensures

pub returns-in-Revoke : goal.returns-in-Revoke
returns-in-Revoke c =
    prints_revoke _ _ _ (sym c.in-Some.ensures ∙ ap Some c.in-Revoke.is) c.revoke.result c.revoke.ensures c.print_outcome-in-Revoke.ensures

pub returns-in-List : goal.returns-in-List
returns-in-List c =
    prints_list _ _ _ (sym c.in-Some.ensures ∙ ap Some c.in-List.is) c.list-listed.result c.list-listed.ensures c.print_listed.ensures

pub returns-in-Decide : goal.returns-in-Decide
returns-in-Decide c =
    prints_decide _ _ _ (sym c.in-Some.ensures ∙ ap Some c.in-Decide.is) c.decide.result c.decide.ensures c.print_decision.ensures

pub returns-in-Count : goal.returns-in-Count
returns-in-Count c =
    prints_count _ _ _ (sym c.in-Some.ensures ∙ ap Some c.in-Count.is) c.count.result c.count.ensures c.print_counted.ensures

pub returns-in_default : goal.returns-in_default
returns-in_default c =
    prints_bad _ _ _ (sym c.in_default.ensures) c.print_bad.ensures
