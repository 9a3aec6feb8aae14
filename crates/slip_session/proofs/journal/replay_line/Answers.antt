-- `replay_line` meets its contract: the call that the line stands for, or none. Assumes nothing.
use mathlib.Core.Path.{refl, sym, ap, ◌∙◌}
use Rattle.std.proofs.Common.{Some}
use Rattle.slip_session.proofs.JournalLineLaws.{replays_grant, replays_revoke, replays_question, replays_nothing}
use Rattle.slip_session.proofs.journal.replay_line.Goals as goal

pub returns-in-Grant : goal.returns-in-Grant
returns-in-Grant c = replays_grant _ _ (sym c.in-Some.ensures ∙ ap Some c.in-Grant.is) c.grant.result c.grant.ensures

pub returns-in-Revoke : goal.returns-in-Revoke
returns-in-Revoke c = replays_revoke _ _ (sym c.in-Some.ensures ∙ ap Some c.in-Revoke.is) c.revoke.result c.revoke.ensures

pub returns-in-List : goal.returns-in-List
returns-in-List c = replays_question _ _ _ (sym c.in-Some.ensures ∙ ap Some c.in-List.is) refl

pub returns-in-Decide : goal.returns-in-Decide
returns-in-Decide c = replays_question _ _ _ (sym c.in-Some.ensures ∙ ap Some c.in-Decide.is) refl

pub returns-in-Count : goal.returns-in-Count
returns-in-Count c = replays_question _ _ _ (sym c.in-Some.ensures ∙ ap Some c.in-Count.is) refl

pub returns-in_default : goal.returns-in_default
returns-in_default c = replays_nothing _ _ (sym c.in_default.ensures)
