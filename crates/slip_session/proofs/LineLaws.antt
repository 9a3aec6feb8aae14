-- What a line does, slip by slip, from what the calls and the printing ensure.
--   prints_bad, prints_grant, prints_revoke, prints_list, prints_decide, prints_count
-- Assumes nothing.
use Prim.Native.Nat.{ℕ}
use mathlib.Core.Path.{◌≡◌, refl, sym, ap, ◌∙◌}
use mathlib.Core.List.{List, []}
use Rattle.std.proofs.Common.{None, Some, Result, Ok, Err}
use Rattle.std.specs.Bool.{⊤}
use lib.ListN.{take}
use lib.Seq.{take-take}
use Rattle.model.specs.declared.Box.{Box}
use Rattle.model.specs.declared.Choice.{Choice}
use Rattle.model.specs.declared.Choice.TheVariants.{Touching}
use Rattle.model.specs.declared.Cells.{Cells}
use Rattle.model.specs.declared.Decision.{Decision}
use Rattle.model.specs.declared.Fault.{Fault}
use Rattle.model.specs.Limits.{max_grants}
use Rattle.model.specs.Call.{Call, request, grant, revoke, list, decide, count}
use Rattle.model.specs.Answer.{Answer, outcome_answer, listed_answer, decision_answer, counted_answer}
use Rattle.model.proofs.JudgedLaws.{refusing-keeps-state}
use Rattle.slip_session.specs.declared.Slip.TheVariants as slip
use Rattle.slip_session.specs.Text.{outcome_text, listed_text, decision_text, counted_text, bad_text}
use Rattle.calls.specs.Calls.{grant_call, revoke_call, list_call, decide_call, count_call, words_step}
use Rattle.calls.specs.Contract.{Leaves, Lends}
use Rattle.slip_session.specs.Longest.{slip_of}
use Rattle.slip_session.specs.AnswerText.{answer_text}
use Rattle.slip_session.specs.LineStep.{line_step}
use Rattle.slip_session.specs.Contract.{Prints}
use Rattle.slip_session.proofs.AnswerTextLaws.{granted_text, revoked_text, listed_text_lem, decided_text_lem, counted_text_lem}
use Rattle.slip_session.proofs.ListedLaws.{list-few}

-- what is printed for a call's answer is the text of the answer that the call's definition gives
text_as : (call : Call) (lent : List ℕ) {text own : List ℕ} {a b : Answer} → text ≡ own → own ≡ answer_text call a lent → a ≡ b
    → text ≡ answer_text call b lent
text_as call lent t o e = t ∙ o ∙ ap (λ (x : Answer). answer_text call x lent) e

-- a list is never longer than what a line has room for
listed_whole : (w : List ℕ) (q : Box) (choice : Choice) (before lent : List ℕ) (a : Result ℕ Fault)
    → listed_answer a ≡ (list_call w q choice before).answer → listed_text a (take max_grants lent) ≡ listed_text a lent
listed_whole w q choice before lent (Ok n) e = rw (take-take n max_grants lent (list-few w q choice before n (sym e)))
listed_whole w q choice before lent (Err f) e = refl

module _ (w lent line : List ℕ) {text : List ℕ} where
  pub prints_bad : slip_of line ≡ None → text ≡ bad_text → Prints w lent text (line_step words_step w lent line)
  unfolding line_step
  prints_bad e t = rw e (record { left = refl; lends = refl; printed = t })

  pub prints_grant : {number rank kind : ℕ} {bounds : Box} → slip_of line ≡ Some (slip.Grant number rank kind bounds) → {v : List ℕ} (o : Result ⊤ Fault)
      → Leaves (outcome_answer o) v (grant_call w (request number rank kind bounds)) → text ≡ outcome_text o
      → Prints v lent text (line_step words_step w lent line)
  unfolding line_step words_step
  prints_grant {number} {rank} {kind} {bounds} e o d t =
      let r = request number rank kind bounds in
      rw e (record { left = d.left; lends = refl; printed = text_as (grant r) lent t (granted_text lent r o) d.answered })

  pub prints_revoke : {number : ℕ} → slip_of line ≡ Some (slip.Revoke number) → {v : List ℕ} (o : Result ⊤ Fault)
      → Leaves (outcome_answer o) v (revoke_call w number) → text ≡ outcome_text o → Prints v lent text (line_step words_step w lent line)
  unfolding line_step words_step
  prints_revoke {number} e o d t =
      rw e (record { left = d.left; lends = refl; printed = text_as (revoke number) lent t (revoked_text lent number o) d.answered })

  pub prints_list : {bounds : Box} → slip_of line ≡ Some (slip.List bounds) → {after : List ℕ} (a : Result ℕ Fault)
      → Lends (listed_answer a) after (list_call w bounds Touching lent) → text ≡ listed_text a (take max_grants after)
      → Prints w after text (line_step words_step w lent line)
  unfolding line_step words_step list_call
  prints_list {bounds} e {after} a d t =
      let whole = t ∙ listed_whole w bounds Touching lent after a d.answered in
      let printed = text_as (list bounds Touching lent) after whole (listed_text_lem after bounds Touching lent a) d.answered in
      rw e (record {
        left = sym (refusing-keeps-state _ w lent _ refl);
        lends = d.left;
        printed = printed ∙ ap (λ (l : List ℕ). answer_text (list bounds Touching lent) (list_call w bounds Touching lent).answer l) d.left;
      })

  pub prints_decide : {staff door quarter : ℕ} → slip_of line ≡ Some (slip.Decide staff door quarter) → (a : Result Decision Fault)
      → decision_answer a ≡ (decide_call w staff door quarter).answer → text ≡ decision_text a → Prints w lent text (line_step words_step w lent line)
  unfolding line_step words_step decide_call
  prints_decide {staff} {door} {quarter} e a d t =
      rw e (record {
        left = sym (refusing-keeps-state _ w [] _ refl);
        lends = refl;
        printed = text_as (decide staff door quarter) lent t (decided_text_lem lent staff door quarter a) d;
      })

  pub prints_count : slip_of line ≡ Some slip.Count → (a : Result Cells Fault) → counted_answer a ≡ (count_call w).answer → text ≡ counted_text a
      → Prints w lent text (line_step words_step w lent line)
  unfolding line_step words_step count_call
  prints_count e a d t =
      rw e (record {
        left = sym (refusing-keeps-state _ w [] _ refl);
        lends = refl;
        printed = text_as count lent t (counted_text_lem lent a) d;
      })
