-- What a line of a journal does, slip by slip, from what the calls ensure.
--   replays_grant, replays_revoke, replays_question, replays_nothing
-- Assumes nothing.
use Prim.Native.Nat.{ℕ}
use mathlib.Core.Path.{◌≡◌, refl, ap}
use mathlib.Core.List.{List}
use Rattle.std.proofs.Common.{Option, None, Some, Result}
use Rattle.std.specs.Bool.{⊤}
use Rattle.model.specs.declared.Box.{Box}
use Rattle.model.specs.declared.Fault.{Fault}
use Rattle.model.specs.Call.{request}
use Rattle.model.specs.Answer.{outcome_answer}
use Rattle.slip_session.specs.declared.Slip.{Slip}
use Rattle.slip_session.specs.declared.Slip.TheVariants as slip
use Rattle.calls.specs.Calls.{grant_call, revoke_call, words_step}
use Rattle.calls.specs.Contract.{Leaves}
use Rattle.slip_session.specs.Longest.{slip_of}
use Rattle.slip_session.specs.Meaning.{asks, meaning_of, line_meaning}
use Rattle.slip_session.specs.JournalStep.{made, question, no_slip, journal_step}
use Rattle.slip_session.specs.JournalContract.{Replays}

module _ (w line : List ℕ) where
  pub replays_grant : {number rank kind : ℕ} {bounds : Box} → slip_of line ≡ Some (slip.Grant number rank kind bounds) → {v : List ℕ} (o : Result ⊤ Fault)
      → Leaves (outcome_answer o) v (grant_call w (request number rank kind bounds)) → Replays (made (outcome_answer o)) v (journal_step words_step w line)
  unfolding journal_step line_meaning words_step
  replays_grant e o d = rw e (record { comes = ap made d.answered; left = d.left })

  pub replays_revoke : {number : ℕ} → slip_of line ≡ Some (slip.Revoke number) → {v : List ℕ} (o : Result ⊤ Fault)
      → Leaves (outcome_answer o) v (revoke_call w number) → Replays (made (outcome_answer o)) v (journal_step words_step w line)
  unfolding journal_step line_meaning words_step
  replays_revoke e o d = rw e (record { comes = ap made d.answered; left = d.left })

  pub replays_question : (s : Option Slip) → slip_of line ≡ s → meaning_of s ≡ asks → Replays question w (journal_step words_step w line)
  unfolding journal_step line_meaning
  replays_question s e q = rw (e, q) (record { comes = refl; left = refl })

  pub replays_nothing : slip_of line ≡ None → Replays no_slip w (journal_step words_step w line)
  unfolding journal_step line_meaning
  replays_nothing e = rw e (record { comes = refl; left = refl })
