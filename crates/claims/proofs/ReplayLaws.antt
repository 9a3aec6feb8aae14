-- From one line to a journal: the calls of its lines, one after another (specs/JournalStep).
--   replayed-after       the state after a journal is the one after the list of its calls
--   results_responses            where every line is a call, the lines come to the responses to their calls
--   LinesAgree R x y     two lines' steps come to the same, and leave states that R relates
--   line_refines         one line, on machines whose calls agree
--   result_refines         a journal, on such machines
--   calls_in_fit          the numbers of a journal's calls are values of their fields
-- Assumes nothing: that each call keeps R is a parameter.
use Prim.Native.Nat.{ℕ}
use mathlib.Core.Path.{◌≡◌, refl, sym, ap, ap₂, subst, ◌∙◌}
use mathlib.Core.List.Memᴰ
use mathlib.Core.List.{List, [], ◌∷◌, map}
use Rattle.std.proofs.Common.{Option, None, Some}
use Rattle.model.specs.Call.{Call}
use Rattle.model.specs.Values.{CallFits, CallsFit}
use Rattle.model.specs.Refusal.{Step}
use Rattle.model.specs.Histories.{responses, after}
use Rattle.model.proofs.Simulation.{Agrees}
use Rattle.slip_session.specs.declared.Slip.{Slip}
use Rattle.slip_session.specs.declared.Slip.TheVariants as slip
use Rattle.slip_session.specs.Longest.{slip_of}
use Rattle.slip_session.specs.SlipCall.{call_of}
use Rattle.slip_session.proofs.FitLaws.{Fits, line-fits}
use Rattle.slip_session.specs.Meaning.{Meaning, makes, asks, nothing, meaning_of, line_meaning, call_and, calls_in}
use Rattle.slip_session.specs.JournalStep.{LineResult, made, JournalStep, meaning_step, journal_step, line_results, replayed}
use Rattle.claims.specs.JournalClaims.{AllCalls, response_result}

module _ {S : Type 0} (step : S → Call → Step S) where
  after_call : (s : S) (m : Meaning) (calls : List Call) → after step (meaning_step step s m).state calls ≡ after step s (call_and m calls)
  unfolding after
  after_call s (makes call) calls = refl
  after_call s asks calls = refl
  after_call s nothing calls = refl

  pub replayed-after : (s : S) (lines : List (List ℕ)) → replayed step s lines ≡ after step s (calls_in lines)
  unfolding replayed calls_in journal_step after
  replayed-after s [] = refl
  replayed-after s (line ∷ lines) =
      replayed-after (meaning_step step s (line_meaning line)).state lines ∙ after_call s (line_meaning line) (calls_in lines)

  pub results_responses : (s : S) (lines : List (List ℕ)) → AllCalls lines → line_results step s lines ≡ map response_result (responses step s (calls_in lines))
  unfolding line_results calls_in journal_step responses
  results_responses s [] all = refl
  results_responses s (line ∷ lines) all =
      let call = all line (Memᴰ.head refl) in
      rw call.1 (ap (λ (cs : List LineResult). made (step s call.0).answer ∷ cs)
      (results_responses (step s call.0).state lines (λ l m. all l (Memᴰ.tail m))))

-- the meaning has values that fit, where it is a call
abbrev MeaningFits : Meaning → Type 0
MeaningFits (makes call) = CallFits call
MeaningFits asks = Unit {0}
MeaningFits nothing = Unit {0}

meaning_fits : (line : List ℕ) → MeaningFits (line_meaning line)
unfolding line_meaning
meaning_fits line = go (slip_of line) (line-fits [] line)
  where
    go : (s : Option Slip) → Fits (call_of s []) → MeaningFits (meaning_of s)
    go (Some (slip.Grant number rank kind bounds)) f = f
    go (Some (slip.Revoke number)) f = f
    go (Some (slip.List bounds)) f = tt
    go (Some (slip.Decide staff door quarter)) f = tt
    go (Some slip.Count) f = tt
    go None f = tt

fit_call : (m : Meaning) (calls : List Call) → MeaningFits m → CallsFit calls → CallsFit (call_and m calls)
fit_call (makes call) calls f rest d (Memᴰ.head e) = subst CallFits (sym e) f
fit_call (makes call) calls f rest d (Memᴰ.tail m) = rest d m
fit_call asks calls f rest d m = rest d m
fit_call nothing calls f rest d m = rest d m

pub calls_in_fit : (lines : List (List ℕ)) → CallsFit (calls_in lines)
unfolding calls_in
calls_in_fit [] = λ d m. absurd (Memᴰ.not-nil m)
calls_in_fit (line ∷ lines) = fit_call (line_meaning line) (calls_in lines) (meaning_fits line) (calls_in_fit lines)

pub record LinesAgree {W S : Type 0} (R : W → S → Type 0) (x : JournalStep W) (y : JournalStep S) : Type 0 where
  pub result : x.result ≡ y.result
  pub related : R x.state y.state

module _ {W S : Type 0} (concrete : W → Call → Step W) (model : S → Call → Step S) (R : W → S → Type 0)
    (call-refines : (w : W) (s : S) (c : Call) → CallFits c → R w s → Agrees R (concrete w c) (model s c)) where
  pub line_refines : (w : W) (s : S) (line : List ℕ) → R w s → LinesAgree R (journal_step concrete w line) (journal_step model s line)
  unfolding journal_step
  line_refines w s line r = go (line_meaning line) (meaning_fits line)
    where
      go : (m : Meaning) → MeaningFits m → LinesAgree R (meaning_step concrete w m) (meaning_step model s m)
      go (makes call) f =
          let a = call-refines w s call f r in
          record { result = ap response_result a.same; related = a.related }
      go asks f = record { result = refl; related = r }
      go nothing f = record { result = refl; related = r }

  pub result_refines : (w : W) (s : S) (lines : List (List ℕ)) → R w s → line_results concrete w lines ≡ line_results model s lines
  unfolding line_results
  result_refines w s [] r = refl
  result_refines w s (line ∷ lines) r =
      let a = line_refines w s line r in
      let rest = result_refines (journal_step concrete w line).state (journal_step model s line).state lines a.related in
      ap₂ (λ (c : LineResult) (cs : List LineResult). c ∷ cs) a.result rest
