-- From one call to a list of lines: machines whose calls agree print the same for every list of lines (specs/LineStep).
--   LinesAgree R x y     two lines' steps print the same, leave the same lent list, and states that R relates
--   line_refines         one line
--   session_refines      a list of lines
-- Assumes nothing: that each call keeps R is a parameter.
use Prim.Native.Nat.{ℕ}
use mathlib.Core.Path.{◌≡◌, refl, ap, ap₂, ◌∙◌}
use mathlib.Core.List.{List, [], ◌∷◌, ◌++◌}
use Rattle.std.proofs.Common.{Option, None, Some}
use Rattle.model.specs.Call.{Call}
use Rattle.model.specs.Values.{CallFits}
use Rattle.model.specs.Refusal.{Step}
use Rattle.model.specs.Histories.{Response}
use Rattle.model.proofs.Simulation.{Agrees}
use Rattle.slip_session.specs.Longest.{slip_of}
use Rattle.slip_session.specs.SlipCall.{call_of}
use Rattle.slip_session.specs.AnswerText.{answer_text}
use Rattle.slip_session.specs.LineStep.{LineStep, lent_after, call_step, line_step, session_text}
use Rattle.slip_session.proofs.FitLaws.{Fits, line-fits}

pub record LinesAgree {W S : Type 0} (R : W → S → Type 0) (x : LineStep W) (y : LineStep S) : Type 0 where
  pub text : x.text ≡ y.text
  pub lent : x.lent ≡ y.lent
  pub related : R x.state y.state

module _ {W S : Type 0} (concrete : W → Call → Step W) (model : S → Call → Step S) (R : W → S → Type 0)
    (call-refines : (w : W) (s : S) (c : Call) → CallFits c → R w s → Agrees R (concrete w c) (model s c)) where
  pub line_refines : (w : W) (s : S) (lent line : List ℕ) → R w s → LinesAgree R (line_step concrete w lent line) (line_step model s lent line)
  unfolding line_step
  line_refines w s lent line r = go (call_of (slip_of line) lent) (line-fits lent line)
    where
      go : (o : Option Call) → Fits o → LinesAgree R (call_step concrete w lent o) (call_step model s lent o)
      go None fits = record { text = refl; lent = refl; related = r }
      go (Some c) fits =
          let a = call-refines w s c fits r in
          record {
            text = ap (λ (t : Response). answer_text c t.answer (lent_after c lent t.lent)) a.same;
            lent = ap (λ (t : Response). lent_after c lent t.lent) a.same;
            related = a.related;
          }

  pub session_refines : (w : W) (s : S) (lent : List ℕ) (lines : List (List ℕ)) → R w s
      → session_text concrete w lent lines ≡ session_text model s lent lines
  unfolding session_text
  session_refines w s lent [] r = refl
  session_refines w s lent (line ∷ lines) r =
      let x = line_step concrete w lent line in
      let y = line_step model s lent line in
      let a = line_refines w s lent line r in
      let rest = session_refines x.state y.state y.lent lines a.related in
      let same = ap (λ (l : List ℕ). session_text concrete x.state l lines) a.lent in
      ap₂ (λ (t u : List ℕ). t ++ u) a.text (same ∙ rest)
