-- On words that stand for a plain book, the panel's answer to `may` is the text of the book's decision.
--   book_decision_lem      the book's decision has bookDecide's answer
--   decision_met       and decide's answer on the words, so that a result with that answer there is
--   shows_decision     its text is the only one that the panel shows
--   attendant_claim    so it is on every made pool (specs/AttendantClaims)
-- Assumes nothing.
use Prim.Native.Nat.{ℕ}
use mathlib.Core.Path.{◌≡◌, refl, sym, ap, ◌∙◌}
use mathlib.Core.List.{List}
use Rattle.std.proofs.Common.{Ok}
use Rattle.model.specs.Answer.{decision_answer}
use Rattle.model.specs.Book.{Book, book_decide}
use Rattle.model.specs.Histories.{Response}
use Rattle.model.proofs.AnswerLaws.{decision_answer_injective}
use Rattle.calls.specs.Calls.{decide_call}
use Rattle.calls.proofs.Represents.{Represents}
use Rattle.calls.proofs.QueryLaws.{decide_refines}
use Rattle.may_answer.specs.MayText.{may_text}
use Rattle.claims.specs.AttendantClaims.{book_decision, ShowsDecision, AttendantClaim}
use Rattle.claims.proofs.MadeLaws.{made_represents}

pub book_decision_lem : (b : Book) (staff door quarter : ℕ)
    → decision_answer (Ok (book_decision b.live staff door quarter)) ≡ (book_decide b staff door quarter).answer
unfolding book_decide
book_decision_lem b staff door quarter = refl

module _ {w : List ℕ} {b : Book} (h : Represents w b) where
  pub decision_met : (staff door quarter : ℕ)
      → decision_answer (Ok (book_decision b.live staff door quarter)) ≡ (decide_call w staff door quarter).answer
  decision_met staff door quarter =
      book_decision_lem b staff door quarter ∙ sym (ap (λ (t : Response). t.answer) (decide_refines h staff door quarter).same)

  pub shows_decision : ShowsDecision w b.live
  shows_decision staff door quarter base r e =
      let same = decision_answer_injective r (Ok (book_decision b.live staff door quarter)) (e ∙ sym (decision_met staff door quarter)) in
      ap (may_text staff door quarter base) same

pub attendant_claim : AttendantClaim
unfolding AttendantClaim
attendant_claim c w gs made = shows_decision (made_represents made)
