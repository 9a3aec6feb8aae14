-- The comparison of a door record with a panel record (document 02, card 13): how many entries agree, how many are left in the door record, how many
-- in the panel record.
--   compared_answer r          an answer in numbers
--   openings_order door panel  its refusals, in their order: 24 is tested on both records before 25 is
--   compare_call door panel    what the call answers; both records stay as they were
-- Assumes nothing: these are definitions.
use Rattle.std.specs.Prelude.{ℕ, ◌||◌, List, [], ◌∷◌, Result}
use Rattle.multisets.specs.Agreement.{agree, left}
use Rattle.model.specs.declared.Fault.{Fault}
use Rattle.model.specs.declared.Fault.TheVariants.{BadOpeningsLength, UnorderedQuarters}
use Rattle.model.specs.Answer.{Answer, accepted, answer_of}
use Rattle.model.specs.Refusal.{Cause, ◌if◌, Step, refusing}
use Rattle.openings.specs.declared.Comparison.{Comparison}
use Rattle.openings.specs.Entry.{entries_of}
use Rattle.openings.specs.Record.{wrong_size, unordered}

abbrev pub compared_answer : Result Comparison Fault → Answer
compared_answer = answer_of (λ c. c.agreeing ∷ c.left_in_door ∷ c.left_in_panel ∷ [])

unfoldable pub openings_order : List ℕ → List ℕ → List Cause
openings_order door panel =
    BadOpeningsLength if (wrong_size door || wrong_size panel)
    ∷ UnorderedQuarters if (unordered door || unordered panel)
    ∷ []

abbrev pub comparison : List ℕ → List ℕ → List ℕ
comparison xs ys = agree xs ys ∷ left xs ys ∷ left ys xs ∷ []

unfoldable pub compare_call : List ℕ → List ℕ → Step (List ℕ)
compare_call door panel =
    refusing (openings_order door panel) door panel
    (record { state = door; answer = accepted (comparison (entries_of door) (entries_of panel)); lent = panel })
