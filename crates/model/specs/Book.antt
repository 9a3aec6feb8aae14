-- Document 01's plain book: C and the live grants, ascending by number, and what each call does to them.
--   Book, book_of c gs    the state: C, and the live grants
--   empty_book c          the one it starts with
--   book_grant .. book_count   one definition a call: its refusals in document 01's order, then what it gives
--   book_step b c         the step of a call
-- The book never gives 1 or 9. Assumes nothing: these are definitions.
use Rattle.std.specs.Prelude.{ℕ, ◌-◌, Bool, not, List, [], ◌∷◌, ◌++◌, map, ltb, eqb, length, Ok}
use Rattle.lists.specs.Tests.{filter, any}
use Rattle.lists.specs.Overwrite.{overwrite}
use Rattle.lists.specs.Sort.{insert_by}
use Rattle.model.specs.declared.Box.{Box}
use Rattle.model.specs.declared.Grant.{Grant}
use Rattle.model.specs.declared.Choice.{Choice}
use Rattle.model.specs.declared.Fault.TheVariants.{Reversed, ZeroNumber, AlreadyLive, Full, NotLive, ListTooShort}
use Rattle.model.specs.Box.{point_box}
use Rattle.model.specs.Overlap.{overlaps}
use Rattle.model.specs.Relation.{taken}
use Rattle.model.specs.Answer.{accepted, decision_answer}
use Rattle.model.specs.Refusal.{Step, ◌if◌, refusing}
use Rattle.model.specs.Arguments.{reversed_box, zero_number, request_causes}
use Rattle.model.specs.Decide.{decide_among}
use Rattle.model.specs.Call.{Request, requested, Call, grant, revoke, list, decide, count}

pub record Book : Type 0 where
  pub capacity : ℕ
  pub live : List Grant

abbrev pub book_of : ℕ → List Grant → Book
book_of c gs = record { capacity = c; live = gs }

abbrev pub empty_book : ℕ → Book
empty_book c = book_of c []

abbrev pub with_live : Book → List Grant → Book
with_live b gs = record { capacity = b.capacity; live = gs }

abbrev pub is_live : Book → ℕ → Bool
is_live b n = any (λ g. eqb g.number n) b.live

-- the live grants that overlap a box: decide goes by them
abbrev pub overlapping : Box → List Grant → List Grant
overlapping q gs = filter (λ g. overlaps g.bounds q) gs

-- those that list's choice takes for a box; under touching they are the same (model/proofs/RelationLaws `taken-touching`)
abbrev pub taken_for : Box → Choice → List Grant → List Grant
taken_for q choice gs = filter (taken choice q) gs

unfoldable pub book_grant : Book → Request → Step Book
book_grant b r =
    refusing
    (request_causes r
    ++ (AlreadyLive if is_live b r.number
    ∷ Full if eqb (length b.live) b.capacity
    ∷ []))
    b []
    (record { state = with_live b (insert_by (λ g. g.number) (requested r) b.live); answer = accepted []; lent = [] })

unfoldable pub book_revoke : Book → ℕ → Step Book
book_revoke b n =
    refusing
    (ZeroNumber if zero_number n
    ∷ NotLive if not (is_live b n)
    ∷ [])
    b []
    (record { state = with_live b (filter (λ g. not (eqb g.number n)) b.live); answer = accepted []; lent = [] })

unfoldable pub book_list : Book → Box → Choice → List ℕ → Step Book
book_list b q choice lent =
    let numbers = map (λ g. g.number) (taken_for q choice b.live) in
    refusing
    (Reversed if reversed_box q
    ∷ ListTooShort (length numbers) if ltb (length lent) (length numbers)
    ∷ [])
    b lent
    (record { state = b; answer = accepted (length numbers ∷ []); lent = overwrite numbers lent })

unfoldable pub book_decide : Book → ℕ → ℕ → ℕ → Step Book
book_decide b staff door quarter =
    record {
      state = b;
      answer = decision_answer (Ok (decide_among (overlapping (point_box staff door quarter) b.live)));
      lent = [];
    }

unfoldable pub book_count : Book → Step Book
book_count b =
    let live = length b.live in
    record { state = b; answer = accepted (live ∷ (b.capacity - live) ∷ []); lent = [] }

unfoldable pub book_step : Book → Call → Step Book
book_step b (grant r) = book_grant b r
book_step b (revoke n) = book_revoke b n
book_step b (list q choice lent) = book_list b q choice lent
book_step b (decide staff door quarter) = book_decide b staff door quarter
book_step b count = book_count b
