-- Document 01's order line ("Faults"): for each call its faults with their causes, in the order in which they answer.
-- What the call's walks found comes as arguments, `broken`, that one of them met a cause of 9, and `hits`, the cells of its search's hits
-- in order: the calls take both from the walks that stop, demand 1 takes them from document 01's links.
-- Changed by cards 8, 12 and 14. Assumes nothing: these are definitions.
use Rattle.std.specs.Prelude.{ℕ, Bool, not, List, [], ◌∷◌, ◌++◌, length}
use Rattle.model.specs.declared.Box.{Box}
use Rattle.model.specs.declared.Fault.TheVariants.{BadPool, Reversed, ZeroNumber, AlreadyLive, Full, NotLive, ListTooShort, BrokenLinks}
use Rattle.model.specs.declared.Fault.TheVariants.{BufferTooShort}
use Rattle.model.specs.Interval.{Interval}
use Rattle.model.specs.Refusal.{Cause, ◌if◌}
use Rattle.model.specs.Arguments.{reversed_box, reversed_doors, zero_number, request_causes}
use Rattle.model.specs.Call.{Request}
use Rattle.pool.specs.Capacity.{wrong_length, wrong_pool}
use Rattle.grants_file.specs.Verdict.{file_causes}
use Rattle.calls.specs.Causes.{number_live, no_free_cell, too_many_grants, list_too_short, length_needed, lent_too_short}

unfoldable pub start_order : List ℕ → List Cause
start_order w = BadPool if wrong_length w ∷ []

unfoldable pub grant_order : List ℕ → Request → Bool → List ℕ → List Cause
grant_order w r broken hits =
    BadPool if wrong_pool w
    ∷ request_causes r
    ++ (BrokenLinks if broken
    ∷ AlreadyLive if number_live hits
    ∷ Full if no_free_cell w
    ∷ [])

unfoldable pub revoke_order : List ℕ → ℕ → Bool → List ℕ → List Cause
revoke_order w n broken hits =
    BadPool if wrong_pool w
    ∷ ZeroNumber if zero_number n
    ∷ BrokenLinks if broken
    ∷ NotLive if not (number_live hits)
    ∷ []

unfoldable pub list_order : List ℕ → Box → List ℕ → Bool → List ℕ → List Cause
list_order w q lent broken hits =
    BadPool if wrong_pool w
    ∷ Reversed if reversed_box q
    ∷ BrokenLinks if broken
    ∷ ListTooShort (length hits) if list_too_short hits lent
    ∷ []

-- decide and count
unfoldable pub look_order : List ℕ → Bool → List Cause
look_order w broken = BadPool if wrong_pool w ∷ BrokenLinks if broken ∷ []

unfoldable pub write_order : List ℕ → Interval → List ℕ → Bool → List ℕ → List Cause
write_order w doors lent broken hits =
    BadPool if wrong_pool w
    ∷ Reversed if reversed_doors doors
    ∷ BrokenLinks if broken
    ∷ BufferTooShort (length_needed hits) if lent_too_short hits lent
    ∷ []

unfoldable pub load_order : List ℕ → List ℕ → List Cause
load_order w f = BadPool if wrong_length w ∷ file_causes f ++ (Full if too_many_grants w f ∷ [])

unfoldable pub match_order : List ℕ → List ℕ → Bool → List Cause
match_order w f broken = BadPool if wrong_pool w ∷ file_causes f ++ (BrokenLinks if broken ∷ [])
