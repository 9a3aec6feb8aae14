-- What start, grant, revoke, list, decide and count answer and leave, on any words (document 01, "Faults" and "The tree").
-- Each is its line of Order, with what its walks found, and then what an accepted call does. The contracts of the entry points and
-- the claims cite these.
--   start_call w                   the pool that start leaves
--   grant_call w r, revoke_call w n the pool after them
--   list_call w q choice lent      the lent list after it
--   decide_call w s d q, count_call w
--   words_step w c                 the step of a call of demand 3's lists
-- On a scrambled pool document 01 leaves to the program what an accepted call answers, and what grant and revoke leave in the pool.
-- All of it is fixed here: the hits count with repetition, list sorts them, decide takes the first of equals in the search's order,
-- and the order of the stores is that of adt/specs/Insert and Remove.
-- Assumes nothing: these are definitions.
use Rattle.std.specs.Prelude.{ℕ, ◌-◌, List, [], ◌∷◌, map, length, Ok}
use Rattle.lists.specs.Overwrite.{overwrite}
use Rattle.lists.specs.Sort.{sort_by}
use Rattle.model.specs.declared.Box.{Box}
use Rattle.model.specs.declared.Choice.{Choice}
use Rattle.model.specs.Answer.{accepted, decision_answer}
use Rattle.model.specs.Refusal.{Cause, Step, refusing}
use Rattle.model.specs.Decide.{decide_among}
use Rattle.model.specs.Call.{Request, requested, Call, grant, revoke, list, decide, count}
use Rattle.pool.specs.Capacity.{capacity_of}
use Rattle.pool.specs.Fresh.{fresh_pool}
use Rattle.adt.specs.Insert.{InsertionWalk, inserted}
use Rattle.adt.specs.Insert as insert
use Rattle.adt.specs.Remove.{RemovalWalk, removed}
use Rattle.adt.specs.Remove as remove
use Rattle.calls.specs.Walks.{box_search, point_search, number_search, full_search, is_broken, hits_of, first_hit, first_spot_of, grants_hit}
use Rattle.calls.specs.Walks.{insertion_walk, removal_of}
use Rattle.calls.specs.Causes.{grant_broken, revoke_broken}
use Rattle.calls.specs.Order.{start_order, grant_order, revoke_order, list_order, look_order}

unfoldable pub start_call : List ℕ → Step (List ℕ)
start_call w =
    refusing
    (start_order w)
    w []
    (record { state = fresh_pool (capacity_of w); answer = accepted []; lent = [] })

-- the words once the requested grant hangs at the end of its way; a way that is broken was refused before
abbrev pub granted_words : List ℕ → Request → InsertionWalk → List ℕ
granted_words w r insert.broken = w
granted_words w r (insert.blank_at at parent) = inserted w at parent (requested r)

-- grant's order line, with what its walks found
abbrev pub grant_line : List ℕ → Request → List Cause
grant_line w r = grant_order w r (grant_broken w r) (hits_of (number_search w r.number))

unfoldable pub grant_call : List ℕ → Request → Step (List ℕ)
grant_call w r =
    refusing
    (grant_line w r)
    w []
    (record { state = granted_words w r (insertion_walk w r); answer = accepted []; lent = [] })

-- the words once the cell k, which hangs at `at`, is removed; a removal walk that is broken was refused before
abbrev pub revoked_words : List ℕ → ℕ → ℕ → RemovalWalk → List ℕ
revoked_words w k at remove.broken = w
revoked_words w k at (remove.terminal leaf leaf_at) = removed w k at leaf leaf_at

-- revoke's
abbrev pub revoke_line : List ℕ → ℕ → List Cause
revoke_line w n = revoke_order w n (revoke_broken w n) (hits_of (number_search w n))

-- the same with the number's search alone: what is refused of a number that is to be live
abbrev pub live_line : List ℕ → ℕ → List Cause
live_line w n = let s = number_search w n in revoke_order w n (is_broken s) (hits_of s)

unfoldable pub revoke_call : List ℕ → ℕ → Step (List ℕ)
revoke_call w n =
    let s = number_search w n in
    refusing
    (revoke_line w n)
    w []
    (record { state = revoked_words w (first_hit s) (first_spot_of s).link (removal_of w s); answer = accepted []; lent = [] })

unfoldable pub list_call : List ℕ → Box → Choice → List ℕ → Step (List ℕ)
list_call w q choice lent =
    let s = box_search w q choice in
    let numbers = sort_by (λ n. n) (map (λ g. g.number) (grants_hit w s)) in
    refusing
    (list_order w q lent (is_broken s) (hits_of s))
    w lent
    (record { state = w; answer = accepted (length (hits_of s) ∷ []); lent = overwrite numbers lent })

unfoldable pub decide_call : List ℕ → ℕ → ℕ → ℕ → Step (List ℕ)
decide_call w staff door quarter =
    let s = point_search w staff door quarter in
    refusing
    (look_order w (is_broken s))
    w []
    (record { state = w; answer = decision_answer (Ok (decide_among (grants_hit w s))); lent = [] })

unfoldable pub count_call : List ℕ → Step (List ℕ)
count_call w =
    let s = full_search w in
    let live = length (hits_of s) in
    refusing
    (look_order w (is_broken s))
    w []
    (record { state = w; answer = accepted (live ∷ (capacity_of w - live) ∷ []); lent = [] })

unfoldable pub words_step : List ℕ → Call → Step (List ℕ)
words_step w (grant r) = grant_call w r
words_step w (revoke n) = revoke_call w n
words_step w (list q choice lent) = list_call w q choice lent
words_step w (decide staff door quarter) = decide_call w staff door quarter
words_step w count = count_call w
