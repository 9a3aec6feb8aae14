-- What write, load and match answer and leave, on any words and bytes (document 01, "The grants file" and "Faults"). Block read's two calls,
-- which know of no pool, are `block_call` and `part_at` of block_read/specs/BlockRead.
--   write_call w doors lent    the lent bytes after it; on a scrambled pool the grants hit, sorted, with repetition
--   load_call w f              start, then grants in file order; C comes from the pool's length
--   match_call w f             equal, or the lowest number at which the pool's grants touching the file's doors and the file differ
-- Assumes nothing: these are definitions.
use Rattle.std.specs.Prelude.{ℕ, min, cond, List, [], ◌∷◌, Option, None, Some, Ok}
use Rattle.lists.specs.Overwrite.{overwrite}
use Rattle.lists.specs.Sort.{sort_by}
use Rattle.model.specs.declared.Grant.{Grant}
use Rattle.model.specs.Interval.{Interval}
use Rattle.model.specs.Grant.{same_grant}
use Rattle.model.specs.Answer.{accepted, matched_answer}
use Rattle.model.specs.Refusal.{Step, refusing}
use Rattle.model.specs.Call.{request_of}
use Rattle.pool.specs.Capacity.{capacity_of}
use Rattle.pool.specs.Fresh.{fresh_pool}
use Rattle.grants_file.specs.File.{file_of, doors_in, grants_in}
use Rattle.calls.specs.Walks.{door_search, is_broken, hits_of, grants_hit}
use Rattle.calls.specs.Causes.{length_needed}
use Rattle.calls.specs.Order.{write_order, load_order, match_order}
use Rattle.calls.specs.Calls.{grant_call}

-- the pool's grants touching the doors, ascending by number
abbrev pub touching_grants : List ℕ → Interval → List Grant
touching_grants w doors = sort_by (λ g. g.number) (grants_hit w (door_search w doors))

unfoldable pub write_call : List ℕ → Interval → List ℕ → Step (List ℕ)
write_call w doors lent =
    let s = door_search w doors in
    refusing
    (write_order w doors lent (is_broken s) (hits_of s))
    w lent
    (record {
      state = w;
      answer = accepted (length_needed (hits_of s) ∷ []);
      lent = overwrite (file_of doors (touching_grants w doors)) lent;
    })

-- the words after grants, one after the other
unfoldable pub grant_all : List ℕ → List Grant → List ℕ
grant_all w [] = w
grant_all w (g ∷ gs) = grant_all (grant_call w (request_of g)).state gs

unfoldable pub load_call : List ℕ → List ℕ → Step (List ℕ)
load_call w f =
    refusing
    (load_order w f)
    w []
    (record { state = grant_all (fresh_pool (capacity_of w)) (grants_in f); answer = accepted []; lent = [] })

-- the number at which two ascending lists of grants differ first, absent from one or unequal; none where they are the same
unfoldable pub first_difference : List Grant → List Grant → Option ℕ
first_difference [] [] = None
first_difference [] (h ∷ hs) = Some h.number
first_difference (g ∷ gs) [] = Some g.number
first_difference (g ∷ gs) (h ∷ hs) = cond (same_grant g h) (first_difference gs hs) (Some (min g.number h.number))

unfoldable pub match_call : List ℕ → List ℕ → Step (List ℕ)
match_call w f =
    refusing
    (match_order w f (is_broken (door_search w (doors_in f))))
    w []
    (record { state = w; answer = matched_answer (Ok (first_difference (touching_grants w (doors_in f)) (grants_in f))); lent = [] })
