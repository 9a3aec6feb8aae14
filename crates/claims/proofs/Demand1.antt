-- Demand 1, field by field: each call is judged by its order line, with 9's causes and the hits taken from document 01's links, and every
-- call but start, load, grant and revoke leaves the pool as it was.
--   start_judged .. compare_judged  one law for each call, of the type of its field in specs/Claims
--   keeps_pool                      the field of that name
--   demand1                         the demand; its last field, that pools made by calls never give 9, is one of those that they keep (KeepsLaws)
-- Assumes nothing.
use Prim.Native.Nat.{ℕ, min}
use mathlib.Core.Path.{◌≡◌, refl, ap}
use mathlib.Core.Bool.{Bool, true, false, cond}
use mathlib.Core.List.{List, [], ◌∷◌}
use Rattle.std.proofs.Common.{Some, Ok}
use Rattle.model.specs.declared.Box.{Box}
use Rattle.model.specs.declared.Kind.{Kind}
use Rattle.model.specs.declared.Kind.TheVariants as kind
use Rattle.model.specs.declared.Grant.{Grant}
use Rattle.model.specs.declared.Choice.{Choice}
use Rattle.model.specs.Interval.{Interval}
use Rattle.model.specs.Grant.{same_grant}
use Rattle.model.specs.Answer.{Answer, accepted, decision_answer, matched_answer}
use Rattle.model.specs.Decide.{deciding_of, decision_of, decide_among}
use Rattle.model.specs.Refusal.{Cause, Step, refusing, first_fault}
use Rattle.model.specs.Call.{Request}
use Rattle.model.specs.Judged.{Judged}
use Rattle.model.proofs.JudgedLaws.{refusing_judged, judged_same, refusing-keeps-state}
use Rattle.geometry.specs.SearchRange.{range_of_box, range_of_doors, range_of_number, range_of_all}
use Rattle.grants_file.specs.File.{doors_in}
use Rattle.block_read.specs.BlockRead.{read_causes, block_call}
use Rattle.openings.specs.Compare.{openings_order, compare_call}
use Rattle.calls.specs.LinkCauses.{search_meets9, point_meets9, search_hits, box_hits, grant_meets9, revoke_meets9}
use Rattle.calls.specs.Order.{start_order, grant_order, revoke_order, list_order, look_order, write_order, load_order, match_order}
use Rattle.calls.specs.Calls.{start_call, grant_call, revoke_call, list_call, decide_call, count_call}
use Rattle.calls.specs.FileCalls.{write_call, load_call, first_difference, match_call}
use Rattle.calls.proofs.LinkCauseLaws.{is_broken_links, point_broken_links}
use Rattle.calls.proofs.OrderLaws.{grant_order_links, revoke_order_links, list_order_links, write_order_links}
use Rattle.claims.specs.Claims.{MadePools, Demand1}
use Rattle.claims.proofs.KeepsLaws.{made_pools}

-- an answer that is no refusal
abbrev Taken : Answer → Type 0
Taken answer = (values : List ℕ) × (answer ≡ accepted values)

decision_of-taken : (k : Kind) (g : Grant) → Taken (decision_answer (Ok (decision_of k g)))
decision_of-taken kind.Bars g = (_, refl)
decision_of-taken kind.Opens g = (_, refl)

decide_among-taken : (gs : List Grant) → Taken (decision_answer (Ok (decide_among gs)))
unfolding decide_among
decide_among-taken [] = (_, refl)
decide_among-taken (g ∷ gs) = let d = deciding_of g gs in decision_of-taken d.kind d

first_difference-taken : (gs hs : List Grant) → Taken (matched_answer (Ok (first_difference gs hs)))
unfolding first_difference
first_difference-taken [] [] = (_, refl)
first_difference-taken [] (h ∷ hs) = (_, refl)
first_difference-taken (g ∷ gs) [] = (_, refl)
first_difference-taken (g ∷ gs) (h ∷ hs) = go (same_grant g h) (first_difference-taken gs hs)
  where
    go : (b : Bool) → Taken (matched_answer (Ok (first_difference gs hs)))
        → Taken (matched_answer (Ok (cond b (first_difference gs hs) (Some (min g.number h.number)))))
    go true rest = rest
    go false rest = (_, refl)

-- a call that refuses by the line cs, and is accepted else, is judged by any line with the same first fault
judged_by : (cs ds : List Cause) (w lent : List ℕ) (done : Step (List ℕ)) → first_fault cs ≡ first_fault ds → Taken done.answer
    → Judged ds w lent (refusing cs w lent done)
judged_by cs ds w lent done same taken =
    judged_same cs ds w lent (refusing cs w lent done) same (refusing_judged cs w lent done taken.0 taken.1)

pub start_judged : (w : List ℕ) → Judged (start_order w) w [] (start_call w)
unfolding start_call
start_judged w = judged_by _ _ w [] _ refl (_, refl)

pub grant_judged : (w : List ℕ) (r : Request)
    → Judged (grant_order w r (grant_meets9 w r) (search_hits w (range_of_number r.number))) w [] (grant_call w r)
unfolding grant_call
grant_judged w r = judged_by _ _ w [] _ (grant_order_links w r) (_, refl)

pub revoke_judged : (w : List ℕ) (n : ℕ)
    → Judged (revoke_order w n (revoke_meets9 w n) (search_hits w (range_of_number n))) w [] (revoke_call w n)
unfolding revoke_call
revoke_judged w n = judged_by _ _ w [] _ (revoke_order_links w n) (_, refl)

pub list_judged : (w : List ℕ) (q : Box) (choice : Choice) (lent : List ℕ)
    → Judged (list_order w q lent (search_meets9 w (range_of_box q)) (box_hits w q choice)) w lent (list_call w q choice lent)
unfolding list_call
list_judged w q choice lent = judged_by _ _ w lent _ (list_order_links w q choice lent) (_, refl)

pub decide_judged : (w : List ℕ) (staff door quarter : ℕ)
    → Judged (look_order w (point_meets9 w staff door quarter)) w [] (decide_call w staff door quarter)
unfolding decide_call
decide_judged w staff door quarter =
    judged_by _ _ w [] _
    (ap (λ (broken : Bool). first_fault (look_order w broken)) (point_broken_links w staff door quarter))
    (decide_among-taken _)

pub count_judged : (w : List ℕ) → Judged (look_order w (search_meets9 w range_of_all)) w [] (count_call w)
unfolding count_call
count_judged w = judged_by _ _ w [] _ (ap (λ (broken : Bool). first_fault (look_order w broken)) (is_broken_links w range_of_all _)) (_, refl)

pub write_judged : (w : List ℕ) (doors : Interval) (lent : List ℕ)
    → Judged (write_order w doors lent (search_meets9 w (range_of_doors doors)) (search_hits w (range_of_doors doors))) w lent (write_call w doors lent)
unfolding write_call
write_judged w doors lent = judged_by _ _ w lent _ (write_order_links w doors lent) (_, refl)

pub load_judged : (w f : List ℕ) → Judged (load_order w f) w [] (load_call w f)
unfolding load_call
load_judged w f = judged_by _ _ w [] _ refl (_, refl)

pub match_judged : (w f : List ℕ) → Judged (match_order w f (search_meets9 w (range_of_doors (doors_in f)))) w [] (match_call w f)
unfolding match_call
match_judged w f =
    judged_by _ _ w [] _
    (ap (λ (broken : Bool). first_fault (match_order w f broken)) (is_broken_links w (range_of_doors (doors_in f)) _))
    (first_difference-taken _ _)

pub block_judged : (f : List ℕ) (i : ℕ) → Judged (read_causes f i) f [] (block_call f i)
unfolding block_call
block_judged f i = judged_by _ _ f [] _ refl (_, refl)

pub compare_judged : (door panel : List ℕ) → Judged (openings_order door panel) door panel (compare_call door panel)
unfolding compare_call
compare_judged door panel = judged_by _ _ door panel _ refl (_, refl)

pub keeps_pool : (w : List ℕ) (q : Box) (choice : Choice) (doors : Interval) (lent f : List ℕ) (staff door quarter : ℕ)
    → ((list_call w q choice lent).state ≡ w) × ((decide_call w staff door quarter).state ≡ w) × ((count_call w).state ≡ w)
    × ((write_call w doors lent).state ≡ w) × ((match_call w f).state ≡ w)
unfolding list_call decide_call count_call write_call match_call
keeps_pool w q choice doors lent f staff door quarter = (
  refusing-keeps-state _ w lent _ refl,
  refusing-keeps-state _ w [] _ refl,
  refusing-keeps-state _ w [] _ refl,
  refusing-keeps-state _ w lent _ refl,
  refusing-keeps-state _ w [] _ refl,
)

pub demand1 : Demand1
unfolding MadePools
demand1 =
    record {
      start = start_judged;
      grant = grant_judged;
      revoke = revoke_judged;
      list = list_judged;
      decide = decide_judged;
      count = count_judged;
      write = write_judged;
      load = load_judged;
      «match» = match_judged;
      block = block_judged;
      compare = compare_judged;
      keeps_pool = keeps_pool;
      never_broken = λ c w gs made. (made_pools c w gs made).never_broken;
    }
