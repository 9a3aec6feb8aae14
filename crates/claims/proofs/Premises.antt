-- Every premise of the claims is met, by a pool of two cells and two grants: no claim is empty.
--   grant-met, calls_met           GrantFits, CallsFit
--   memory-met                     Memory
--   doors-met, set-met, order-met  DoorRange, FileSet, Ordering
--   bytes-met, accepted-met        Below, Accepted
--   byte_met                       one byte to change: its place, its value, and that it is another
--   block-met, refused-met         a block of records, and a refused block, in Demand2.parts and .refused-parts
--   list-met                       list's answer in Demand2.lists
--   room-met, inside-met           cells enough, and a door inside the range, in Demand3.loads
--   load-met, made-met, call_met   load's answer, and Made in its three cases
--   granted_met, revoked_met, carried-met   the accepted grant, the accepted revoke and the carried grant in UsesFreeHead
--   others-met, same_met, alone-met         other calls that leave the same grants, and a grant that is in one alone, in SameGrantsSameBytes
-- Assumes nothing.
use Prim.Native.Nat.{ℕ, ◌≤◌, ◌<◌}
use mathlib.Core.Logic.{inl, ◌≢◌}
use mathlib.Core.Path.{◌≡◌, refl, sym, ap, subst}
use mathlib.Core.Bool.{true, false}
use mathlib.Core.List.Memᴰ
use mathlib.Core.List.{List, [], ◌∷◌, Memᴰ}
use Rattle.std.proofs.Common.{None}
use native.Mathlib.Omega.{arith}
use lib.Dec.{T, ltb}
use lib.ListN.{length, get_or, replicate}
use borrow.Author.Tests.{ltb-true}
use Rattle.lists.specs.Tests.{filter, every, any}
use Rattle.lists.specs.Sort.{insert_by, sort_by}
use Rattle.lists.proofs.TestLaws.{T-iff, every_all}
use Rattle.model.specs.declared.Box.{Box}
use Rattle.model.specs.declared.Grant.{Grant}
use Rattle.model.specs.declared.Choice.TheVariants.{Touching}
use Rattle.model.specs.declared.Fault.TheVariants.{BadLength}
use Rattle.model.specs.declared.Kind.TheVariants.{Bars, Opens}
use Rattle.model.specs.Interval.{Interval, holds}
use Rattle.model.specs.Box.{box_values}
use Rattle.model.specs.Overlap.{overlaps}
use Rattle.model.specs.Relation.{holds_box, relation_of, takes}
use Rattle.model.specs.Grant.{touches}
use Rattle.model.specs.Answer.{accepted}
use Rattle.model.specs.Refusal.{first_fault, refusing}
use Rattle.model.specs.Judged.{NoneOf}
use Rattle.model.specs.Arguments.{reversed_box, request_causes}
use Rattle.model.specs.Call.{Call, grant, revoke, request_of}
use Rattle.model.specs.Values.{word_values, byte_values, Below, GrantFits, CallFits, CallsFit}
use Rattle.model.specs.Book.{book_of, book_grant, book_revoke, book_list, book_step}
use Rattle.model.specs.Histories.{Response, after}
use Rattle.model.proofs.AnswerLaws.{refusal-accepted}
use Rattle.model.proofs.JudgedLaws.{none_of_iff}
use Rattle.geometry.specs.declared.Side.{Side}
use Rattle.adt.specs.Reach.{CarriedAt}
use Rattle.grants_file.specs.Block.{sealed, header_block}
use Rattle.grants_file.specs.File.{file_of, blocks_in, grants_in, wrong_block_count}
use Rattle.block_read.specs.BlockRead.{not_in_file, read_causes, block_call}
use Rattle.grants_file.specs.FileSets.{Accepted, DoorRange, ascending-none, ascending_more, FileSet, Ordering, SameGrants, InOneAlone}
use Rattle.grants_file.proofs.FileLaws.{length-file_of, file_of-below}
use Rattle.grants_file.proofs.SetLaws.{equal-same}
use Rattle.grants_file.proofs.VerdictLaws.{file_of-accepted}
use Rattle.calls.specs.Calls.{start_call, grant_call, revoke_call, list_call, words_step}
use Rattle.calls.specs.FileCalls.{load_call}
use Rattle.calls.proofs.QueryLaws.{list_refines}
use Rattle.calls.proofs.GrantLaws.{grant_refines}
use Rattle.calls.proofs.RevokeLaws.{revoke_refines}
use Rattle.calls.proofs.HoldsLaws.{represents_holds}
use Rattle.calls.proofs.LoadLaws.{request_of-fits}
use Rattle.claims.specs.Made.{Memory, Made, made-start, made-load, made_call}
use Rattle.claims.specs.KeepsGrants.{touching}
use Rattle.claims.specs.Claims.{words_after, live_after}
use Rattle.claims.proofs.MadeLaws.{made_represents, made_calls, set-accepted}

abbrev box : ℕ → ℕ → ℕ → ℕ → ℕ → ℕ → Box
box a b c d e f =
    record { staff_from = a; staff_to = b; door_from = c; door_to = d; quarter_from = e; quarter_to = f }

-- two grants that touch the doors 40 to 50
abbrev seven : Grant
seven = record { number = 7; rank = 10; kind = Opens; bounds = box 100 199 1 40 32 63 }

abbrev broken : Grant
broken = record { number = 9; rank = 255; kind = Bars; bounds = box 0 65535 41 50 0 9 }

abbrev grants : List Grant
grants = seven ∷ broken ∷ []

abbrev doors : Interval
doors = record { from = 40; to = 50 }

-- memory for two cells, whatever it holds
abbrev memory : List ℕ
memory = replicate 25 9

abbrev calls : List Call
calls = grant (request_of seven) ∷ grant (request_of broken) ∷ []

-- what holds of each of two holds of all
both : {A : Type 0} (P : A → Type 0) {x y : A} → P x → P y → (z : A) → Memᴰ z (x ∷ y ∷ []) → P z
both {A = A} P {y = y} p q z (Memᴰ.tail (Memᴰ.tail x9)) = elim x9 [ ]
both P p q z (Memᴰ.head e) = subst P (sym e) p
both P p q z (Memᴰ.tail (Memᴰ.head e)) = subst P (sym e) q

-- a list is below a bound where the test of each is
below_test : (n : ℕ) (xs : List ℕ) → T (every (λ x. ltb x n) xs) → Below n xs
below_test n xs t x m = ltb-true x n (every_all (λ y. ltb y n) xs ((T-iff _).0 t) x m)

pub grant-met : (g : Grant) → Memᴰ g grants → GrantFits g
unfolding every
grant-met =
    both GrantFits
    (record { number = omega arith; rank = omega arith; bounds = below_test word_values (box_values seven.bounds) tt })
    (record { number = omega arith; rank = omega arith; bounds = below_test word_values (box_values broken.bounds) tt })

pub calls_met : CallsFit calls
calls_met = both CallFits (request_of-fits (grant-met seven (Memᴰ.head refl))) (request_of-fits (grant-met broken (Memᴰ.tail (Memᴰ.head refl))))

-- a box that fault 2 lets through, and one with equal quarters
pub box_met : (reversed_box (box 0 65535 1 40 0 65535) ≡ false) × (reversed_box (box 0 65535 1 40 5 5) ≡ true)
unfolding reversed_box
box_met = (refl, refl)

pub memory-met : Memory 2 memory
memory-met = record { some = omega arith; few = omega arith; long = refl }

pub doors-met : DoorRange doors
doors-met = record { order = omega arith; fits = omega arith }

none-met : (g : Grant) → first_fault (request_causes (request_of g)) ≡ None → NoneOf (request_causes (request_of g))
none-met g e = (none_of_iff (request_causes (request_of g))).1 e

pub set-met : FileSet doors grants
unfolding reversed_box first_fault
set-met =
    record {
      doors = doors-met;
      few = omega arith;
      ascending = ascending_more {last = 0} {g = seven} (omega arith) (ascending_more {last = 7} {g = broken} (omega arith) ascending-none);
      each = λ g m.
          record {
            fits = grant-met g m;
            faultless = both (λ x. NoneOf (request_causes (request_of x))) (none-met seven refl) (none-met broken refl) g m;
            touching = both (λ x. touches doors x ≡ true) refl refl g m;
          };
    }

pub order-met : Ordering grants (broken ∷ seven ∷ [])
unfolding sort_by insert_by
order-met = refl

pub bytes-met : Below byte_values (file_of doors grants)
bytes-met = file_of-below doors grants set-met

pub accepted-met : Accepted (file_of doors grants)
accepted-met = file_of-accepted doors grants set-met

pub byte_met : (0 < length (file_of doors grants)) × (0 < byte_values) × (0 ≢ get_or (file_of doors grants) 0 0)
unfolding file_of header_block sealed
byte_met = (omega (arith, length-file_of doors grants), omega arith, λ e. omega arith)

pub block-met : (0 < 1) × (1 < blocks_in (file_of doors grants))
block-met = (omega arith, omega (arith, length-file_of doors grants))

pub refused-met : (block_call [] 0).answer ≢ accepted []
unfolding block_call refusing read_causes not_in_file wrong_block_count first_fault
refused-met e = refusal-accepted BadLength [] e

pub list-met : (list_call (words_after memory calls) (box 0 65535 1 40 0 65535) Touching (0 ∷ [])).answer ≡ accepted (1 ∷ [])
unfolding after book_step book_grant book_list refusing first_fault insert_by filter any overlaps holds_box relation_of takes reversed_box
list-met =
    let made = made_represents (made_calls memory-met calls calls_met) in
    ap (λ (t : Response). t.answer) (list_refines made (box 0 65535 1 40 0 65535) Touching (0 ∷ [])).same

pub room-met : length (touching doors (live_after 2 calls)) ≤ 2
unfolding after book_step book_grant refusing first_fault insert_by filter any reversed_box
room-met = omega arith

pub inside-met : T (holds doors 45)
inside-met = tt

pub load-met : (load_call memory (file_of doors grants)).answer ≡ accepted []
load-met = set-accepted set-met memory-met (omega arith)

-- start, load, and a call after it
pub made-met : Made 2 (start_call memory).state [] × Made 2 (load_call memory (file_of doors grants)).state (grants_in (file_of doors grants))
made-met = (made-start memory-met, made-load memory-met bytes-met load-met)

pub call_met : let w = (load_call memory (file_of doors grants)).state in
    let b = book_of 2 (grants_in (file_of doors grants)) in
    Made 2 (words_step w (revoke 7)).state (book_step b (revoke 7)).state.live
call_met = made_call (revoke 7) tt made-met.1

-- on the fresh index a grant is accepted; after the calls a revoke is, of a grant that a cell carries
pub granted_met : (grant_call (start_call memory).state (request_of seven)).answer ≡ accepted []
unfolding book_grant refusing first_fault any reversed_box
granted_met =
    ap (λ (t : Response). t.answer) (grant_refines (made_represents (made-start memory-met)) (request_of seven) (calls_met _ (Memᴰ.head refl))).same

pub revoked_met : (revoke_call (words_after memory calls) 7).answer ≡ accepted []
unfolding after book_step book_grant book_revoke refusing first_fault insert_by any reversed_box
revoked_met = ap (λ (t : Response). t.answer) (revoke_refines (made_represents (made_calls memory-met calls calls_met)) 7).same

pub carried-met : (p : List Side) × CarriedAt (words_after memory calls) seven p × (seven.number ≡ 7)
unfolding after book_step book_grant refusing first_fault insert_by any reversed_box
carried-met =
    let o = (represents_holds (made_represents (made_calls memory-met calls calls_met))).each seven (Memᴰ.head refl) in
    (o.0, o.1, refl)

-- the same two grants in the other order, one of them revoked and given again
abbrev others : List Call
others = grant (request_of broken) ∷ revoke 9 ∷ grant (request_of seven) ∷ grant (request_of broken) ∷ []

pub others-met : CallsFit others
others-met c (Memᴰ.head e) = subst CallFits (sym e) (calls_met _ (Memᴰ.tail (Memᴰ.head refl)))
others-met c (Memᴰ.tail (Memᴰ.head e)) = subst CallFits (sym e) tt
others-met c (Memᴰ.tail (Memᴰ.tail m)) = both CallFits (calls_met _ (Memᴰ.head refl)) (calls_met _ (Memᴰ.tail (Memᴰ.head refl))) c m

pub same_met : SameGrants (live_after 2 calls) (live_after 3 others)
unfolding after book_step book_grant book_revoke refusing first_fault insert_by filter any reversed_box
same_met = equal-same refl

pub alone-met : InOneAlone seven grants (broken ∷ [])
alone-met = inl (Memᴰ.head refl, absent)
  where
    absent : Memᴰ seven (broken ∷ []) → ⊥
    absent (Memᴰ.head e) = omega (arith, ap (λ (g : Grant). g.number) e)
    absent (Memᴰ.tail m) = Memᴰ.not-nil m
