-- On words that stand for a plain book, what KeepsGrants promises of an index with its live grants (specs/KeepsGrants).
--   writes_same              what write gives for some doors is one file
--   list-taken               what an accepted list wrote
--   decide_foremost          what decide answers
--   files-written            write gives the file of any doors and the live grants touching them
--   questions_alike          two pools of which one holds what the other has touching some doors answer alike about those doors, a case a question
--   load_alike               load accepts that file where cells are enough, and the index then answers alike inside its doors
--   represents_keeps         all of it
--   made_pools               so it is of every pool that calls made
-- Assumes nothing.
use Prim.Native.Nat.{ℕ, ◌+◌}
use mathlib.Core.Logic.{◌↔◌}
use mathlib.Core.Path.{◌≡◌, refl, sym, ap, ◌∙◌}
use mathlib.Core.List.Memᴰ
use mathlib.Core.List.{List, map, Memᴰ}
use Rattle.std.proofs.Common.{Ok}
use native.Mathlib.Omega.{arith}
use lib.ListN.{length, take, get_or, replicate, length-replicate}
use lib.Seq.{take_at}
use borrow.Author.Tests.{le-ltb}
use Rattle.lists.specs.Tests.{filter}
use Rattle.lists.specs.Overwrite.{overwrite}
use Rattle.lists.proofs.KeyLaws.{distinct-keys-filter}
use Rattle.lists.proofs.SortLaws.{rises_filter, rises_map, rises_get_d}
use Rattle.model.specs.declared.Box.{Box}
use Rattle.model.specs.declared.Grant.{Grant}
use Rattle.model.specs.declared.Decision.{Decision}
use Rattle.model.specs.declared.Decision.TheVariants as decision
use Rattle.model.specs.Interval.{Interval}
use Rattle.model.specs.Box.{point_box}
use Rattle.model.specs.Overlap.{Overlap, overlaps}
use Rattle.model.specs.Relation.{Taken, taken}
use Rattle.model.specs.Grant.{touches}
use Rattle.model.specs.Answer.{Answer, accepted, refused, decision_answer}
use Rattle.model.specs.Refusal.{Step}
use Rattle.model.specs.Decide.{decision_of, decide_among}
use Rattle.model.specs.Call.{grant, revoke, list, decide, count}
use Rattle.model.specs.Values.{CallFits}
use Rattle.model.specs.Book.{Book, overlapping, taken_for, book_decide, book_step}
use Rattle.model.specs.Histories.{Response}
use Rattle.model.proofs.AnswerLaws.{decision_answer_injective}
use Rattle.model.proofs.OverlapLaws.{overlapping_iff}
use Rattle.model.proofs.RelationLaws.{taken_for_iff}
use Rattle.model.proofs.DecideLaws.{yields_iff, decide_among-none, Foremost, foremost_decides}
use Rattle.model.proofs.BookLaws.{book_list_writes}
use Rattle.model.proofs.SoundLaws.{sound_answer_lem}
use Rattle.model.proofs.Simulation.{calls_refine}
use Rattle.calls.specs.Calls.{decide_call, words_step}
use Rattle.calls.proofs.Represents.{grant_number, Represents, live-distinct, represents_rises}
use Rattle.calls.proofs.QueryLaws.{list_refines, decide_refines}
use Rattle.calls.proofs.CallLaws.{call_refines}
use Rattle.calls.proofs.HoldsLaws.{represents_holds}
use Rattle.calls.proofs.WriteLaws.{represents_writes, touching-set}
use Rattle.calls.proofs.MatchLaws.{match_equal, match_differs}
use Rattle.calls.proofs.AlikeLaws.{list_alike, decide_alike}
use Rattle.calls.proofs.FreeHeadLaws.{grant-takes, revoke_frees}
use Rattle.calls.proofs.SoundLaws.{call_sound, write_sound, match_sound}
use Rattle.claims.specs.KeepsGrants.{ListsGrants, Decides, DecidesAmong, Writes, WritesFiles, AnswerAlike, LoadsAlike, KeepsGrants}
use Rattle.claims.specs.Claims.{MadePools}
use Rattle.claims.proofs.MadeLaws.{made_represents, set-accepted, made-set}

-- what write gives for some doors is one file
pub writes_same : (w : List ℕ) (doors : Interval) (f k : List ℕ) → Writes w doors f → Writes w doors k → f ≡ k
unfolding overwrite
writes_same w doors f k first second =
    let memory : List ℕ = replicate (length f + length k) 0 in
    let room = length-replicate {A = ℕ} (length f + length k) 0 in
    let same = sym (first memory (omega (arith, room))) ∙ second memory (omega (arith, room)) in
    let long : length f ≡ length k = ap (λ (s : Step (List ℕ)). first_value s.answer) same in
    sym (take_at f _ (length k) long) ∙ ap (λ (s : Step (List ℕ)). take (length k) s.lent) same ∙ take_at k _ (length k) refl
  where
    first_value : Answer → ℕ
    first_value (accepted values) = get_or values 0 0
    first_value (refused number values) = 0

questions_alike : {w v : List ℕ} {b d : Book} → Represents w b → Represents v d → (doors : Interval) → d.live ≡ filter (touches doors) b.live
    → AnswerAlike doors w v
unfolding words_step
questions_alike h k doors held (list q choice lent) asks = list_alike h k doors held q choice lent asks.0 asks.1
questions_alike h k doors held (decide staff door quarter) asks = decide_alike h k doors held staff door quarter asks
questions_alike h k doors held (grant r) asks = absurd asks
questions_alike h k doors held (revoke n) asks = absurd asks
questions_alike h k doors held count asks = absurd asks

module _ {w : List ℕ} {b : Book} (h : Represents w b) where
  pub list-taken : ListsGrants w b.live
  list-taken q choice lent n done =
      let same = (list_refines h q choice lent).same in
      let wrote = book_list_writes b q choice lent n (sym (ap (λ (t : Response). t.answer) same) ∙ done) in
      rw (ap (λ (t : Response). take n t.lent) same ∙ wrote)
      (record {
        member = member;
        rising = rises_get_d (λ n. n) 0 (rises_map grant_number (rises_filter grant_number (taken choice q) (represents_rises h)));
      })
    where
      member : (n : ℕ)
          → Memᴰ n (map grant_number (taken_for q choice b.live))
          ↔ ((g : Grant) × Memᴰ g b.live × (g.number ≡ n) × Taken choice q g)
      member n = (
        (λ m.
            let o = Memᴰ.of_map grant_number (taken_for q choice b.live) m in
            let both = (taken_for_iff q choice b.live o.0).0 o.1 in
            (o.0, both.0, o.2, both.1)),
        (λ o. Memᴰ.cast (sym o.2) (Memᴰ.map grant_number ((taken_for_iff q choice b.live o.0).1 (o.1, o.3)))),
      )

  module _ (staff door quarter : ℕ) where
    abbrev q : Box
    q = point_box staff door quarter

    -- the answer is that of the grants that overlap the point
    decide-answer : (decide_call w staff door quarter).answer ≡ decision_answer (Ok (decide_among (overlapping q b.live)))
    unfolding book_decide
    decide-answer = ap (λ (t : Response). t.answer) (decide_refines h staff door quarter).same

    answer_iff : (d : Decision) → ((decide_call w staff door quarter).answer ≡ decision_answer (Ok d)) ↔ (decide_among (overlapping q b.live) ≡ d)
    answer_iff d = (
      (λ e. let same = decision_answer_injective (Ok (decide_among (overlapping q b.live))) (Ok d) (sym decide-answer ∙ e) in cc),
      (λ e. decide-answer ∙ ap (λ (x : Decision). decision_answer (Ok x)) e),
    )

    foremost_iff : (g : Grant) → Decides b.live q g ↔ Foremost g (overlapping q b.live)
    foremost_iff g = (
      (λ d. record {
        member = (overlapping_iff q b.live g).1 (d.live, d.overlapping);
        yield = λ x m.
            let both = (overlapping_iff q b.live x).0 m in
            (yields_iff x g).1 (d.highest_rank x both.0 both.1, d.highest_number x both.0 both.1);
      }),
      (λ f.
          let both = (overlapping_iff q b.live g).0 f.member in
          record {
            live = both.0;
            overlapping = both.1;
            highest_rank = λ x m o. ((yields_iff x g).0 (f.yield x ((overlapping_iff q b.live x).1 (m, o)))).0;
            highest_number = λ x m o. ((yields_iff x g).0 (f.yield x ((overlapping_iff q b.live x).1 (m, o)))).1;
          }),
    )

    decided :
        (((decide_call w staff door quarter).answer ≡ decision_answer (Ok decision.None))
        ↔ ((g : Grant) → Memᴰ g b.live → Overlap g.bounds q → ⊥))
        × ((g : Grant) → Decides b.live q g ↔ ((decide_call w staff door quarter).answer ≡ decision_answer (Ok (decision_of g.kind g))))
    decided =
        let gs = overlapping q b.live in
        let none = decide_among-none gs in
        let apart = distinct-keys-filter grant_number (λ g. overlaps g.bounds q) b.live (live-distinct h) in (
          (
            (λ e g m o. none.0 ((answer_iff decision.None).0 e) g ((overlapping_iff q b.live g).1 (m, o))),
            (λ f. (answer_iff decision.None).1 (none.1 (λ g m. let both = (overlapping_iff q b.live g).0 m in f g both.0 both.1))),
          ),
          (λ g.
              let first = foremost_decides gs apart g in
              let answer = answer_iff (decision_of g.kind g) in (
                (λ d. answer.1 (first.0 ((foremost_iff g).0 d))),
                (λ e. (foremost_iff g).1 (first.1 (answer.0 e))),
              )),
        )

  pub decide_foremost : DecidesAmong w b.live
  decide_foremost = decided

  pub files-written : WritesFiles w b.live
  files-written doors range = represents_writes h doors (le-ltb doors.to doors.from range.order)

  pub load_alike : LoadsAlike w b.live
  load_alike doors d other range m room =
      let s = touching-set h doors range in
      (set-accepted s m room, questions_alike h (made_represents (made-set s m room)) doors refl)

  pub represents_keeps : KeepsGrants b.capacity w b.live
  represents_keeps =
      record {
        holds = represents_holds h;
        answers = λ calls fit. (calls_refine words_step book_step Represents CallFits call_refines w b calls fit h).0;
        lists = list-taken;
        decisions = decide_foremost;
        matches = λ doors gs s. record { equal = match_equal h s; differs = match_differs h s };
        files = files-written;
        loads = load_alike;
        free-head = record { grants = grant-takes h; revokes = revoke_frees h };
        never_broken = (
          (λ call fits. sound_answer_lem _ (call_sound h call fits)),
          (λ doors lent. sound_answer_lem _ (write_sound h doors lent)),
          (λ f. sound_answer_lem _ (match_sound h f)),
        );
      }

pub made_pools : MadePools
unfolding MadePools
made_pools c w gs made = represents_keeps (made_represents made)
