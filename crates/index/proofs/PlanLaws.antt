-- How grant, revoke and start come to their answer, test by test.
--   grant_pool, grant_wrong, grant-broken, grant-live, grant_absent   grant's line, in its order
--   grant-refused, grant_done                   what grant leaves
--   revoke-not-live, revoke_removal_broken, revoke_planned          revoke's line: its number isn't live, its removal walk is broken, or neither
--   hit_step, plan_removes, revoke-refused, revoke_done             what revoke stores and leaves
--   start-refused, start_done
-- Assumes nothing.
use Prim.Native.Nat.{ℕ, ◌-◌, ◌≤◌}
use mathlib.Core.Path.{◌≡◌, sym, ap, subst, ◌∙◌}
use mathlib.Core.Bool.{true, false}
use mathlib.Core.List.{List, []}
use Rattle.std.proofs.Common.{None, Some, Result, Ok, Err}
use Rattle.std.specs.Prelude.{⊤}
use native.Mathlib.Omega.{arith}
use lib.Dec.{eqb-suc-zero}
use lib.ListN.{length}
use Rattle.model.specs.declared.Fault.{Fault}
use Rattle.model.specs.declared.Fault.TheVariants.{BadPool, AlreadyLive, BrokenLinks}
use Rattle.model.specs.declared.RequestFault.{RequestFault}
use Rattle.model.specs.Answer.{accepted, outcome_answer}
use Rattle.model.specs.Refusal.{first_fault, refusing}
use Rattle.model.specs.Arguments.{request_order, fault_of, request_causes, first_wrong}
use Rattle.model.specs.Call.{Request, requested}
use Rattle.model.proofs.RefusalLaws.{first_fault-front}
use Rattle.model.proofs.ArgumentLaws.{check_fault, first_wrong-fault}
use Rattle.geometry.specs.Levels.{levels}
use Rattle.pool.specs.Capacity.{Sized, wrong_length, wrong_pool}
use Rattle.pool.specs.Fresh.{fresh_pool}
use Rattle.pool.proofs.CapacityLaws.{cell_in_pool, capacity_of-pool_length}
use Rattle.adt.specs.declared.Broken.{Broken}
use Rattle.adt.specs.declared.remove.Terminal.{Terminal}
use Rattle.adt.specs.Insert.{inserted}
use Rattle.adt.specs.Remove.{follow, terminal_from, removed}
use Rattle.adt.specs.WalkResult.{removal_walk_of, RemovalStep, Removable}
use Rattle.adt.proofs.WithinLaws.{follow-within}
use Rattle.steps.specs.declared.insertion.Insertion.{Insertion}
use Rattle.steps.specs.Insertions.{InsertionPlanned, SlotPlanned}
use Rattle.steps.proofs.InsertionLaws.{walk_causes, to_walks, absent_line}
use Rattle.index.specs.declared.find.NumberHit.{NumberHit}
use Rattle.index.specs.declared.find.LiveHit.{LiveHit}
use Rattle.index.specs.declared.revoke.Removal.{Removal}
use Rattle.calls.specs.Walks.{number_search, removal_of}
use Rattle.calls.specs.Causes.{grant_broken}
use Rattle.calls.specs.Order.{start_order, grant_order}
use Rattle.calls.specs.Calls.{start_call, grant_call, revoke_call}
use Rattle.calls.specs.Contract.{Leaves}
use Rattle.index.specs.NumberSearch.{NumberFound, LiveFound}
use Rattle.index.specs.Plans.{GrantPlanned, RemovalPlanned}
use Rattle.index.proofs.LiveLineLaws.{revoke-refuses, revoke_goes_on}

-- grant's line, as far as its tests have come
module _ (w : List ℕ) (r : Request) where
  pub grant_pool : wrong_pool w ≡ true → GrantPlanned w r (Err BadPool)
  unfolding InsertionPlanned grant_order first_fault
  grant_pool e = rw e

  module _ (p : wrong_pool w ≡ false) {c : Result ⊤ RequestFault} (check : c ≡ first_wrong r request_order) where
    -- what the check of the arguments says of their causes
    checked : first_fault (request_causes r) ≡ check_fault c
    checked = sym (first_wrong-fault r request_order) ∙ ap check_fault (sym check)

    pub grant_wrong : {x : RequestFault} → c ≡ Err x → {f : Fault} → f ≡ fault_of x → GrantPlanned w r (Err f)
    unfolding InsertionPlanned grant_order first_fault
    grant_wrong {x} e same = rw (p, same) (first_fault-front (request_causes r) (walk_causes w r) (fault_of x) (checked ∙ ap check_fault e))

    module _ {u : ⊤} (right : c ≡ Ok u) where
      faultless : first_fault (request_causes r) ≡ None
      faultless = checked ∙ ap check_fault right

      pub grant-broken : {b : Broken} → NumberFound w r.number (Err b) → GrantPlanned w r (Err BrokenLinks)
      unfolding InsertionPlanned NumberFound first_fault grant_broken
      grant-broken f = to_walks w r p faultless ∙ rw f

      pub grant-live : (hit : NumberHit) → NumberFound w r.number (Ok (Some hit)) → GrantPlanned w r (Err AlreadyLive)
      unfolding InsertionPlanned NumberFound first_fault grant_broken
      grant-live hit f = to_walks w r p faultless ∙ rw (f.found, eqb-suc-zero (length f.others))

      pub grant_absent : NumberFound w r.number (Ok None) → (plan : Result Insertion Fault) → SlotPlanned w r plan → GrantPlanned w r plan
      unfolding InsertionPlanned NumberFound
      grant_absent f (Err fault) e = absent_line w r p faultless f.unbroken f.none ∙ e
      grant_absent f (Ok at) e = record { passes = absent_line w r p faultless f.unbroken f.none ∙ e.passes; way = e.way; slot = e.slot }

  pub grant-refused : (fault : Fault) → GrantPlanned w r (Err fault) → Leaves (outcome_answer (Err fault)) w (grant_call w r)
  unfolding InsertionPlanned grant_call refusing
  grant-refused fault e = record { answered = rw e; left = rw e }

  pub grant_done : (at : Insertion) {v : List ℕ} → GrantPlanned w r (Ok at) → v ≡ inserted w at.link at.parent (requested r)
      → Leaves (accepted []) v (grant_call w r)
  unfolding InsertionPlanned grant_call refusing
  grant_done at p e = record { answered = rw p.passes; left = e ∙ rw (p.passes, p.way) }

-- revoke's line, as far as its tests have come
module _ (w : List ℕ) (n : ℕ) where
  pub revoke-not-live : (f : Fault) → LiveFound w n (Err f) → RemovalPlanned w n (Err f)
  unfolding RemovalPlanned
  revoke-not-live f e = revoke-refuses w n f e

  module _ (live : LiveHit) (f : LiveFound w n (Ok live)) where
    -- the removal walk is that of the first hit
    walk : follow w live.cells (levels - live.level) live.cell live.link 1 ≡ removal_of w (number_search w n)
    unfolding LiveFound terminal_from
    walk = rw (f.first.found, capacity_of-pool_length w live.cells f.sized.long)

    hit_few : live.cell ≤ live.cells
    unfolding LiveFound
    hit_few = subst (λ (x : ℕ). live.cell ≤ x) (capacity_of-pool_length w live.cells f.sized.long) f.first.few

    -- the removal walk may begin at the first hit
    pub hit_step : RemovalStep w live.cells (levels - live.level) live.cell 1
    unfolding LiveFound
    hit_step = record { sized = f.sized; deep = omega arith; some = f.first.some; few = hit_few; met-cells = f.sized.some }

    module _ {r : Result Terminal Broken} (end : removal_walk_of r ≡ follow w live.cells (levels - live.level) live.cell live.link 1) where
      pub revoke_removal_broken : {b : Broken} → r ≡ Err b → RemovalPlanned w n (Err BrokenLinks)
      unfolding RemovalPlanned LiveFound
      revoke_removal_broken met =
          let broken = sym (sym (ap removal_walk_of met) ∙ end ∙ walk) in
          revoke_goes_on w n f.passes ∙ rw broken

      pub revoke_planned : {t : Terminal} → r ≡ Ok t
          → RemovalPlanned w n (Ok (record { cells = live.cells; cell = live.cell; link = live.link; leaf = t.cell; cut = t.link }))
      unfolding RemovalPlanned LiveFound
      revoke_planned {t} ended =
          let at_end = sym (ap removal_walk_of ended) ∙ end in
          let ends = sym (at_end ∙ walk) in
          let sized = f.sized in
          let at = f.first in
          let inside = follow-within w live.cells sized.long (levels - live.level) live.cell live.link 1 t.cell t.link at.some hit_few at.place (sym at_end) in
          record {
            sized = sized;
            passes = revoke_goes_on w n f.passes ∙ rw ends;
            first = rw at.found;
            spot = rw at.found;
            ends = ends;
            inside =
                record {
                  cell = cell_in_pool sized at.some hit_few;
                  terminal = cell_in_pool sized inside.some inside.few;
                  at = at.place;
                  cut_at = inside.place;
                };
          }

  pub plan_removes : (p : Removal) → RemovalPlanned w n (Ok p) → Sized w p.cells × Removable w p.cell p.link p.leaf p.cut
  unfolding RemovalPlanned
  plan_removes p planned = (planned.sized, planned.inside)

  pub revoke-refused : (fault : Fault) → RemovalPlanned w n (Err fault) → Leaves (outcome_answer (Err fault)) w (revoke_call w n)
  unfolding RemovalPlanned revoke_call refusing
  revoke-refused fault e = record { answered = rw e; left = rw e }

  pub revoke_done : (p : Removal) {v : List ℕ} → RemovalPlanned w n (Ok p) → v ≡ removed w p.cell p.link p.leaf p.cut
      → Leaves (accepted []) v (revoke_call w n)
  unfolding RemovalPlanned revoke_call refusing
  revoke_done p planned e =
      record { answered = rw planned.passes; left = e ∙ rw (planned.passes, planned.ends, planned.first, planned.spot) }

module _ (w : List ℕ) where
  pub start-refused : wrong_length w ≡ true → Leaves (outcome_answer (Err BadPool)) w (start_call w)
  unfolding start_call refusing start_order first_fault
  start-refused e = record { answered = rw e; left = rw e }

  pub start_done : {c : ℕ} {v : List ℕ} → wrong_length w ≡ false → Sized w c → v ≡ fresh_pool c → Leaves (accepted []) v (start_call w)
  unfolding start_call refusing start_order first_fault
  start_done {c} p s e = record { answered = rw p; left = e ∙ rw (p, capacity_of-pool_length w c s.long) }
