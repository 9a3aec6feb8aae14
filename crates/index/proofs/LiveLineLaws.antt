-- A number that is to be live: its line of faults (calls/specs/Calls `live_line`), test by test, and how revoke's line goes on from it.
--   number_found, hit_read    what is known of the search's answer, read off
--   live_pool, live_zero, live-broken, live_absent, live_at    the line, in its order
--   live-deep                                                  the level of the first hit
--   revoke-refuses      what the line refuses, revoke refuses
--   revoke_goes_on      where it refuses nothing, revoke refuses exactly if its removal walk is broken
-- Assumes nothing.
use Prim.Native.Nat.{ℕ, ◌≤◌}
use mathlib.Core.Path.{◌≡◌, refl, ap, subst, ◌∙◌}
use mathlib.Core.Bool.{Bool, true, false, not, cond, ◌&&◌, ◌||◌}
use mathlib.Core.List.{List, [], ◌∷◌}
use Rattle.std.proofs.Common.{Option, None, Some, Result, Ok, Err}
use native.Mathlib.Omega.{arith}
use lib.Dec.{eqb, eqb-suc-zero}
use lib.ListN.{length}
use borrow.Author.Tests.{eq-eqb, ne_eqb}
use Rattle.model.specs.declared.Fault.{Fault}
use Rattle.model.specs.declared.Fault.TheVariants.{BadPool, ZeroNumber, NotLive, BrokenLinks}
use Rattle.model.specs.Refusal.{◌if◌, first_fault}
use Rattle.model.specs.Arguments.{zero_number}
use Rattle.adt.specs.declared.Broken.{Broken}
use Rattle.geometry.specs.Levels.{levels}
use Rattle.pool.specs.Capacity.{Sized, wrong_pool}
use Rattle.calls.specs.Walks.{number_search, is_broken, hits_of, removal_of}
use Rattle.calls.specs.Causes.{removal_broken, revoke_broken}
use Rattle.calls.specs.Order.{revoke_order}
use Rattle.calls.specs.Calls.{revoke_line, live_line}
use Rattle.index.specs.declared.find.NumberHit.{NumberHit}
use Rattle.index.specs.declared.find.LiveHit.{LiveHit}
use Rattle.index.specs.NumberSearch.{NumberFound, LiveFound}

-- the line by what its tests say: pool, number, search, whether nothing was hit
abbrev line_of : Bool → Bool → Bool → Bool → Option Fault
line_of wrong zero broken unhit = first_fault (BadPool if wrong ∷ ZeroNumber if zero ∷ BrokenLinks if broken ∷ NotLive if not (not unhit) ∷ [])

-- with a removal walk that is made where something was hit
abbrev line_then : Bool → Bool → Bool → Bool → Bool → Option Fault
line_then wrong zero broken unhit removal = line_of wrong zero (broken || not unhit && removal) unhit

refuses_then : (wrong zero broken unhit removal : Bool) (f : Fault) → line_of wrong zero broken unhit ≡ Some f
    → line_then wrong zero broken unhit removal ≡ Some f
unfolding first_fault
refuses_then true zero broken unhit removal f e = e
refuses_then false true broken unhit removal f e = e
refuses_then false false true unhit removal f e = e
refuses_then false false false true removal f e = e
refuses_then false false false false removal f e = let z : ◌≡◌ {A = ℕ} 0 1 = cc in absurd (omega arith)

goes_on : (wrong zero broken unhit removal : Bool) → line_of wrong zero broken unhit ≡ None
    → line_then wrong zero broken unhit removal ≡ cond removal (Some BrokenLinks) None
unfolding first_fault
goes_on true zero broken unhit removal e = let z : ◌≡◌ {A = ℕ} 0 1 = cc in absurd (omega arith)
goes_on false true broken unhit removal e = let z : ◌≡◌ {A = ℕ} 0 1 = cc in absurd (omega arith)
goes_on false false true unhit removal e = let z : ◌≡◌ {A = ℕ} 0 1 = cc in absurd (omega arith)
goes_on false false false true removal e = let z : ◌≡◌ {A = ℕ} 0 1 = cc in absurd (omega arith)
goes_on false false false false true e = refl
goes_on false false false false false e = refl

pub hit_read : {r : Result (Option NumberHit) Broken} {o p : Option NumberHit} → r ≡ Ok o → o ≡ p → r ≡ Ok p
hit_read e is = e ∙ ap (λ (o : Option NumberHit). Ok o) is

module _ (w : List ℕ) (n : ℕ) where
  -- what is known of a search's answer, once it is known what it is
  pub number_found : {r s : Result (Option NumberHit) Broken} → r ≡ s → NumberFound w n r → NumberFound w n s
  number_found e f = subst (NumberFound w n) e f

  pub live_pool : wrong_pool w ≡ true → LiveFound w n (Err BadPool)
  unfolding LiveFound revoke_order first_fault
  live_pool e = rw e

  module _ (right : wrong_pool w ≡ false) where
    pub live_zero : n ≡ 0 → LiveFound w n (Err ZeroNumber)
    unfolding LiveFound revoke_order first_fault
    live_zero e = rw (right, eq-eqb n 0 e)

    module _ (nz : ¬ (n ≡ 0)) where
      pub live-broken : {b : Broken} → NumberFound w n (Err b) → LiveFound w n (Err BrokenLinks)
      unfolding LiveFound revoke_order first_fault NumberFound
      live-broken f = rw (right, ne_eqb n 0 nz, f)

      pub live_absent : NumberFound w n (Ok None) → LiveFound w n (Err NotLive)
      unfolding LiveFound revoke_order first_fault NumberFound
      live_absent f = rw (right, ne_eqb n 0 nz, f.unbroken, f.none)

      pub live_at : {c : ℕ} → Sized w c → (hit : NumberHit) → NumberFound w n (Ok (Some hit))
          → LiveFound w n (Ok (record { cells = c; cell = hit.cell; level = hit.level; link = hit.link }))
      unfolding LiveFound revoke_order first_fault NumberFound
      live_at sized hit f =
          record { sized = sized; passes = rw (right, ne_eqb n 0 nz, f.found, eqb-suc-zero (length f.others)); first = f }

  pub live-deep : (live : LiveHit) → LiveFound w n (Ok live) → live.level ≤ levels
  unfolding LiveFound
  live-deep live f = f.first.deep

  pub revoke-refuses : (f : Fault) → LiveFound w n (Err f) → first_fault (revoke_line w n) ≡ Some f
  unfolding LiveFound revoke_order revoke_broken
  revoke-refuses f e =
      let s = number_search w n in
      refuses_then (wrong_pool w) (zero_number n) (is_broken s) (eqb (length (hits_of s)) 0) (removal_broken (removal_of w s)) f e

  pub revoke_goes_on : first_fault (live_line w n) ≡ None
      → first_fault (revoke_line w n) ≡ cond (removal_broken (removal_of w (number_search w n))) (Some BrokenLinks) None
  unfolding revoke_order revoke_broken
  revoke_goes_on e =
      let s = number_search w n in
      goes_on (wrong_pool w) (zero_number n) (is_broken s) (eqb (length (hits_of s)) 0) (removal_broken (removal_of w s)) e
