-- The free head after grant and revoke on words that stand for a plain book (document 01, "The tree").
--   grant-takes       an accepted grant takes the free head
--   revoke_frees      after an accepted revoke the cell that carried the grant is the free head
-- Assumes nothing.
use Prim.Native.Nat.{ℕ}
use mathlib.Core.Path.{◌≡◌, sym, subst, ◌∙◌}
use mathlib.Core.List.{List, []}
use Rattle.std.proofs.Common.{None}
use Rattle.model.specs.declared.Grant.{Grant}
use Rattle.model.specs.Answer.{accepted}
use Rattle.model.specs.Refusal.{first_fault, refusing}
use Rattle.model.specs.Call.{Request, requested}
use Rattle.model.specs.Values.{RequestFits}
use Rattle.model.specs.Book.{Book}
use Rattle.model.proofs.RefusalLaws.{accepted-none}
use Rattle.geometry.specs.declared.Side.{Side}
use Rattle.adt.specs.Reach.{node_at, CarriedAt}
use Rattle.adt.specs.FreeHead.{TakesFreeHead, BecomesFreeHead}
use Rattle.adt.proofs.PartLaws.{hangs_cell}
use Rattle.adt.proofs.FreeHeadLaws.{insert-takes, removed_becomes}
use Rattle.calls.specs.Walks.{number_search, first_hit, first_spot_of, removal_of}
use Rattle.calls.specs.Calls.{grant_call, grant_line, revoked_words, revoke_line, revoke_call}
use Rattle.calls.proofs.Represents.{Represents}
use Rattle.calls.proofs.HoldsLaws.{carried-cell}
use Rattle.calls.proofs.GrantLaws.{grant-order, grant_inserts}
use Rattle.calls.proofs.RevokeLaws.{Removal, revoke-order, revoke_removes}

module _ {w : List ℕ} {b : Book} (h : Represents w b) where
  pub grant-takes : (r : Request) → RequestFits r → (grant_call w r).answer ≡ accepted [] → TakesFreeHead w (grant_call w r).state (requested r)
  unfolding grant_call refusing
  grant-takes r fits taken =
      let line : first_fault (grant_line w r) ≡ None = accepted-none _ w [] _ [] taken in
      let i = grant_inserts h r fits (sym (grant-order h r fits) ∙ line) in
      rw (line, i.way) (insert-takes i.linked i.done)

  -- the words without the cell that is removed
  removal_frees : (n : ℕ) (r : Removal h n)
      → BecomesFreeHead w (revoked_words w (first_hit (number_search w n)) (first_spot_of (number_search w n)).link (removal_of w (number_search w n)))
      r.found.cell
  removal_frees n r = rw (r.ends, r.found.first, r.found.place) (removed_becomes h.linked r.done)

  pub revoke_frees : (n : ℕ) (g : Grant) (p : List Side) → (revoke_call w n).answer ≡ accepted [] → CarriedAt w g p → g.number ≡ n
      → BecomesFreeHead w (revoke_call w n).state (node_at w p)
  unfolding revoke_call refusing
  revoke_frees n g p taken carried number =
      let line : first_fault (revoke_line w n) ≡ None = accepted-none _ w [] _ [] taken in
      let r = revoke_removes h n (sym (revoke-order h n) ∙ line) in
      let cell = carried-cell h carried r.found.cell (hangs_cell r.found.hangs) (r.found.number ∙ sym number) in
      rw line (subst (BecomesFreeHead w _) (sym cell) (removal_frees n r))
