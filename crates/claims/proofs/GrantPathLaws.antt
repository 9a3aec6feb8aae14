-- The way up from a number's first hit is a path from the root, read upward; on words that stand for a plain book, that of the live grant.
--   way_claim          on any words (specs/GrantPaths)
--   path-order         the faults are those of the book's revoke
--   shows-path         the cells on the way up are those of the grant's path, and then there is none
--   shows_paths        and other numbers are refused
--   path_claim         so it is on every pool that calls made (specs/GrantPaths)
-- Assumes nothing.
use Prim.Native.Nat.{ℕ, ◌<◌}
use mathlib.Core.Path.{◌≡◌, refl, sym, ap, ◌∙◌}
use mathlib.Core.Bool.{Bool, true, false, not, true≢false}
use mathlib.Core.List.Memᴰ
use mathlib.Core.List.{List, [], ◌∷◌, Memᴰ}
use Rattle.std.proofs.Common.{Option, None, Result, Ok, Err}
use native.Mathlib.Omega.{arith}
use lib.Dec.{eqb}
use lib.ListN.{length, drop}
use borrow.Author.Tests.{eqb-true, eq-eqb, ne_eqb}
use Rattle.lists.proofs.KeyLaws.{any_mem, mem_any}
use Rattle.model.specs.declared.Grant.{Grant}
use Rattle.model.specs.declared.Fault.{Fault}
use Rattle.model.specs.declared.Fault.TheVariants.{ZeroNumber, NotLive}
use Rattle.model.specs.Refusal.{first_fault}
use Rattle.model.specs.Call.{request_of}
use Rattle.model.specs.Book.{Book, is_live}
use Rattle.model.proofs.ArgumentLaws.{request-numbered}
use Rattle.model.proofs.RefusalLaws.{causes_absent}
use Rattle.geometry.specs.declared.Side.{Side}
use Rattle.geometry.specs.Point.{in_range}
use Rattle.geometry.specs.SearchRange.{range_of_number}
use Rattle.pool.specs.Capacity.{capacity_of}
use Rattle.pool.specs.Cell.{grant_at}
use Rattle.adt.specs.Search.{Spot, Search, broken, going}
use Rattle.adt.specs.Reach.{node_at, CarriedAt}
use Rattle.adt.proofs.PartLaws.{hangs_cell}
use Rattle.adt.proofs.ReachLaws.{linked_reached, linked_along}
use Rattle.adt.proofs.SearchPaths.{going-path}
use Rattle.adt.proofs.PathLaws.{hangs_path, path-drop}
use Rattle.calls.specs.Walks.{number_search, is_broken, hits_of, first_hit, first_spot_of}
use Rattle.calls.specs.Causes.{number_live}
use Rattle.calls.specs.Order.{revoke_order}
use Rattle.calls.specs.Calls.{live_line}
use Rattle.calls.proofs.Represents.{Represents, represents_pool, live_represents, live-faultless}
use Rattle.calls.proofs.HoldsLaws.{carried-cell, represents_holds}
use Rattle.calls.proofs.LiveNumberLaws.{number-found, number_live-is_live}
use Rattle.calls.proofs.RevokeLaws.{causes, first_found}
use Rattle.grant_path.specs.declared.ancestors.Ancestor.{Ancestor}
use Rattle.grant_path.specs.GrantPath.{ancestor_from, ancestor_at}
use Rattle.grant_path.proofs.AncestorLaws.{ancestor_on, ancestor_past}
use Rattle.claims.specs.GrantPaths.{cell_shown, ShowsWay, WayClaim, ShowsCell, ShowsPath, ShowsPaths, PathClaim}
use Rattle.claims.proofs.MadeLaws.{made_represents}

-- an answer that is no refusal
abbrev shown : Option Ancestor → Result (Option Ancestor) Fault
shown = Ok

-- a search that is not broken and hits
hit_first : (s : Search) → is_broken s ≡ false → not (number_live (hits_of s)) ≡ false
    → (met : ℕ) × (k : ℕ) × (others : List ℕ) × (first : Spot) × (s ≡ going met (k ∷ others) first)
hit_first broken whole live = absurd (true≢false whole)
hit_first (going met [] first) whole live = absurd (true≢false live)
hit_first (going met (k ∷ others) first) whole live = (met, k, others, first, refl)

-- where nothing is refused, the way up begins at the first hit
from_first : (w : List ℕ) (n i : ℕ) → first_fault (live_line w n) ≡ None
    → ancestor_at w n i ≡ Ok (ancestor_from w (first_hit (number_search w n)) (first_spot_of (number_search w n)).level i)
unfolding ancestor_at
from_first w n i passes = rw passes

shows-way : (w : List ℕ) (n : ℕ) → first_fault (live_line w n) ≡ None → ShowsWay w n
unfolding revoke_order
shows-way w n passes =
    let searched = causes_absent _ _ (causes_absent _ _ (causes_absent _ _ passes).1).1 in
    let hit = hit_first (number_search w n) searched.0 (causes_absent _ _ searched.1).0 in
    let q = range_of_number n in
    let to = going-path w q (in_range q) hit.0 hit.1 hit.2 hit.3 hit.4 in
    let path = to.path in
    let from : (i : ℕ) → ancestor_at w n i ≡ Ok (ancestor_from w (node_at w path) (length path) i) = λ i.
    from_first w n i passes ∙ ap (λ (s : Search). shown (ancestor_from w (first_hit s) (first_spot_of s).level i)) hit.4 ∙ rw (to.ends, to.steps) in
    record {
      path = path;
      ends = to.ends ∙ ap first_hit (sym hit.4);
      cells = λ i le. from i ∙ ap shown (ancestor_on w (capacity_of w) path i to.parents le);
      end = λ i lt. from i ∙ ap shown (ancestor_past w (capacity_of w) path i lt);
    }

pub way_claim : WayClaim
unfolding ancestor_at
way_claim = record { refuses = λ w n i f e. rw e; shows = shows-way }

module _ {w : List ℕ} {b : Book} (h : Represents w b) where
  pub path-order : (n : ℕ) → first_fault (live_line w n) ≡ first_fault (causes h n)
  unfolding revoke_order first_fault
  path-order n = rw (represents_pool h, (number-found h n).whole, number_live-is_live h n)

  shows_zero : (i : ℕ) → ancestor_at w 0 i ≡ Err ZeroNumber
  unfolding ancestor_at first_fault
  shows_zero i = rw (path-order 0)

  -- whether the number is live, of a number that isn't 0
  module _ (n : ℕ) (some : ¬ (n ≡ 0)) where
    not-shown : is_live b n ≡ false → (i : ℕ) → ancestor_at w n i ≡ Err NotLive
    unfolding ancestor_at first_fault
    not-shown e i = rw (path-order n, ne_eqb n 0 some, e)

    from_hit : is_live b n ≡ true → (i : ℕ)
        → ancestor_at w n i ≡ Ok (ancestor_from w (first_hit (number_search w n)) (first_spot_of (number_search w n)).level i)
    unfolding ancestor_at first_fault
    from_hit e i = rw (path-order n, ne_eqb n 0 some, e)

  none-numbered : (n : ℕ) → ((g : Grant) → Memᴰ g b.live → ¬ (g.number ≡ n)) → is_live b n ≡ false
  none-numbered n others = go (is_live b n) refl
    where
      go : (t : Bool) → is_live b n ≡ t → t ≡ false
      go false e = refl
      go true e = let o = any_mem (λ g. eqb g.number n) b.live e in absurd (others o.0 o.1 (eqb-true o.0.number n o.2))

  module _ (g : Grant) (m : Memᴰ g b.live) where
    live : is_live b g.number ≡ true
    live = mem_any (λ x. eqb x.number g.number) m (eq-eqb g.number g.number refl)

    numbered : ¬ (g.number ≡ 0)
    numbered z = absurd (omega (arith, request-numbered (request_of g) (live-faultless h g m), z))

    -- the way up begins at the end of the grant's path, at the level of its length
    from-path : (p : List Side) → CarriedAt w g p → (i : ℕ) → ancestor_at w g.number i ≡ Ok (ancestor_from w (node_at w p) (length p) i)
    from-path p carried i =
        let found = first_found h g.number live in
        let cell = carried-cell h carried found.cell (hangs_cell found.hangs) found.number in
        let level = hangs_path h.linked found.hangs p cell in
        from_hit g.number numbered live i ∙ rw (found.first, found.place, level, cell)

    pub shows-path : ShowsPath w b.live g
    shows-path =
        let o = (represents_holds h).each g m in
        let p = o.0 in
        let reached = o.1.reached in
        record {
          path = p;
          carried = o.1;
          cells = λ i le.
              let on = ancestor_on w _ p i (linked_along h.linked p reached) le in
              showing (drop i p) (path-drop w p i reached) (from-path p o.1 i ∙ ap shown on);
          end = λ i lt. from-path p o.1 i ∙ ap shown (ancestor_past w b.capacity p i lt);
        }
      where
        showing : (p : List Side) → 0 < node_at w p → {a : Result (Option Ancestor) Fault}
            → a ≡ cell_shown (node_at w p) (length p) (grant_at w (node_at w p)) → ShowsCell w b.live p a
        showing p reached e =
            let m = linked_reached h.linked p reached in
            record {
              grant = grant_at w (node_at w p);
              live = live_represents h (grant_at w (node_at w p)) (Memᴰ.map (grant_at w) m);
              carried = record { reached = reached; carries = (h.carried (node_at w p) m).words };
              shown = e;
            }

  pub shows_paths : ShowsPaths w b.live
  shows_paths =
      record {
        live = shows-path;
        not_live = λ n i some others. not-shown n some (none-numbered n others) i;
        no_number = shows_zero;
      }

pub path_claim : PathClaim
unfolding PathClaim
path_claim c w gs made = shows_paths (made_represents made)
