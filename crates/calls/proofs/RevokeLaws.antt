-- revoke on words that stand for a plain book: it has the book's response, and the words then stand for what the book is then.
--   FirstFound w n t s   the cell of the number n: the search s has it as its first hit, and knows where it hangs in the tree t
--   first_found          so does the number's search, where the number is live
--   Removal h n          what an accepted revoke removes: that cell, by the terminal cell that its removal walk found
--   revoke_removes       so it is where the book's line has no cause
--   revoke-whole         no walk of revoke is broken
--   remove_represents    the words without a cell
--   revoke_refines
-- Assumes nothing.
use Prim.Native.Nat.{ℕ, suc}
use mathlib.Core.Path.{◌≡◌, refl, sym, ap, subst, ◌∙◌}
use mathlib.Core.Bool.{Bool, true, false, not, ◌&&◌, false≢true}
use mathlib.Core.List.{List, [], ◌∷◌, Memᴰ}
use Rattle.std.proofs.Common.{None}
use lib.Dec.{eqb}
use borrow.Author.Tests.{eqb-true, not-false}
use Rattle.lists.specs.Tests.{filter}
use Rattle.lists.proofs.TestLaws.{filter_mem}
use Rattle.lists.proofs.PermLaws.{perm_mem}
use Rattle.model.specs.declared.Fault.TheVariants.{ZeroNumber, NotLive}
use Rattle.model.specs.Refusal.{Cause, ◌if◌, first_fault}
use Rattle.model.specs.Arguments.{zero_number}
use Rattle.model.specs.Book.{Book, with_live, is_live, book_revoke}
use Rattle.model.proofs.RefusalLaws.{causes_absent}
use Rattle.model.proofs.Simulation.{Agrees, refusing-agrees}
use Rattle.geometry.specs.Levels.{levels}
use Rattle.geometry.specs.Region.{Region}
use Rattle.geometry.specs.SearchRange.{range_of_number}
use Rattle.geometry.specs.Point.{in_range}
use Rattle.geometry.proofs.SearchRangeLaws.{number-hits}
use Rattle.pool.specs.Layout.{root_place}
use Rattle.pool.specs.Cell.{grant_at}
use Rattle.adt.specs.Search.{Spot, Search}
use Rattle.adt.specs.Remove.{terminal, removed}
use Rattle.adt.proofs.Spells.{Tree, cells_of}
use Rattle.adt.proofs.PartLaws.{HangsAt}
use Rattle.adt.proofs.SearchLaws.{hits_in, Finds}
use Rattle.adt.proofs.FollowLaws.{terminal_from-ends, terminal_from-terminal}
use Rattle.adt.proofs.RemoveLaws.{Removed, remove-keeps_linked}
use Rattle.adt.proofs.LiveLaws.{removed-numbers, live-removed}
use Rattle.adt.proofs.CarriesLaws.{carries-removed}
use Rattle.calls.specs.Walks.{number_search, hits_of, first_hit, first_spot_of, removal_of}
use Rattle.calls.specs.Causes.{number_live, removal_broken, revoke_broken}
use Rattle.calls.specs.Order.{revoke_order}
use Rattle.calls.specs.Calls.{revoke_call, revoked_words}
use Rattle.calls.proofs.Represents.{Carried, Represents, represents_pool, range_finds}
use Rattle.calls.proofs.LiveNumberLaws.{number-found, number_live-is_live}

-- the words v without the cell k
module _ {w v : List ℕ} {b : Book} {k : ℕ} (h : Represents w b) (done : Removed w v b.capacity h.tree k h.free) where
  left-carried : (j : ℕ) → Memᴰ j (cells_of done.tree) → Carried v j (grant_at v j)
  left-carried j m =
      let old = h.carried j (perm_mem done.cells (Memᴰ.tail m)) in
      subst (Carried v j) (sym (done.others j m))
      (record { fits = old.fits; faultless = old.faultless; words = carries-removed done j (grant_at w j) m old.words })

  pub remove_represents : Represents v (with_live b (filter (λ g. not (eqb g.number (grant_at w k).number)) b.live))
  remove_represents = record {
    tree = done.tree;
    free = k ∷ h.free;
    linked = done.linked;
    some = h.some;
    few = h.few;
    carried = left-carried;
    distinct = removed-numbers done h.distinct;
    live = sym (live-removed done h.distinct) ∙ ap (filter (λ g. not (eqb g.number (grant_at w k).number))) h.live;
  }

pub record FirstFound (w : List ℕ) (n : ℕ) (t : Tree) (s : Search) : Type 0 where
  pub cell : ℕ
  pub spot : Spot
  pub first : first_hit s ≡ cell
  pub place : first_spot_of s ≡ spot
  pub hangs : HangsAt (suc levels) root_place t cell spot
  pub number : (grant_at w cell).number ≡ n

pub record Removal {w : List ℕ} {b : Book} (h : Represents w b) (n : ℕ) : Type 0 where
  pub found : FirstFound w n h.tree (number_search w n)
  pub leaf : ℕ
  pub leaf_at : ℕ
  pub ends : removal_of w (number_search w n) ≡ terminal leaf leaf_at
  pub done : Removed w (removed w found.cell found.spot.link leaf leaf_at) b.capacity h.tree found.cell h.free

module _ {w : List ℕ} {b : Book} (h : Represents w b) (n : ℕ) where
  pub first_found : is_live b n ≡ true → FirstFound w n h.tree (number_search w n)
  first_found live = go (hits_in w (in_range q) h.tree) refl (rw finds.found at (number_live-is_live h n ∙ live))
    where
      q : Region
      q = range_of_number n

      finds : Finds w (in_range q) h.tree (number_search w n)
      finds = range_finds h q

      go : (ks : List ℕ) → hits_in w (in_range q) h.tree ≡ ks → number_live ks ≡ true → FirstFound w n h.tree (number_search w n)
      go [] e some = absurd (false≢true some)
      go (k ∷ ks) e some =
          let hit = filter_mem (λ j. in_range q (grant_at w j)) (cells_of h.tree) k (rw e (Memᴰ.head refl)) in
          record {
            cell = k;
            spot = finds.first;
            first = rw (finds.found, e);
            place = rw finds.found;
            hangs = finds.hangs k ks e;
            number = eqb-true (grant_at w k).number n (sym (number-hits (grant_at w k) (h.carried k hit.0).fits n) ∙ hit.1);
          }

  -- the removal walk from the cell of the number
  module _ (found : FirstFound w n h.tree (number_search w n)) where
    leaf : ℕ
    leaf = (terminal_from-ends h.linked found.hangs).leaf

    leaf_at : ℕ
    leaf_at = (terminal_from-ends h.linked found.hangs).leaf_at

    removal_ends : removal_of w (number_search w n) ≡ terminal leaf leaf_at
    unfolding leaf leaf_at
    removal_ends = rw (found.first, found.place) (terminal_from-terminal h.linked found.hangs)

  pub revoke-whole : revoke_broken w n ≡ false
  unfolding revoke_broken
  revoke-whole = rw ((number-found h n).whole, number_live-is_live h n) (go (is_live b n) first_found)
    where
      go : (live : Bool) → (live ≡ true → FirstFound w n h.tree (number_search w n)) → (live && removal_broken (removal_of w (number_search w n))) ≡ false
      go true f = rw (removal_ends (f refl))
      go false f = refl

  -- the causes of the book's line
  abbrev pub causes : List Cause
  causes = ZeroNumber if zero_number n ∷ NotLive if not (is_live b n) ∷ []

  pub revoke-order : first_fault (revoke_order w n (revoke_broken w n) (hits_of (number_search w n))) ≡ first_fault causes
  unfolding revoke_order first_fault
  revoke-order = rw (represents_pool h, revoke-whole, number_live-is_live h n)

  pub revoke_removes : first_fault causes ≡ None → Removal h n
  revoke_removes e =
      let live = causes_absent _ _ (causes_absent _ _ e).1 in
      let found = first_found (not-false (is_live b n) live.0) in
      let ends = removal_ends found in
      record {
        found = found;
        leaf = leaf found;
        leaf_at = leaf_at found;
        ends = ends;
        done = remove-keeps_linked h.linked found.hangs (rw (found.first, found.place) at ends);
      }

  revoked : first_fault causes ≡ None
      → Represents (revoked_words w (first_hit (number_search w n)) (first_spot_of (number_search w n)).link (removal_of w (number_search w n)))
      (with_live b (filter (λ g. not (eqb g.number n)) b.live))
  revoked e =
      let r = revoke_removes e in
      rw (r.ends, r.found.first, r.found.place) (rw r.found.number at (remove_represents h r.done))

  pub revoke_refines : Agrees Represents (revoke_call w n) (book_revoke b n)
  unfolding revoke_call book_revoke
  revoke_refines = refusing-agrees Represents _ causes [] _ _ h revoke-order (λ e. record { same = refl; related = revoked e })
