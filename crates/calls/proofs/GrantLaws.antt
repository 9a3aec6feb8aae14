-- grant on words that stand for a plain book: it has the book's response, and the words then stand for what the book is then.
--   grant-whole         no walk of grant is broken: 112 levels are enough
--   Insertion h r       what an accepted grant inserts: its way down, and the words with the free head's cell hung there
--   grant_inserts       so it is where the book's line has no cause
--   insert_represents   the words with the grant added where its way leads
--   grant_refines
-- Assumes nothing.
use Prim.Native.Nat.{ℕ, ◌+◌}
use mathlib.Core.Logic.{◌⊎◌, inl, inr}
use mathlib.Core.Path.{◌≡◌, refl, sym, ap, subst, ◌∙◌}
use mathlib.Core.Bool.{Bool, true, false, not, ◌&&◌, ◌||◌}
use mathlib.Core.List.Memᴰ
use mathlib.Core.List.{List, [], ◌∷◌, ◌++◌, Memᴰ}
use Rattle.std.proofs.Common.{None}
use native.Mathlib.Omega.{arith}
use lib.Dec.{eqb}
use lib.ListN.{length}
use borrow.Author.Tests.{eqb-false}
use Rattle.lists.specs.Sort.{insert_by}
use Rattle.lists.proofs.PermLaws.{put_mem}
use Rattle.model.specs.declared.Grant.{Grant}
use Rattle.model.specs.declared.Fault.TheVariants.{AlreadyLive, Full}
use Rattle.model.specs.Refusal.{Cause, ◌if◌, first_fault}
use Rattle.model.specs.Judged.{NoneOf}
use Rattle.model.specs.Arguments.{request_causes}
use Rattle.model.specs.Call.{Request, requested, request_of}
use Rattle.model.specs.Values.{GrantFits, RequestFits}
use Rattle.model.specs.Book.{Book, with_live, is_live, book_grant}
use Rattle.model.proofs.RefusalLaws.{causes_absent, append_absent}
use Rattle.model.proofs.JudgedLaws.{none_of_iff}
use Rattle.model.proofs.ArgumentLaws.{requested-faultless}
use Rattle.model.proofs.Simulation.{Agrees, refusing-agrees}
use Rattle.geometry.specs.Region.{root_region}
use Rattle.geometry.specs.Point.{inside, point_of}
use Rattle.geometry.proofs.PointLaws.{numbers-differ}
use Rattle.geometry.proofs.SearchRangeLaws.{all_hits}
use Rattle.pool.specs.Cell.{grant_at}
use Rattle.adt.specs.Insert.{blank_at, free_broken, inserted}
use Rattle.adt.proofs.Spells.{cells_of}
use Rattle.adt.proofs.ChainLaws.{chain_none, free_broken_chain}
use Rattle.adt.proofs.DescentLaws.{Leads, descend-leads}
use Rattle.adt.proofs.Linked.{Linked}
use Rattle.adt.proofs.LiveLaws.{numbers_of, inserted-numbers, live-inserted}
use Rattle.adt.proofs.CarriesLaws.{carries-inserted, carries-inserted_other}
use Rattle.adt.proofs.InsertLaws.{Inserted, insert-keeps_linked}
use Rattle.calls.specs.Walks.{number_search, hits_of, insertion_walk}
use Rattle.calls.specs.Causes.{insertion_broken, grant_broken}
use Rattle.calls.specs.Order.{grant_order}
use Rattle.calls.specs.Calls.{grant_call, granted_words}
use Rattle.calls.proofs.Represents.{grant_number, Carried, Represents, represents_pool, represents_capacity, represents_count, cells-distinct}
use Rattle.calls.proofs.LiveNumberLaws.{number-found, number_live-is_live, not_live}

-- the words v with the cell k put in, which carries g
module _ {w v : List ℕ} {b : Book} {k : ℕ} {ks : List ℕ} {g : Grant} (h : Represents w b) (linked : Linked w b.capacity h.tree (k ∷ ks))
    (done : Inserted w v b.capacity h.tree k ks g) (fits : GrantFits g) (faultless : NoneOf (request_causes (request_of g)))
    (new : ¬ Memᴰ g.number (numbers_of w h.tree)) where
  new_carried : Carried v k g
  new_carried = record { fits = fits; faultless = faultless; words = carries-inserted linked done }

  old_carried : (j : ℕ) → Memᴰ j (cells_of h.tree) → Carried v j (grant_at v j)
  old_carried j m =
      let old = h.carried j m in
      subst (Carried v j) (sym (done.others j m))
      (record { fits = old.fits; faultless = old.faultless; words = carries-inserted_other linked done j (grant_at w j) m old.words })

  all_carried : (j : ℕ) → Memᴰ j (cells_of done.tree) → Carried v j (grant_at v j)
  all_carried j m = go (put_mem done.cells m)
    where
      go : (j ≡ k) ⊎ Memᴰ j (cells_of h.tree) → Carried v j (grant_at v j)
      go (inl e) = subst (λ (i : ℕ). Carried v i (grant_at v i)) (sym e) (subst (Carried v k) (sym done.grant) new_carried)
      go (inr i) = old_carried j i

  pub insert_represents : Represents v (with_live b (insert_by grant_number g b.live))
  insert_represents = record {
    tree = done.tree;
    free = ks;
    linked = done.linked;
    some = h.some;
    few = h.few;
    carried = all_carried;
    distinct = inserted-numbers done new h.distinct;
    live = live-inserted done new h.distinct ∙ ap (insert_by grant_number g) h.live;
  }

pub record Insertion {w : List ℕ} {b : Book} (h : Represents w b) (r : Request) : Type 0 where
  pub link : ℕ
  pub parent : ℕ
  pub cell : ℕ
  pub rest : List ℕ
  pub way : insertion_walk w r ≡ blank_at link parent
  pub linked : Linked w b.capacity h.tree (cell ∷ rest)
  pub done : Inserted w (inserted w link parent (requested r)) b.capacity h.tree cell rest (requested r)

module _ {w : List ℕ} {b : Book} (h : Represents w b) (r : Request) (fits : RequestFits r) where
  request-fits : GrantFits (requested r)
  request-fits = record { number = fits.number; rank = fits.rank; bounds = fits.bounds }

  request-inside : inside root_region (point_of (requested r)) ≡ true
  request-inside = all_hits (requested r) request-fits

  request-leads : is_live b r.number ≡ false → Leads w (point_of (requested r)) h.tree
  request-leads new =
      let n = not_live h r.number new in
      descend-leads (point_of (requested r)) h.linked.spells h.linked.parents (cells-distinct h) (represents_capacity h) request-inside
      (λ k m. numbers-differ (requested r) (grant_at w k) (λ e. n (Memᴰ.cast e (Memᴰ.map grant_number (Memᴰ.map (grant_at w) m)))))

  pub grant-whole : grant_broken w r ≡ false
  unfolding grant_broken
  grant-whole = rw ((number-found h r.number).whole, number_live-is_live h r.number) (go (is_live b r.number) request-leads)
    where
      go : (live : Bool) → (live ≡ false → Leads w (point_of (requested r)) h.tree)
          → (not live && (insertion_broken (insertion_walk w r) || free_broken w)) ≡ false
      go true f = refl
      go false f = rw (f refl).way (free_broken_chain w (represents_capacity h) h.linked.free)

  -- the causes of the book's line
  abbrev pub causes : List Cause
  causes = request_causes r ++ (AlreadyLive if is_live b r.number ∷ Full if eqb (length b.live) b.capacity ∷ [])

  pub grant-order : first_fault (grant_order w r (grant_broken w r) (hits_of (number_search w r.number))) ≡ first_fault causes
  unfolding grant_order first_fault
  grant-order =
      rw (represents_pool h, grant-whole, number_live-is_live h r.number, chain_none (length b.live) h.linked.free (represents_count h))

  -- what the book's line says where it has no cause
  record Taken : Type 0 where
    faultless : NoneOf (request_causes r)
    new : is_live b r.number ≡ false
    room : ¬ (length b.live ≡ b.capacity)

  taken : first_fault causes ≡ None → Taken
  taken e =
      let parts = append_absent (request_causes r) _ e in
      let new = causes_absent _ _ parts.1 in
      let full = causes_absent _ _ new.1 in
      record {
        faultless = (none_of_iff (request_causes r)).1 parts.0;
        new = new.0;
        room = eqb-false (length b.live) b.capacity full.0;
      }

  pub grant_inserts : first_fault causes ≡ None → Insertion h r
  grant_inserts e = go h.free h.linked (represents_count h) (request-leads (taken e).new) (taken e).room
    where
      go : (ks : List ℕ) → Linked w b.capacity h.tree ks → length b.live + length ks ≡ b.capacity → Leads w (point_of (requested r)) h.tree
          → ¬ (length b.live ≡ b.capacity) → Insertion h r
      go [] linked count leads room = absurd (omega arith)
      go (k ∷ ks) linked count leads room =
          record {
            link = leads.link;
            parent = leads.parent;
            cell = k;
            rest = ks;
            way = leads.way;
            linked = linked;
            done = insert-keeps_linked linked request-fits request-inside leads.way;
          }

  granted : first_fault causes ≡ None → Represents (granted_words w r (insertion_walk w r)) (with_live b (insert_by grant_number (requested r) b.live))
  granted e =
      let t = taken e in
      let i = grant_inserts e in
      rw i.way (insert_represents h i.linked i.done request-fits (requested-faultless r t.faultless) (not_live h r.number t.new))

  pub grant_refines : Agrees Represents (grant_call w r) (book_grant b r)
  unfolding grant_call book_grant
  grant_refines = refusing-agrees Represents _ causes [] _ _ h grant-order (λ e. record { same = refl; related = granted e })
