-- list, decide and count on words that stand for a plain book: they have the book's responses, and the words stay.
--   quarter-found      a search of one quarter finds the grants that overlap the box, at the highest quarter none
--   list_refines, decide_refines, count_refines
-- Assumes nothing.
use Prim.Native.Nat.{ℕ, ◌+◌, ◌<◌}
use mathlib.Core.Path.{◌≡◌, refl, sym, ap, ◌∙◌}
use mathlib.Core.Bool.{Bool, true, false, cond}
use mathlib.Core.List.{List, [], ◌∷◌, map}
use Rattle.std.proofs.Common.{None}
use native.Mathlib.Omega.{arith}
use lib.Dec.{ltb}
use lib.ListN.{length, length-map}
use Rattle.lists.specs.Tests.{filter}
use Rattle.lists.specs.Sort.{sort_by}
use Rattle.lists.proofs.TestLaws.{filter_none, filter_all}
use Rattle.lists.proofs.DistinctLaws.{distinct_none}
use Rattle.lists.proofs.SortLaws.{perm_sort_by, map-sort_by}
use Rattle.model.specs.declared.Box.{Box}
use Rattle.model.specs.declared.Grant.{Grant}
use Rattle.model.specs.declared.Choice.{Choice}
use Rattle.model.specs.declared.Choice.TheVariants.{Touching}
use Rattle.model.specs.declared.Fault.TheVariants.{Reversed, BrokenLinks, ListTooShort}
use Rattle.model.specs.Quarters.{coverable}
use Rattle.model.specs.Box.{point_box}
use Rattle.model.specs.Overlap.{overlaps}
use Rattle.model.specs.Relation.{taken}
use Rattle.model.specs.Refusal.{◌if◌, first_fault}
use Rattle.model.specs.Arguments.{reversed_box}
use Rattle.model.specs.Decide.{decide_among}
use Rattle.model.specs.Book.{Book, taken_for, book_list, book_decide, book_count}
use Rattle.model.proofs.QuarterLaws.{uncoverable_apart, forward_quarters}
use Rattle.model.proofs.RelationLaws.{taken-overlaps, taken-touching}
use Rattle.model.proofs.DecideLaws.{decide_among_perm}
use Rattle.model.proofs.RefusalLaws.{causes_absent}
use Rattle.model.proofs.Simulation.{Agrees, refusing-agrees, accepting_agrees}
use Rattle.geometry.specs.SearchRange.{range_of_box, range_of_all}
use Rattle.geometry.proofs.SearchRangeLaws.{box_hits_lem, all_hits}
use Rattle.pool.specs.Capacity.{wrong_pool}
use Rattle.adt.specs.Search.{Search}
use Rattle.calls.specs.Walks.{box_search, no_walk, quarter_search, full_search, hits_of, grants_hit}
use Rattle.calls.specs.Order.{list_order, look_order}
use Rattle.calls.specs.Calls.{list_call, decide_call, count_call}
use Rattle.calls.proofs.Represents.{grant_number, Represents, represents_pool, represents_capacity, represents_fits, represents_live}
use Rattle.calls.proofs.Represents.{Hits, represents_hits, range-hits}

-- the order lines where the pool is right and no walk is broken; of a box that is refused nothing else matters
list-order : (w : List ℕ) (q : Box) (lent : List ℕ) {broken : Bool} (hits numbers : List ℕ) → wrong_pool w ≡ false
    → (reversed_box q ≡ false → broken ≡ false) → (reversed_box q ≡ false → length hits ≡ length numbers)
    → first_fault (list_order w q lent broken hits)
    ≡ first_fault (Reversed if reversed_box q ∷ ListTooShort (length numbers) if ltb (length lent) (length numbers) ∷ [])
unfolding list_order first_fault
list-order w q lent {broken} hits numbers pool whole long = rw pool (go (reversed_box q) whole long)
  where
    go : (t : Bool) → (t ≡ false → broken ≡ false) → (t ≡ false → length hits ≡ length numbers)
        → first_fault (Reversed if t ∷ BrokenLinks if broken ∷ ListTooShort (length hits) if ltb (length lent) (length hits) ∷ [])
        ≡ first_fault (Reversed if t ∷ ListTooShort (length numbers) if ltb (length lent) (length numbers) ∷ [])
    go true whole long = refl
    go false whole long = rw (whole refl, long refl)

look_order_lem : (w : List ℕ) {broken : Bool} → wrong_pool w ≡ false → broken ≡ false → first_fault (look_order w broken) ≡ None
unfolding look_order first_fault
look_order_lem w pool whole = rw (pool, whole)

-- what decides among the grants hit
hits-decide : {w : List ℕ} {gs : List Grant} {t : Grant → Bool} {s : Search} → Hits w gs t s → decide_among (grants_hit w s) ≡ decide_among (filter t gs)
hits-decide {w} {s = s} h = decide_among_perm (perm_sort_by grant_number (grants_hit w s)) h.distinct ∙ ap decide_among h.grants

-- the numbers of the grants hit, sorted
hits-numbers : {w : List ℕ} {gs : List Grant} {t : Grant → Bool} {s : Search} → Hits w gs t s
    → sort_by (λ n. n) (map grant_number (grants_hit w s)) ≡ map grant_number (filter t gs)
hits-numbers {w} {s = s} h = sym (map-sort_by grant_number (grants_hit w s)) ∙ ap (map grant_number) h.grants

module _ {w : List ℕ} {b : Book} (h : Represents w b) where
  -- what is taken overlaps, so it lies in the search range of a box that covers a quarter
  module _ (q : Box) (choice : Choice) (some : q.quarter_from < q.quarter_to) (t : Grant → Bool) (says : (g : Grant) → taken choice q g ≡ t g) where
    box_found : Hits w b.live t (box_search w q choice)
    box_found =
        represents_hits h (range_of_box q) (taken choice q) t
        (λ g fits e. box_hits_lem g fits q some ∙ taken-overlaps choice q g e)
        (λ g fits. says g)

  none_found : (q : Box) → coverable q.quarter_from ≡ false → Hits w b.live (λ g. overlaps g.bounds q) no_walk
  unfolding sort_by
  none_found q late =
      let none = filter_none (λ g. overlaps g.bounds q) b.live
      (λ g m. uncoverable_apart g.bounds q (represents_fits h g (represents_live h g m)).bounds late) in
      record { whole = refl; grants = sym none; distinct = distinct_none; count = ap length (sym none) }

  pub quarter-found : (q : Box) → q.quarter_to ≡ q.quarter_from + 1 → Hits w b.live (λ g. overlaps g.bounds q) (quarter_search w q)
  quarter-found q one = go (coverable q.quarter_from) refl
    where
      go : (t : Bool) → coverable q.quarter_from ≡ t → Hits w b.live (λ g. overlaps g.bounds q) (cond t (box_search w q Touching) no_walk)
      go true e = box_found q Touching (omega (arith, one)) _ (taken-touching q)
      go false e = none_found q e

  pub list_refines : (q : Box) (choice : Choice) (lent : List ℕ) → Agrees Represents (list_call w q choice lent) (book_list b q choice lent)
  unfolding list_call book_list
  list_refines q choice lent =
      let s = box_search w q choice in
      let numbers = map grant_number (taken_for q choice b.live) in
      let found : reversed_box q ≡ false → Hits w b.live (taken choice q) s =
      λ e. box_found q choice (forward_quarters q e) (taken choice q) (λ g. refl) in
      let long : reversed_box q ≡ false → length (hits_of s) ≡ length numbers =
      λ e. (found e).count ∙ sym (length-map (taken_for q choice b.live) grant_number) in
      refusing-agrees Represents _ _ lent _ _ h
      (list-order w q lent (hits_of s) numbers (represents_pool h) (λ e. (found e).whole) long)
      (λ none. let e = (causes_absent _ _ none).0 in record { same = rw (long e, hits-numbers (found e)); related = h })

  pub decide_refines : (staff door quarter : ℕ) → Agrees Represents (decide_call w staff door quarter) (book_decide b staff door quarter)
  unfolding decide_call book_decide
  decide_refines staff door quarter =
      let found = quarter-found (point_box staff door quarter) refl in
      accepting_agrees Represents _ w [] _ _ (look_order_lem w (represents_pool h) found.whole)
      (record { same = rw (hits-decide found); related = h })

  pub count_refines : Agrees Represents (count_call w) (book_count b)
  unfolding count_call book_count
  count_refines =
      let found = range-hits h range_of_all (λ g. true) (λ g fits. all_hits g fits) in
      let live : length (hits_of (full_search w)) ≡ length b.live = found.count ∙ ap length (filter_all (λ g. true) b.live (λ g m. refl)) in
      accepting_agrees Represents _ w [] _ _ (look_order_lem w (represents_pool h) found.whole)
      (record { same = rw (live, represents_capacity h); related = h })
