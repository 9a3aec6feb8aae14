-- When the words of a pool stand for a plain book.
--   Carried w k g          the cell k carries g, which has values that fit and no fault of a request
--   Represents w b         the links hold together (adt/proofs/Linked), each cell of the tree carries such a grant, no two of one number,
--                          and these grants, sorted, are the live ones
--   represents_pool, represents_capacity     no fault 1; C is the book's
--   represents_cell, represents_fits         the grants in the cells of the tree, each in its cell; they fit
--   live-faultless                           a live grant, asked for, has no fault
--   represents_live, live_represents         the live grants are these
--   live-distinct, represents_rises          their numbers differ, and ascend
--   represents_count       live grants and free cells are C together
--   cells-distinct         no cell is in the tree twice
--   represents_finds, range_finds   what a search finds in the tree, by a test that only what is in its range passes, and by its range
--   Hits w gs t s          the search s is whole, and hits those of the grants gs that pass t
--   represents_hits, range-hits     so does every search whose test, or whose range, says of each grant what t says
-- Assumes nothing.
use Prim.Native.Nat.{ℕ, ◌+◌, ◌≤◌}
use mathlib.Core.Path.{◌≡◌, refl, sym, ap, subst, ◌∙◌}
use mathlib.Core.Bool.{Bool, true, false}
use mathlib.Core.List.Memᴰ
use mathlib.Core.List.{List, map, Memᴰ}
use native.Mathlib.Omega.{arith}
use lib.ListN.{length, length-map}
use Rattle.lists.specs.Tests.{filter}
use Rattle.lists.specs.Sort.{sort_by}
use Rattle.lists.proofs.TestLaws.{filter_map, filter_same}
use Rattle.lists.proofs.DistinctLaws.{Distinct, distinct-left}
use Rattle.lists.proofs.KeyLaws.{distinct-keys-filter}
use Rattle.lists.proofs.PermLaws.{perm_map, perm_distinct}
use Rattle.lists.proofs.SortLaws.{Rises, perm_sort_by, length-sort_by, mem_sort_by, sort_by_mem, sort_by_ascends, ascends_rises, filter-sort_by}
use Rattle.model.specs.declared.Grant.{Grant}
use Rattle.model.specs.Limits.{max_grants}
use Rattle.model.specs.Judged.{NoneOf}
use Rattle.model.specs.Call.{request_of}
use Rattle.model.specs.Arguments.{request_causes}
use Rattle.model.specs.Values.{GrantFits}
use Rattle.model.specs.Book.{Book}
use Rattle.geometry.specs.Region.{Region}
use Rattle.geometry.specs.Point.{in_range}
use Rattle.pool.specs.Capacity.{capacity_of, wrong_pool}
use Rattle.pool.specs.Cell.{grant_at}
use Rattle.pool.proofs.CapacityLaws.{wrong_pool_iff}
use Rattle.adt.specs.Search.{Search, search_by, search}
use Rattle.adt.specs.Reach.{Carries}
use Rattle.adt.proofs.Spells.{Tree, cells_of}
use Rattle.adt.proofs.TreeLaws.{cells-size}
use Rattle.adt.proofs.LiveLaws.{grants_of, numbers_of}
use Rattle.adt.proofs.SearchLaws.{hits_in, Finds, search_finds}
use Rattle.adt.proofs.Linked.{Linked, linked_distinct, linked_count, linked_capacity}
use Rattle.calls.specs.Walks.{is_broken, hits_of, grants_hit}

abbrev pub grant_number : Grant → ℕ
grant_number g = g.number

pub record Carried (w : List ℕ) (k : ℕ) (g : Grant) : Type 0 where
  pub fits : GrantFits g
  pub faultless : NoneOf (request_causes (request_of g))
  pub words : Carries w k g

pub record Represents (w : List ℕ) (b : Book) : Type 0 where
  pub tree : Tree
  pub free : List ℕ
  pub linked : Linked w b.capacity tree free
  pub some : 1 ≤ b.capacity
  pub few : b.capacity ≤ max_grants
  pub carried : (k : ℕ) → Memᴰ k (cells_of tree) → Carried w k (grant_at w k)
  pub distinct : Distinct (numbers_of w tree)
  pub live : sort_by grant_number (grants_of w tree) ≡ b.live

-- a search that is whole, and what it hits
pub record Hits (w : List ℕ) (gs : List Grant) (t : Grant → Bool) (s : Search) : Type 0 where
  pub whole : is_broken s ≡ false
  pub grants : sort_by grant_number (grants_hit w s) ≡ filter t gs
  pub distinct : Distinct (map grant_number (grants_hit w s))
  pub count : length (hits_of s) ≡ length (filter t gs)

module _ {w : List ℕ} {b : Book} (h : Represents w b) where
  pub represents_pool : wrong_pool w ≡ false
  represents_pool = (wrong_pool_iff w).1 (b.capacity, record { some = h.some; few = h.few; long = h.linked.long }, h.linked.capacity)

  pub represents_capacity : capacity_of w ≡ b.capacity
  represents_capacity = linked_capacity h.linked

  pub represents_cell : (g : Grant) → Memᴰ g (grants_of w h.tree) → (k : ℕ) × Memᴰ k (cells_of h.tree) × (grant_at w k ≡ g)
  represents_cell g m = Memᴰ.of_map (grant_at w) (cells_of h.tree) m

  pub represents_fits : (g : Grant) → Memᴰ g (grants_of w h.tree) → GrantFits g
  represents_fits g m = let o = represents_cell g m in subst GrantFits o.2 (h.carried o.0 o.1).fits

  pub represents_live : (g : Grant) → Memᴰ g b.live → Memᴰ g (grants_of w h.tree)
  represents_live g m = sort_by_mem grant_number (grants_of w h.tree) (rw h.live m)

  pub live-faultless : (g : Grant) → Memᴰ g b.live → NoneOf (request_causes (request_of g))
  live-faultless g m =
      let o = represents_cell g (represents_live g m) in
      subst (λ (x : Grant). NoneOf (request_causes (request_of x))) o.2 (h.carried o.0 o.1).faultless

  pub live_represents : (g : Grant) → Memᴰ g (grants_of w h.tree) → Memᴰ g b.live
  live_represents g m = rw h.live at (mem_sort_by grant_number m)

  pub live-distinct : Distinct (map grant_number b.live)
  live-distinct = rw h.live at (perm_distinct (perm_map grant_number (perm_sort_by grant_number (grants_of w h.tree))) h.distinct)

  pub represents_rises : Rises grant_number b.live
  represents_rises = ascends_rises grant_number (rw h.live at (sort_by_ascends grant_number (grants_of w h.tree))) live-distinct

  pub represents_count : length b.live + length h.free ≡ b.capacity
  represents_count =
      omega (
        arith,
        linked_count h.linked,
        cells-size h.tree,
        length-map (cells_of h.tree) (grant_at w),
        length-sort_by grant_number (grants_of w h.tree),
        ap length h.live,
      )

  pub cells-distinct : Distinct (cells_of h.tree)
  cells-distinct = distinct-left (cells_of h.tree) h.free (linked_distinct h.linked)

  -- the search finds what passes, where nothing passes that lies outside the range
  module _ (q : Region) (passes : Grant → Bool) (narrows : (g : Grant) → GrantFits g → passes g ≡ true → in_range q g ≡ true) where
    pub represents_finds : Finds w passes h.tree (search_by w q passes)
    represents_finds =
        search_finds q passes h.linked.spells h.linked.parents cells-distinct represents_capacity (λ k m. narrows (grant_at w k) (h.carried k m).fits)

  pub range_finds : (q : Region) → Finds w (in_range q) h.tree (search w q)
  range_finds q = represents_finds q (in_range q) (λ g fits e. e)

  -- and the live grants that pass are those of t
  module _ (q : Region) (passes t : Grant → Bool) (narrows : (g : Grant) → GrantFits g → passes g ≡ true → in_range q g ≡ true)
      (says : (g : Grant) → GrantFits g → passes g ≡ t g) where
    hit_grants : map (grant_at w) (hits_in w passes h.tree) ≡ filter t (grants_of w h.tree)
    hit_grants =
        sym (filter_map passes (grant_at w) (cells_of h.tree))
        ∙ filter_same passes t (grants_of w h.tree) (λ g m. says g (represents_fits g m))

    hit_live : sort_by grant_number (filter t (grants_of w h.tree)) ≡ filter t b.live
    hit_live = sym (filter-sort_by grant_number t (grants_of w h.tree)) ∙ ap (filter t) h.live

    pub represents_hits : Hits w b.live t (search_by w q passes)
    represents_hits =
        rw (represents_finds q passes narrows).found
        (record {
          whole = refl;
          grants = ap (sort_by grant_number) hit_grants ∙ hit_live;
          distinct = rw hit_grants (distinct-keys-filter grant_number t (grants_of w h.tree) h.distinct);
          count =
              sym (length-map (hits_in w passes h.tree) (grant_at w))
              ∙ ap length hit_grants
              ∙ sym (length-sort_by grant_number (filter t (grants_of w h.tree)))
              ∙ ap length hit_live;
        })

  pub range-hits : (q : Region) (t : Grant → Bool) → ((g : Grant) → GrantFits g → in_range q g ≡ t g) → Hits w b.live t (search w q)
  range-hits q t says = represents_hits q (in_range q) t (λ g fits e. e) says
