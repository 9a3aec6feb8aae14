-- Grants in a row on words that stand for a plain book, and load (document 01, "The grants file").
--   Grantable g             a grant that grant takes: its values fit, and they have no fault of a grant's arguments
--   requested-request_of     what grant adds of a grant that is asked for whole
--   request_of-fits          a grant that fits, as grant takes it
--   absent_not-live         a number that no live grant has is not live
--   grant_adds              grant takes it, where its number is new and a cell is free
--   grant_all_represents     so it does a list of grants of differing numbers, where cells are enough
--   set_grantable           the grants of a set are such
--   set_represents          the set of a file, granted to a fresh index in any order
--   load_set                what load answers and leaves, of the file of a set
--   load_represents         the words then stand for the book that holds it
--   accepted_represents     so they do for the grants in every file that load accepts
--   load-refuses            load of a file that is refused
-- Assumes nothing.
use Prim.Native.Nat.{ℕ, ◌+◌, ◌≤◌, ◌<◌}
use mathlib.Core.Path.{◌≡◌, refl, sym, ap}
use mathlib.Core.Bool.{Bool, true, false, cond}
use mathlib.Core.List.Memᴰ
use mathlib.Core.List.{List, [], ◌∷◌, ◌++◌, map, map-append, append-nil, Memᴰ}
use Rattle.std.proofs.Common.{None, Some}
use native.Mathlib.Omega.{arith}
use lib.Dec.{eqb}
use lib.ListN.{length}
use borrow.Author.Tests.{ltb-false, le-ltb, eqb-true, ne_eqb}
use Rattle.lists.specs.Sort.{insert_by, sort_by}
use Rattle.lists.proofs.DistinctLaws.{Distinct, distinct_more}
use Rattle.lists.proofs.KeyLaws.{any_mem}
use Rattle.lists.proofs.PermLaws.{put_append_right, put_perm, length_put, Perm, perm_sym, perm_mem, perm_map, perm_distinct, length_perm}
use Rattle.lists.proofs.SortLaws.{put_insert_by, perm_sort_by, rises_ascends, rises_distinct, ascends_sort_by, sort_by_put}
use Rattle.model.specs.declared.Grant.{Grant}
use Rattle.model.specs.declared.Fault.{Fault}
use Rattle.model.specs.declared.Fault.TheVariants.{BadPool}
use Rattle.model.specs.Interval.{Interval}
use Rattle.model.specs.Judged.{NoneOf}
use Rattle.model.specs.Arguments.{request_causes}
use Rattle.model.specs.Refusal.{first_fault, refusing}
use Rattle.model.specs.Answer.{accepted, refusal}
use Rattle.model.specs.Call.{request_of}
use Rattle.model.specs.Values.{byte_values, Below, GrantFits, RequestFits}
use Rattle.model.specs.Book.{Book, book_of, with_live, is_live, book_grant}
use Rattle.model.specs.Histories.{Response}
use Rattle.model.proofs.RefusalLaws.{causes_absent, first_fault-append, refusing-front, append_absent, accepted-none}
use Rattle.model.proofs.JudgedLaws.{none_of_iff}
use Rattle.model.proofs.ArgumentLaws.{requested-request_of}
use Rattle.pool.specs.Capacity.{capacity_of, wrong_length}
use Rattle.pool.specs.Fresh.{fresh_pool}
use Rattle.pool.proofs.CapacityLaws.{Sized, capacity_of-pool_length, wrong_length_iff}
use Rattle.grants_file.specs.File.{file_of, total_in, grants_in}
use Rattle.grants_file.specs.Verdict.{file_causes}
use Rattle.grants_file.specs.FileSets.{Accepted, FileSet, Ordering}
use Rattle.grants_file.proofs.FileLaws.{total_in-file_of, grants_in-file_of}
use Rattle.grants_file.proofs.VerdictLaws.{file_of-accepted, accepted-files}
use Rattle.grants_file.proofs.SetLaws.{set_rises, set-sorted}
use Rattle.calls.specs.Order.{load_order}
use Rattle.calls.specs.Calls.{grant_call}
use Rattle.calls.specs.FileCalls.{grant_all, load_call}
use Rattle.calls.proofs.Represents.{grant_number, Represents, represents_rises}
use Rattle.calls.proofs.StartLaws.{represents_fresh_pool}
use Rattle.calls.proofs.GrantLaws.{grant_refines}

pub record Grantable (g : Grant) : Type 0 where
  pub fits : GrantFits g
  pub faultless : NoneOf (request_causes (request_of g))

pub request_of-fits : {g : Grant} → GrantFits g → RequestFits (request_of g)
request_of-fits f = record { number = f.number; rank = f.rank; bounds = f.bounds }

-- the book takes such a grant
book_grant_adds : (b : Book) (g : Grant) → Grantable g → is_live b g.number ≡ false → length b.live < b.capacity
    → book_grant b (request_of g) ≡ record { state = with_live b (insert_by grant_number g b.live); answer = accepted []; lent = [] }
unfolding book_grant refusing first_fault
book_grant_adds b g t new room =
    rw (
      first_fault-append (request_causes (request_of g)) _ ((none_of_iff (request_causes (request_of g))).0 t.faultless),
      new,
      ne_eqb (length b.live) b.capacity (λ e. omega arith),
    )
    (ap (λ (x : Grant). record { state = with_live b (insert_by grant_number x b.live); answer = accepted []; lent = [] }) (requested-request_of g))

module _ {w : List ℕ} {b : Book} (h : Represents w b) (g : Grant) (t : Grantable g) (new : is_live b g.number ≡ false)
    (room : length b.live < b.capacity) where
  pub grant_adds : ((grant_call w (request_of g)).answer ≡ accepted [])
      × Represents (grant_call w (request_of g)).state (with_live b (insert_by grant_number g b.live))
  grant_adds =
      let agrees = rw (book_grant_adds b g t new room) at (grant_refines h (request_of g) (request_of-fits t.fits)) in
      (ap (λ (x : Response). x.answer) agrees.same, agrees.related)

-- a number that no live grant has is not live
pub absent_not-live : (b : Book) (n : ℕ) → ¬ Memᴰ n (map grant_number b.live) → is_live b n ≡ false
absent_not-live b n absent = go (is_live b n) refl
  where
    go : (live : Bool) → is_live b n ≡ live → live ≡ false
    go true e =
        let o = any_mem (λ g. eqb g.number n) b.live e in
        absurd (absent (Memᴰ.cast (sym (eqb-true o.0.number n o.2)) (Memᴰ.map grant_number o.1)))
    go false e = refl

pub grant_all_represents : {w : List ℕ} {b : Book} (gs : List Grant) → Represents w b → ((g : Grant) → Memᴰ g gs → Grantable g)
    → Distinct (map grant_number (gs ++ b.live)) → length gs + length b.live ≤ b.capacity
    → Represents (grant_all w gs) (with_live b (sort_by grant_number (gs ++ b.live)))
unfolding grant_all sort_by
grant_all_represents [] h each d room = rw (ascends_sort_by grant_number (rises_ascends grant_number (represents_rises h))) h
grant_all_represents {w} {b} (g ∷ gs) h each (distinct_more n d) room =
    let live = b.live in
    let new = absent_not-live b g.number (λ m. n (rw (map-append grant_number gs live) (Memᴰ.append_right (map grant_number gs) m))) in
    let added = (grant_adds h g (each g (Memᴰ.head refl)) new (omega arith)).1 in
    let put = put_append_right gs (put_insert_by grant_number g live) in
    let apart = perm_distinct (perm_map grant_number (put_perm put)) (distinct_more n d) in
    rw (sort_by_put grant_number put apart) at
    (grant_all_represents {w = (grant_call w (request_of g)).state} {b = with_live b (insert_by grant_number g live)} gs added
    (λ x m. each x (Memᴰ.tail m)) apart (omega (arith, length_put (put_insert_by grant_number g live))))

module _ {doors : Interval} {gs : List Grant} (s : FileSet doors gs) where
  pub set_grantable : (g : Grant) → Memᴰ g gs → Grantable g
  set_grantable g m = record { fits = (s.each g m).fits; faultless = (s.each g m).faultless }

  module _ {c : ℕ} (memory : List ℕ) (z : Sized memory c) (room : length gs ≤ c) where
    pub set_represents : (hs : List Grant) → Ordering gs hs → Represents (grant_all (fresh_pool c) hs) (book_of c gs)
    set_represents hs sorted =
        let perm : Perm gs hs = perm_sym (rw sorted at (perm_sort_by grant_number hs)) in
        let right : (g : Grant) → Memᴰ g hs → Grantable g = λ g m. set_grantable g (perm_mem (perm_sym perm) m) in
        let apart : Distinct (map grant_number (hs ++ [])) =
        rw append-nil (perm_distinct (perm_map grant_number perm) (rises_distinct grant_number (set_rises s))) in
        rw (append-nil, sorted) at
        (grant_all_represents hs (represents_fresh_pool c z.some z.few) right apart (omega (arith, length_perm perm)))

    load-order : first_fault (load_order memory (file_of doors gs)) ≡ None
    unfolding load_order first_fault
    load-order =
        rw (
          (wrong_length_iff memory).1 (c, z),
          first_fault-append (file_causes (file_of doors gs)) _ ((none_of_iff (file_causes (file_of doors gs))).0 (file_of-accepted doors gs s)),
          total_in-file_of doors gs,
          capacity_of-pool_length memory c z.long,
          le-ltb c (length gs) room,
        )

    pub load_set : load_call memory (file_of doors gs) ≡ record { state = grant_all (fresh_pool c) gs; answer = accepted []; lent = [] }
    unfolding load_call refusing
    load_set = rw (load-order, capacity_of-pool_length memory c z.long, grants_in-file_of doors gs)

    pub load_represents : Represents (load_call memory (file_of doors gs)).state (book_of c gs)
    load_represents = rw load_set (set_represents gs (set-sorted s))

module _ {c : ℕ} (memory f : List ℕ) (z : Sized memory c) (below : Below byte_values f) (taken : (load_call memory f).answer ≡ accepted []) where
  -- no cause of load's line holds: the file is accepted, and has grants for c cells at most
  load_causes : Accepted f × (total_in f ≤ c)
  unfolding load_call load_order
  load_causes =
      let absent = causes_absent _ _ (accepted-none _ memory [] _ [] taken) in
      let both = append_absent (file_causes f) _ absent.1 in
      let few = ltb-false (capacity_of memory) (total_in f) (causes_absent _ _ both.1).0 in
      ((none_of_iff (file_causes f)).1 both.0, rw (capacity_of-pool_length memory c z.long) at few)

  pub accepted_represents : Represents (load_call memory f).state (book_of c (grants_in f))
  accepted_represents = let set = (accepted-files f below).0 load_causes.0 in go set.0 set.1 set.2 set.3
    where
      go : (doors : Interval) (gs : List Grant) → FileSet doors gs → f ≡ file_of doors gs → Represents (load_call memory f).state (book_of c (grants_in f))
      go doors gs s same =
          let room : length gs ≤ c = omega (arith, load_causes.1, ap total_in same, total_in-file_of doors gs) in
          rw (same, grants_in-file_of doors gs) (load_represents s memory z room)

pub load-refuses : (w f : List ℕ) (fault : Fault) → first_fault (file_causes f) ≡ Some fault
    → (load_call w f).answer ≡ cond (wrong_length w) (refusal BadPool) (refusal fault)
unfolding load_call load_order
load-refuses w f fault e = refusing-front _ (file_causes f) _ w [] _ fault e
