-- Grants whose numbers are known to be new, added without a search for them: the words are those that grant leaves.
--   grant-added        of one grant, on words that stand for a plain book
--   grant_all-added     of grants of differing numbers, where cells are enough
--   file_added         of the grants of an accepted file, from start's words on
-- Assumes nothing.
use Prim.Native.Nat.{ℕ, ◌+◌, ◌≤◌}
use mathlib.Core.Path.{◌≡◌, refl, ap, ◌∙◌}
use mathlib.Core.Bool.{false}
use mathlib.Core.List.Memᴰ
use mathlib.Core.List.{List, [], ◌∷◌, ◌++◌, map, map-append, append-nil, Memᴰ}
use native.Mathlib.Omega.{arith}
use lib.ListN.{length}
use borrow.Author.Tests.{not-false, eqb-true}
use Rattle.lists.specs.Sort.{insert_by}
use Rattle.lists.proofs.DistinctLaws.{Distinct, distinct_more}
use Rattle.lists.proofs.PermLaws.{put_append_right, put_perm, length_put, perm_map, perm_distinct}
use Rattle.lists.proofs.SortLaws.{put_insert_by, rises_distinct}
use Rattle.model.specs.declared.Grant.{Grant}
use Rattle.model.specs.Limits.{max_grants}
use Rattle.model.specs.Call.{request_of}
use Rattle.model.specs.Arguments.{request_causes}
use Rattle.model.proofs.JudgedLaws.{none_of_iff}
use Rattle.model.specs.Values.{byte_values, Below}
use Rattle.model.specs.Book.{Book, with_live, is_live}
use Rattle.pool.specs.Fresh.{fresh_pool}
use Rattle.grants_file.specs.File.{doors_in, total_in, grants_in}
use Rattle.grants_file.specs.FileSets.{Accepted, FileSet}
use Rattle.grants_file.proofs.CauseLaws.{accepted_iff}
use Rattle.grants_file.proofs.FileLaws.{length-grants_in}
use Rattle.grants_file.proofs.VerdictLaws.{passes-set}
use Rattle.grants_file.proofs.SetLaws.{set_rises}
use Rattle.calls.specs.Walks.{number_search, hits_of}
use Rattle.calls.specs.Calls.{grant_call}
use Rattle.calls.specs.FileCalls.{grant_all}
use Rattle.steps.specs.Insertions.{added, added_all}
use Rattle.calls.proofs.Represents.{grant_number, Represents, represents_pool}
use Rattle.calls.proofs.LiveNumberLaws.{number-found, number_live-is_live}
use Rattle.calls.proofs.StartLaws.{represents_fresh_pool}
use Rattle.steps.proofs.InsertionLaws.{absent_line, added-grant}
use Rattle.calls.proofs.LoadLaws.{Grantable, absent_not-live, grant_adds, set_grantable}

-- a list without elements is empty
none_left : {A : Type 0} (xs : List A) → length xs ≡ 0 → xs ≡ []
none_left [] e = refl
none_left (x ∷ xs) e = absurd (omega arith)

module _ {w : List ℕ} {b : Book} (h : Represents w b) (g : Grant) (t : Grantable g) (new : is_live b g.number ≡ false) where
  pub grant-added : (grant_call w (request_of g)).state ≡ added w (request_of g)
  grant-added =
      let absent = none_left (hits_of (number_search w g.number)) (eqb-true _ 0 (not-false _ (number_live-is_live h g.number ∙ new))) in
      let faultless = (none_of_iff (request_causes (request_of g))).0 t.faultless in
      added-grant w (request_of g) (absent_line w (request_of g) (represents_pool h) faultless (number-found h g.number).whole absent)

pub grant_all-added : {w : List ℕ} {b : Book} (gs : List Grant) → Represents w b → ((g : Grant) → Memᴰ g gs → Grantable g)
    → Distinct (map grant_number (gs ++ b.live)) → length gs + length b.live ≤ b.capacity → grant_all w gs ≡ added_all w gs
unfolding grant_all added_all
grant_all-added [] h each d room = refl
grant_all-added {w} {b} (g ∷ gs) h each (distinct_more n d) room =
    let live = b.live in
    let grantable = each g (Memᴰ.head refl) in
    let new = absent_not-live b g.number (λ m. n (rw (map-append grant_number gs live) (Memᴰ.append_right (map grant_number gs) m))) in
    let added = (grant_adds h g grantable new (omega arith)).1 in
    let put = put_append_right gs (put_insert_by grant_number g live) in
    let apart = perm_distinct (perm_map grant_number (put_perm put)) (distinct_more n d) in
    grant_all-added {w = (grant_call w (request_of g)).state} {b = with_live b (insert_by grant_number g live)} gs added
    (λ x m. each x (Memᴰ.tail m)) apart (omega (arith, length_put (put_insert_by grant_number g live)))
    ∙ ap (λ (v : List ℕ). added_all v gs) (grant-added h g grantable new)

pub file_added : (f : List ℕ) → Below byte_values f → Accepted f → (c : ℕ) → 1 ≤ c → c ≤ max_grants → total_in f ≤ c
    → grant_all (fresh_pool c) (grants_in f) ≡ added_all (fresh_pool c) (grants_in f)
file_added f below a c some few room =
    let set : FileSet (doors_in f) (grants_in f) = passes-set f below ((accepted_iff f).0 a) in
    let apart : Distinct (map grant_number (grants_in f ++ [])) = rw append-nil (rises_distinct grant_number (set_rises set)) in
    grant_all-added (grants_in f) (represents_fresh_pool c some few) (set_grantable set) apart (omega (arith, length-grants_in f))
