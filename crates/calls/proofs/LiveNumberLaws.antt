-- The number's search of grant and revoke, on words that stand for a plain book.
--   number-found          it is whole, and hits the live grant of that number
--   number_live-is_live     so it hits exactly if the number is live
--   not_live              no cell's grant has a number that is not live
-- Assumes nothing.
use Prim.Native.Nat.{ℕ}
use mathlib.Core.Path.{◌≡◌, sym, ap, ◌∙◌}
use mathlib.Core.Bool.{false, not, true≢false}
use mathlib.Core.List.Memᴰ
use mathlib.Core.List.{List, Memᴰ}
use lib.Dec.{eqb}
use borrow.Author.Tests.{eq-eqb}
use Rattle.lists.proofs.KeyLaws.{any-filter, mem_any}
use Rattle.model.specs.Book.{Book, is_live}
use Rattle.geometry.specs.SearchRange.{range_of_number}
use Rattle.geometry.proofs.SearchRangeLaws.{number-hits}
use Rattle.adt.proofs.LiveLaws.{grants_of, numbers_of}
use Rattle.calls.specs.Walks.{number_search, hits_of}
use Rattle.calls.specs.Causes.{number_live}
use Rattle.calls.proofs.Represents.{grant_number, Represents, live_represents, Hits, range-hits}

module _ {w : List ℕ} {b : Book} (h : Represents w b) (n : ℕ) where
  pub number-found : Hits w b.live (λ g. eqb g.number n) (number_search w n)
  number-found = range-hits h (range_of_number n) (λ g. eqb g.number n) (λ g fits. number-hits g fits n)

  pub number_live-is_live : number_live (hits_of (number_search w n)) ≡ is_live b n
  number_live-is_live = ap (λ (k : ℕ). not (eqb k 0)) number-found.count ∙ sym (any-filter (λ g. eqb g.number n) b.live)

  pub not_live : is_live b n ≡ false → ¬ Memᴰ n (numbers_of w h.tree)
  not_live e m =
      let o = Memᴰ.of_map grant_number (grants_of w h.tree) m in
      true≢false (sym (mem_any (λ g. eqb g.number n) (live_represents h o.0 o.1) (eq-eqb o.0.number n o.2)) ∙ e)
