-- match on words that stand for a plain book (document 01, "The grants file").
--   Compared hs gs r     r says of the grants hs and gs that they are the same, or where they differ first
--   first_difference_lem     so the walk over two lists of rising numbers says
--   same_iff, least_iff  equal exactly if they have the same grants, a number exactly if it is the least at which they differ
--   match_set            what match answers, of the file of a set
--   match_equal, match_differs   what the answer says of the set and the live grants that touch its doors
--   match_refuses        match of a file that is refused
-- Assumes nothing.
use Prim.Native.Nat.{ℕ, min, ◌≤◌, ◌<◌}
use mathlib.Core.Logic.{◌↔◌, inl, inr, ◌≢◌}
use mathlib.Core.Path.{◌≡◌, refl, sym, ap, ap₂, subst, ◌∙◌}
use mathlib.Core.Bool.{Bool, true, false, cond, false≢true}
use mathlib.Core.List.Memᴰ
use mathlib.Core.List.{List, [], ◌∷◌, Memᴰ}
use Rattle.std.proofs.Common.{Option, None, Some, Ok}
use native.Mathlib.Omega.{arith}
use native.Mathlib.Decide.{dec_lt}
use Rattle.lists.specs.Tests.{filter}
use Rattle.lists.proofs.SortLaws.{Rises, rises_more, rises_filter}
use Rattle.model.specs.declared.Fault.{Fault}
use Rattle.model.specs.declared.Fault.TheVariants.{BadPool}
use Rattle.model.specs.declared.Grant.{Grant}
use Rattle.model.specs.Interval.{Interval}
use Rattle.model.specs.Grant.{same_grant, touches}
use Rattle.model.specs.Answer.{accepted, refusal, matched_answer}
use Rattle.model.specs.Refusal.{first_fault, refusing}
use Rattle.model.specs.Book.{Book}
use Rattle.model.proofs.AnswerLaws.{matched_answer_injective}
use Rattle.model.proofs.GrantLaws.{same_grant_iff}
use Rattle.model.proofs.RefusalLaws.{first_fault-append, refusing-front}
use Rattle.model.proofs.JudgedLaws.{none_of_iff}
use Rattle.pool.specs.Capacity.{wrong_pool}
use Rattle.grants_file.specs.File.{file_of}
use Rattle.grants_file.specs.Verdict.{file_causes}
use Rattle.grants_file.specs.FileSets.{FileSet, InOneAlone, DiffersAt, LeastDifference}
use Rattle.grants_file.proofs.FileLaws.{doors_in-file_of, grants_in-file_of}
use Rattle.grants_file.proofs.VerdictLaws.{file_of-accepted}
use Rattle.grants_file.proofs.SetLaws.{alone-differs, equal-same, set_rises}
use Rattle.calls.specs.Walks.{door_search, is_broken}
use Rattle.calls.specs.Order.{match_order}
use Rattle.calls.specs.FileCalls.{first_difference, match_call}
use Rattle.calls.proofs.Represents.{grant_number, Represents, represents_pool, represents_rises}
use Rattle.calls.proofs.WriteLaws.{touching-found}

-- r is the walk's answer; its first list is the pool's, and the differences are said of the file's first
pub data Compared (hs gs : List Grant) : Option ℕ → Type 0 where
  compared_same : gs ≡ hs → Compared hs gs None
  compared_differs : {n : ℕ} → LeastDifference n gs hs → Compared hs gs (Some n)

-- x is in the first list alone
abbrev Alone : Grant → List Grant → List Grant → Type 0
Alone x gs hs = Memᴰ x gs × (Memᴰ x hs → ⊥)

-- the first number of a list that rises is its least
first-least : {g : Grant} {gs : List Grant} → Rises grant_number (g ∷ gs) → (x : Grant) → Memᴰ x (g ∷ gs) → g.number ≤ x.number
first-least {g} (rises_more f r) x (Memᴰ.head e) = omega (arith, ap grant_number e)
first-least {g} (rises_more f r) x (Memᴰ.tail m) = omega (arith, f x m)

-- a grant of the number n that is in one of the lists alone, where both have numbers from n on only
module _ {gs hs : List Grant} (n : ℕ) (g : Grant) (number : g.number ≡ n)
    (above : (x : Grant) → Memᴰ x gs → n ≤ x.number) (above' : (x : Grant) → Memᴰ x hs → n ≤ x.number)
    (alone : InOneAlone g gs hs) where
  least_here : LeastDifference n gs hs
  least_here = record { differs = record { grant = g; number = number; alone = alone }; least = λ m l d. none m l d.grant d.number d.alone }
    where
      none : (m : ℕ) → m < n → (x : Grant) → x.number ≡ m → InOneAlone x gs hs → ⊥
      none m l x e (inl i) = omega (arith, above x i.0)
      none m l x e (inr i) = omega (arith, above' x i.0)

-- what is in one of two lists alone is so with one grant more in front of both, and the other way round
module _ {g h : Grant} (same : g ≡ h) {gs hs : List Grant} where
  alone_more : Rises grant_number (g ∷ gs) → (x : Grant) → Alone x gs hs → Alone x (g ∷ gs) (h ∷ hs)
  alone_more (rises_more f r) x a = (Memᴰ.tail a.0, out)
    where
      out : Memᴰ x (h ∷ hs) → ⊥
      out (Memᴰ.head e) = omega (arith, f x a.0, ap grant_number (e ∙ sym same))
      out (Memᴰ.tail m) = a.1 m

  alone_less : (x : Grant) → Alone x (g ∷ gs) (h ∷ hs) → Alone x gs hs
  alone_less x a = (within a.0, λ m. a.1 (Memᴰ.tail m))
    where
      within : Memᴰ x (g ∷ gs) → Memᴰ x gs
      within (Memᴰ.head e) = absurd (a.1 (Memᴰ.head (e ∙ same)))
      within (Memᴰ.tail m) = m

-- the same of the least difference
module _ {g h : Grant} (same : h ≡ g) {gs hs : List Grant} (rg : Rises grant_number (g ∷ gs)) (rh : Rises grant_number (h ∷ hs)) where
  differs_more : {n : ℕ} → DiffersAt n gs hs → DiffersAt n (g ∷ gs) (h ∷ hs)
  differs_more d = record { grant = d.grant; number = d.number; alone = go d.alone }
    where
      go : InOneAlone d.grant gs hs → InOneAlone d.grant (g ∷ gs) (h ∷ hs)
      go (inl a) = inl (alone_more (sym same) rg d.grant a)
      go (inr a) = inr (alone_more same rh d.grant a)

  differs_less : {n : ℕ} → DiffersAt n (g ∷ gs) (h ∷ hs) → DiffersAt n gs hs
  differs_less d = record { grant = d.grant; number = d.number; alone = go d.alone }
    where
      go : InOneAlone d.grant (g ∷ gs) (h ∷ hs) → InOneAlone d.grant gs hs
      go (inl a) = inl (alone_less (sym same) d.grant a)
      go (inr a) = inr (alone_less same d.grant a)

  compared_more : {r : Option ℕ} → Compared hs gs r → Compared (h ∷ hs) (g ∷ gs) r
  compared_more (compared_same e) = compared_same (ap₂ ◌∷◌ (sym same) e)
  compared_more (compared_differs l) =
      compared_differs (record { differs = differs_more l.differs; least = λ m lt d. l.least m lt (differs_less d) })

-- two lists whose first grants differ
module _ {g h : Grant} (apart : h ≢ g) {gs hs : List Grant} (rg : Rises grant_number (g ∷ gs)) (rh : Rises grant_number (h ∷ hs)) where
  first-differs : LeastDifference (min h.number g.number) (g ∷ gs) (h ∷ hs)
  first-differs = go (dec_lt g.number h.number) (dec_lt h.number g.number)
    where
      here : (x : Grant) → x.number ≡ min h.number g.number → InOneAlone x (g ∷ gs) (h ∷ hs)
          → LeastDifference (min h.number g.number) (g ∷ gs) (h ∷ hs)
      here x e a = least_here (min h.number g.number) x e (λ y m. omega (arith, first-least rg y m)) (λ y m. omega (arith, first-least rh y m)) a

      other : g.number ≡ h.number → Rises grant_number (h ∷ hs) → Memᴰ g (h ∷ hs) → ⊥
      other e (rises_more f r) (Memᴰ.head q) = apart (sym q)
      other e (rises_more f r) (Memᴰ.tail m) = omega (arith, f g m)

      go : Dec (g.number < h.number) → Dec (h.number < g.number) → LeastDifference (min h.number g.number) (g ∷ gs) (h ∷ hs)
      go (yes l) k = here g (omega arith) (inl (Memᴰ.head refl, λ m. omega (arith, first-least rh g m)))
      go (no l) (yes k) = here h (omega arith) (inr (Memᴰ.head refl, λ m. omega (arith, first-least rg h m)))
      go (no l) (no k) = here g (omega arith) (inl (Memᴰ.head refl, other (omega arith) rh))

pub first_difference_lem : {hs gs : List Grant} → Rises grant_number hs → Rises grant_number gs → Compared hs gs (first_difference hs gs)
unfolding first_difference
first_difference_lem {hs = []} {gs = []} rh rg = compared_same refl
first_difference_lem {hs = []} {gs = g ∷ gs} rh rg =
    compared_differs (least_here g.number g refl (first-least rg) (λ x m. absurd (Memᴰ.not-nil m)) (inl (Memᴰ.head refl, Memᴰ.not-nil)))
first_difference_lem {hs = h ∷ hs} {gs = []} rh rg =
    compared_differs (least_here h.number h refl (λ x m. absurd (Memᴰ.not-nil m)) (first-least rh) (inr (Memᴰ.head refl, Memᴰ.not-nil)))
first_difference_lem {hs = h ∷ hs} {gs = g ∷ gs} (rises_more f rh) (rises_more k rg) = go (same_grant h g) refl (first_difference_lem rh rg)
  where
    go : (b : Bool) → same_grant h g ≡ b → Compared hs gs (first_difference hs gs)
        → Compared (h ∷ hs) (g ∷ gs) (cond b (first_difference hs gs) (Some (min h.number g.number)))
    go true e rest = compared_more ((same_grant_iff h g).0 e) (rises_more k rg) (rises_more f rh) rest
    go false e rest = compared_differs (first-differs (λ q. false≢true (sym e ∙ (same_grant_iff h g).1 q)) (rises_more k rg) (rises_more f rh))

least_one : {m n : ℕ} {gs hs : List Grant} → LeastDifference m gs hs → LeastDifference n gs hs → m ≡ n
least_one {m} {n} k l = go (dec_lt m n) (dec_lt n m)
  where
    go : Dec (m < n) → Dec (n < m) → m ≡ n
    go (yes h) i = absurd (l.least m h k.differs)
    go (no h) (yes i) = absurd (k.least n i l.differs)
    go (no h) (no i) = omega arith

module _ {hs gs : List Grant} where
  pub same_iff : {r : Option ℕ} → Compared hs gs r → (r ≡ None) ↔ ((g : Grant) → Memᴰ g gs ↔ Memᴰ g hs)
  same_iff (compared_same e) = (λ _. equal-same e, λ _. refl)
  same_iff (compared_differs l) = ((λ e. let z : ◌≡◌ {A = ℕ} 0 1 = cc in absurd (omega arith)), λ same. absurd (alone-differs l.differs.alone same))

  pub least_iff : {r : Option ℕ} → Compared hs gs r → (n : ℕ) → (r ≡ Some n) ↔ LeastDifference n gs hs
  least_iff (compared_same e) n = ((λ q. let z : ◌≡◌ {A = ℕ} 0 1 = cc in absurd (omega arith)), λ l. absurd (alone-differs l.differs.alone (equal-same e)))
  least_iff (compared_differs {n = m} l) n = (
    (λ q. let e : m ≡ n = cc in subst (λ (k : ℕ). LeastDifference k gs hs) e l),
    (λ k. ap Some (least_one l k)),
  )

module _ {w : List ℕ} {b : Book} (h : Represents w b) {doors : Interval} {gs : List Grant} (s : FileSet doors gs) where
  -- the live grants that touch the doors
  abbrev found : List Grant
  found = filter (touches doors) b.live

  match_order_lem : first_fault (match_order w (file_of doors gs) (is_broken (door_search w doors))) ≡ None
  unfolding match_order first_fault
  match_order_lem =
      let causes = file_causes (file_of doors gs) in
      rw (represents_pool h, first_fault-append causes _ ((none_of_iff causes).0 (file_of-accepted doors gs s)), (touching-found h doors).whole)

  pub match_set : (match_call w (file_of doors gs)).answer ≡ matched_answer (Ok (first_difference found gs))
  unfolding match_call refusing
  match_set = rw (doors_in-file_of doors gs, match_order_lem, grants_in-file_of doors gs, (touching-found h doors).grants)

  compared : Compared found gs (first_difference found gs)
  compared = first_difference_lem (rises_filter grant_number (touches doors) (represents_rises h)) (set_rises s)

  -- an answer is that of one case alone
  answer_iff : (r : Option ℕ) → ((match_call w (file_of doors gs)).answer ≡ matched_answer (Ok r)) ↔ (first_difference found gs ≡ r)
  answer_iff r = (
    (λ e. let same = matched_answer_injective (Ok (first_difference found gs)) (Ok r) (sym match_set ∙ e) in cc),
    (λ e. match_set ∙ ap (λ (o : Option ℕ). matched_answer (Ok o)) e),
  )

  pub match_equal : ((match_call w (file_of doors gs)).answer ≡ accepted []) ↔ ((g : Grant) → Memᴰ g gs ↔ Memᴰ g found)
  match_equal = ((λ e. (same_iff compared).0 ((answer_iff None).0 e)), λ same. (answer_iff None).1 ((same_iff compared).1 same))

  pub match_differs : (n : ℕ) → ((match_call w (file_of doors gs)).answer ≡ accepted (n ∷ [])) ↔ LeastDifference n gs found
  match_differs n = ((λ e. (least_iff compared n).0 ((answer_iff (Some n)).0 e)), λ l. (answer_iff (Some n)).1 ((least_iff compared n).1 l))

pub match_refuses : (w f : List ℕ) (fault : Fault) → first_fault (file_causes f) ≡ Some fault
    → (match_call w f).answer ≡ cond (wrong_pool w) (refusal BadPool) (refusal fault)
unfolding match_call match_order
match_refuses w f fault e = refusing-front _ (file_causes f) _ w [] _ fault e
