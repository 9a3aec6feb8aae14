-- Who decides does not depend on the order of the grants, where their numbers differ.
--   Yields g h                 g does not outrank h: yields_refl, yields_iff, yields_trans, yields_both
--   outranks_yields, outranks-not_yields, not-outranks_yields    one that outranks another is yielded to and does not yield; else it yields
--   deciding_mem               the one that decides is one of them
--   deciding_first             each of them yields to it
--   decide_among_perm           so the same decides in any order
--   decide_among-none           none decides exactly if there is none
--   Foremost g gs              g is one of them, and every one yields to it
--   foremost_decides           which is that it decides
-- Assumes nothing.
use Prim.Native.Nat.{ℕ, ◌<◌, ◌≤◌}
use mathlib.Core.Logic.{◌↔◌}
use mathlib.Core.Path.{◌≡◌, refl, sym, ap, subst, ◌∙◌}
use mathlib.Core.Bool.{Bool, true, false, cond, ◌&&◌, ◌||◌, true≢false, false≢true}
use mathlib.Core.List.Memᴰ
use mathlib.Core.List.{List, [], ◌∷◌, map, Memᴰ}
use native.Mathlib.Omega.{arith}
use native.Mathlib.Decide.{ℕ_discrete}
use lib.Dec.{ltb, eqb}
use borrow.Author.Tests.{ltb-true, ltb-false, eqb-true, eqb-false}
use Rattle.lists.proofs.DistinctLaws.{Distinct}
use Rattle.lists.proofs.KeyLaws.{distinct_key}
use Rattle.lists.proofs.PermLaws.{Perm, perm_sym, perm_mem}
use Rattle.model.specs.declared.Kind.{Kind}
use Rattle.model.specs.declared.Kind.TheVariants as kind
use Rattle.model.specs.declared.Grant.{Grant}
use Rattle.model.specs.declared.Decision.TheVariants as decision
use Rattle.model.specs.Decide.{outranks, deciding_of, decision_of, decide_among}

pub data Yields (g h : Grant) : Type 0 where
  yields_rank : g.rank < h.rank → Yields g h
  yields_number : g.rank ≡ h.rank → g.number ≤ h.number → Yields g h

pub yields_refl : (g : Grant) → Yields g g
yields_refl g = yields_number refl (omega arith)

-- which is that its rank is no higher, and at equal rank its number no higher
pub yields_iff : (g h : Grant) → Yields g h ↔ ((g.rank ≤ h.rank) × (g.rank ≡ h.rank → g.number ≤ h.number))
yields_iff g h = (to, λ both. from both.0 both.1 (ℕ_discrete g.rank h.rank))
  where
    to : Yields g h → (g.rank ≤ h.rank) × (g.rank ≡ h.rank → g.number ≤ h.number)
    to (yields_rank a) = (omega arith, λ e. absurd (omega arith))
    to (yields_number e n) = (omega arith, λ same. n)

    from : g.rank ≤ h.rank → (g.rank ≡ h.rank → g.number ≤ h.number) → Dec (g.rank ≡ h.rank) → Yields g h
    from le f (yes e) = yields_number e (f e)
    from le f (no n) = yields_rank (omega (arith, le, n))

pub yields_trans : {f g h : Grant} → Yields f g → Yields g h → Yields f h
yields_trans (yields_rank a) (yields_rank b) = yields_rank (omega arith)
yields_trans (yields_rank a) (yields_number b m) = yields_rank (omega arith)
yields_trans (yields_number a m) (yields_rank b) = yields_rank (omega arith)
yields_trans (yields_number a m) (yields_number b n) = yields_number (a ∙ b) (omega arith)

pub yields_both : {g h : Grant} → Yields g h → Yields h g → g.number ≡ h.number
yields_both (yields_rank a) (yields_rank b) = absurd (omega arith)
yields_both (yields_rank a) (yields_number b m) = absurd (omega arith)
yields_both (yields_number a m) (yields_rank b) = absurd (omega arith)
yields_both (yields_number a m) (yields_number b n) = omega arith

-- g outranks h, by what the test says of the two
data Above (g h : Grant) : Type 0 where
  above-rank : h.rank < g.rank → Above g h
  above-number : g.rank ≡ h.rank → h.number < g.number → Above g h

outranks-above : (g h : Grant) → outranks g h ≡ true → Above g h
unfolding outranks
outranks-above g h e = go (ltb h.rank g.rank) refl (eqb g.rank h.rank) refl (ltb h.number g.number) refl e
  where
    go : (a : Bool) → ltb h.rank g.rank ≡ a → (b : Bool) → eqb g.rank h.rank ≡ b → (c : Bool) → ltb h.number g.number ≡ c
        → a || b && c ≡ true → Above g h
    go true x b y c z q = above-rank (ltb-true h.rank g.rank x)
    go false x true y true z q = above-number (eqb-true g.rank h.rank y) (ltb-true h.number g.number z)
    go false x true y false z q = absurd (false≢true q)
    go false x false y c z q = absurd (false≢true q)

above_yields : {g h : Grant} → Above g h → Yields h g
above_yields (above-rank a) = yields_rank a
above_yields (above-number a m) = yields_number (sym a) (omega arith)

above-not_yields : {g h : Grant} → Above g h → Yields g h → ⊥
above-not_yields (above-rank a) (yields_rank b) = omega arith
above-not_yields (above-rank a) (yields_number b m) = omega arith
above-not_yields (above-number a m) (yields_rank b) = omega arith
above-not_yields (above-number a m) (yields_number b n) = omega arith

pub outranks_yields : (g h : Grant) → outranks g h ≡ true → Yields h g
outranks_yields g h e = above_yields (outranks-above g h e)

pub outranks-not_yields : (g h : Grant) → outranks g h ≡ true → Yields g h → ⊥
outranks-not_yields g h e = above-not_yields (outranks-above g h e)

pub not-outranks_yields : (g h : Grant) → outranks g h ≡ false → Yields g h
unfolding outranks
not-outranks_yields g h e = go (ltb h.rank g.rank) refl (eqb g.rank h.rank) refl (ltb h.number g.number) refl e
  where
    go : (a : Bool) → ltb h.rank g.rank ≡ a → (b : Bool) → eqb g.rank h.rank ≡ b → (c : Bool) → ltb h.number g.number ≡ c
        → a || b && c ≡ false → Yields g h
    go true x b y c z q = absurd (true≢false q)
    go false x true y true z q = absurd (true≢false q)
    go false x true y false z q = yields_number (eqb-true g.rank h.rank y) (ltb-false h.number g.number z)
    go false x false y c z q = yields_rank (omega (arith, ltb-false h.rank g.rank x, eqb-false g.rank h.rank y))

-- of two, the one that outranks the other
abbrev winner : Grant → Grant → Grant
winner g h = cond (outranks h g) h g

winner_first : (g h : Grant) → Yields g (winner g h) × Yields h (winner g h)
winner_first g h = go (outranks h g) refl
  where
    go : (b : Bool) → outranks h g ≡ b → Yields g (cond b h g) × Yields h (cond b h g)
    go true e = (outranks_yields h g e, yields_refl h)
    go false e = (yields_refl g, not-outranks_yields h g e)

winner_mem : (g h : Grant) (hs : List Grant) (x : Grant) → Memᴰ x (winner g h ∷ hs) → Memᴰ x (g ∷ h ∷ hs)
winner_mem g h hs x (Memᴰ.head e) = go (outranks h g) e
  where
    go : (b : Bool) → x ≡ cond b h g → Memᴰ x (g ∷ h ∷ hs)
    go true q = Memᴰ.tail (Memᴰ.head q)
    go false q = Memᴰ.head q
winner_mem g h hs x (Memᴰ.tail m) = Memᴰ.tail (Memᴰ.tail m)

pub deciding_mem : (g : Grant) (gs : List Grant) → Memᴰ (deciding_of g gs) (g ∷ gs)
unfolding deciding_of
deciding_mem g [] = Memᴰ.head refl
deciding_mem g (h ∷ hs) = winner_mem g h hs (deciding_of (winner g h) hs) (deciding_mem (winner g h) hs)

pub deciding_first : (g : Grant) (gs : List Grant) (x : Grant) → Memᴰ x (g ∷ gs) → Yields x (deciding_of g gs)
unfolding deciding_of
deciding_first g [] x (Memᴰ.head e) = subst (λ (h : Grant). Yields h g) (sym e) (yields_refl g)
deciding_first g [] x (Memᴰ.tail m) = absurd (Memᴰ.not-nil m)
deciding_first g (h ∷ hs) x m = go (deciding_first (winner g h) hs) m
  where
    go : {d : Grant} → ((y : Grant) → Memᴰ y (winner g h ∷ hs) → Yields y d) → Memᴰ x (g ∷ h ∷ hs) → Yields x d
    go {d} f (Memᴰ.head e) = subst (λ (y : Grant). Yields y d) (sym e) (yields_trans (winner_first g h).0 (f (winner g h) (Memᴰ.head refl)))
    go {d} f (Memᴰ.tail (Memᴰ.head e)) =
        subst (λ (y : Grant). Yields y d) (sym e) (yields_trans (winner_first g h).1 (f (winner g h) (Memᴰ.head refl)))
    go f (Memᴰ.tail (Memᴰ.tail i)) = f x (Memᴰ.tail i)

pub decide_among_perm : {gs hs : List Grant} → Perm gs hs → Distinct (map (λ g. g.number) gs) → decide_among gs ≡ decide_among hs
unfolding decide_among
decide_among_perm {gs = []} {hs = []} p d = refl
decide_among_perm {gs = []} {hs = h ∷ hs} p d = absurd (Memᴰ.not-nil (perm_mem (perm_sym p) (Memᴰ.head refl)))
decide_among_perm {gs = g ∷ gs} {hs = []} p d = absurd (Memᴰ.not-nil (perm_mem p (Memᴰ.head refl)))
decide_among_perm {gs = g ∷ gs} {hs = h ∷ hs} p d =
    let there = deciding_mem g gs in
    let here = perm_mem (perm_sym p) (deciding_mem h hs) in
    let same = yields_both (deciding_first h hs (deciding_of g gs) (perm_mem p there)) (deciding_first g gs (deciding_of h hs) here) in
    ap (λ (x : Grant). decision_of x.kind x) (distinct_key (λ g. g.number) d (deciding_of g gs) (deciding_of h hs) there here same)

decision_of-some : (k : Kind) (g : Grant) → decision_of k g ≡ decision.None → ⊥
decision_of-some kind.Bars g e = let z : ◌≡◌ {A = ℕ} 0 1 = cc in omega arith
decision_of-some kind.Opens g e = let z : ◌≡◌ {A = ℕ} 0 1 = cc in omega arith

decision_of_injective : (j k : Kind) (g h : Grant) → decision_of j g ≡ decision_of k h → g ≡ h
decision_of_injective kind.Bars kind.Bars g h e = cc
decision_of_injective kind.Bars kind.Opens g h e = cc
decision_of_injective kind.Opens kind.Bars g h e = cc
decision_of_injective kind.Opens kind.Opens g h e = cc

pub decide_among-none : (gs : List Grant) → (decide_among gs ≡ decision.None) ↔ ((g : Grant) → Memᴰ g gs → ⊥)
unfolding decide_among
decide_among-none [] = (λ e g m. Memᴰ.not-nil m, λ h. refl)
decide_among-none (g ∷ gs) =
    let d = deciding_of g gs in
    (λ e. absurd (decision_of-some d.kind d e), λ h. absurd (h g (Memᴰ.head refl)))

pub record Foremost (g : Grant) (gs : List Grant) : Type 0 where
  pub member : Memᴰ g gs
  pub yield : (h : Grant) → Memᴰ h gs → Yields h g

module _ {gs : List Grant} (d : Distinct (map (λ g. g.number) gs)) where
  -- of two that yield to each other one is the other
  yields_one : (g h : Grant) → Memᴰ g gs → Memᴰ h gs → Yields g h → Yields h g → g ≡ h
  yields_one g h m i x y = distinct_key (λ g. g.number) d g h m i (yields_both x y)

  -- the one to which each of them yields
  module _ (first : Grant) (there : Memᴰ first gs) (yields : (h : Grant) → Memᴰ h gs → Yields h first) where
    foremost_first : (g : Grant) → Foremost g gs → first ≡ g
    foremost_first g f = yields_one first g there f.member (f.yield first there) (yields g f.member)

    first_foremost : Foremost first gs
    first_foremost = record { member = there; yield = yields }

pub foremost_decides : (gs : List Grant) → Distinct (map (λ g. g.number) gs) → (g : Grant) → Foremost g gs ↔ (decide_among gs ≡ decision_of g.kind g)
unfolding decide_among
foremost_decides [] d g = (λ f. absurd (Memᴰ.not-nil f.member), λ e. absurd (decision_of-some g.kind g (sym e)))
foremost_decides (x ∷ xs) d g =
    let first = deciding_of x xs in
    let there = deciding_mem x xs in
    let yields = deciding_first x xs in (
      (λ f. ap (λ (h : Grant). decision_of h.kind h) (foremost_first d first there yields g f)),
      (λ e. subst (λ (h : Grant). Foremost h (x ∷ xs)) (decision_of_injective first.kind g.kind first g e) (first_foremost d first there yields)),
    )
