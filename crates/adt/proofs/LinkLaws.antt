-- When a list of links is broken (specs/Links), link by link.
--   broken_by-none      no link: not broken while no more cells than C were met
--   broken_by-high      a link above C breaks
--   broken_by-deep      so does one that leads below the last level
--   broken_by_full      so does any link once C cells were met
--   broken_by_parent    so does one to a cell that names another parent
--   broken_by_more      any other link only adds one to the cells met
--   broken_by-blank     the links behind one that may be blank
--   broken_by-next      a walk that tests a link and goes on behind it is broken as the links are
--   Within w c f       the link f is not above C, leads not below the last level, and to a cell that names its parent
--   right_within       so is a link that is not wrong
--   unbroken-few, unbroken-first   what a list that is not broken says of its length, and of the first link that passes a test
--   or_left, or_right  of two tests of which none passes
-- Assumes nothing.
use Prim.Native.Nat.{ℕ, suc, ◌+◌, ◌<◌, ◌≤◌}
use mathlib.Core.Path.{◌≡◌, refl, sym, ap, ◌∙◌}
use mathlib.Core.Bool.{Bool, true, false, cond, not, ◌&&◌, ◌||◌, or-true, true≢false}
use mathlib.Core.List.{List, [], ◌∷◌, nil≢cons, head-eq_of_cons-eq}
use lib.Dec.{leb, ltb}
use lib.ListN.{length}
use native.Mathlib.Decide.{dec_le, dec_lt}
use native.Mathlib.Omega.{arith}
use borrow.Author.Tests.{ltb-false, lt-ltb, le-ltb, le-leb, lt-leb, not-false}
use Rattle.lists.specs.Tests.{filter, any}
use Rattle.geometry.specs.Levels.{levels}
use Rattle.adt.specs.Node.{is_parent}
use Rattle.adt.specs.Links.{Link, meets_cause, broken_by}

pub or_left : (a b : Bool) → (a || b) ≡ false → a ≡ false
or_left true b e = e
or_left false b e = refl

pub or_right : (a b : Bool) → (a || b) ≡ false → b ≡ false
or_right true b e = absurd (true≢false e)
or_right false b e = e

pub broken_by-none : (w : List ℕ) (c met : ℕ) → met ≤ c → broken_by w c met [] ≡ false
unfolding broken_by any
broken_by-none w c met few = le-ltb c (met + 0) (omega arith)

module _ (w : List ℕ) (c met : ℕ) (link : Link) (links : List Link) where
  pub broken_by-high : c < link.to → broken_by w c met (link ∷ links) ≡ true
  unfolding broken_by any
  broken_by-high high = rw (lt-ltb c link.to high)

  pub broken_by-deep : levels < link.level → broken_by w c met (link ∷ links) ≡ true
  unfolding broken_by any
  broken_by-deep deep = rw (lt-ltb levels link.level deep, or-true)

  pub broken_by_parent : is_parent w link.from link.to ≡ false → broken_by w c met (link ∷ links) ≡ true
  unfolding broken_by any
  broken_by_parent other = rw (other, or-true)

  pub broken_by_full : c ≤ met → broken_by w c met (link ∷ links) ≡ true
  unfolding broken_by any
  broken_by_full full = rw (lt-ltb c (met + suc (length links)) (omega arith), or-true)

  pub broken_by_more : link.to ≤ c → link.level ≤ levels → is_parent w link.from link.to ≡ true
      → broken_by w c met (link ∷ links) ≡ broken_by w c (suc met) links
  unfolding broken_by any
  broken_by_more low above named =
      let shift : met + suc (length links) ≡ suc met + length links = omega arith in
      rw (le-ltb c link.to low, le-ltb levels link.level above, named, shift)

-- the links behind one that may be blank
pub broken_by-blank : (w : List ℕ) (c met : ℕ) (blank : Bool) (links : List Link) → met ≤ c
    → broken_by w c met (cond blank [] links) ≡ cond blank false (broken_by w c met links)
broken_by-blank w c met true links few = broken_by-none w c met few
broken_by-blank w c met false links few = refl

-- a walk that tests the link and then goes on behind it
pub broken_by-next : (w : List ℕ) (c met : ℕ) (link : Link) (links : List Link) (rest : Bool) → link.level ≤ levels
    → (met < c → rest ≡ broken_by w c (suc met) links)
    → cond (leb link.to c && ltb met c && is_parent w link.from link.to) rest true ≡ broken_by w c met (link ∷ links)
broken_by-next w c met link links rest above goes = go (dec_le link.to c) (dec_lt met c) (is_parent w link.from link.to) refl
  where
    go : Dec (link.to ≤ c) → Dec (met < c) → (named : Bool) → is_parent w link.from link.to ≡ named
        → cond (leb link.to c && ltb met c && named) rest true ≡ broken_by w c met (link ∷ links)
    go (no high) room named is = rw (lt-leb link.to c (omega arith)) (sym (broken_by-high w c met link links (omega arith)))
    go (yes low) (no full) named is =
        rw (le-leb link.to c low, le-ltb met c (omega arith)) (sym (broken_by_full w c met link links (omega arith)))
    go (yes low) (yes room) true is =
        rw (le-leb link.to c low, lt-ltb met c room) (goes room ∙ sym (broken_by_more w c met link links low above is))
    go (yes low) (yes room) false is = rw (le-leb link.to c low, lt-ltb met c room) (sym (broken_by_parent w c met link links is))

-- where no element of a list passes one test, the first that passes another does not pass it either
first-kept : {A : Type 0} (t u : A → Bool) (xs : List A) (y : A) (ys : List A) → any t xs ≡ false → filter u xs ≡ y ∷ ys → t y ≡ false
unfolding any filter
first-kept t u [] y ys e k = absurd (nil≢cons k)
first-kept t u (x ∷ xs) y ys e k = go (u x) k (first-kept t u xs y ys (or_right (t x) (any t xs) e))
  where
    go : (b : Bool) → cond b (x ∷ filter u xs) (filter u xs) ≡ y ∷ ys → (filter u xs ≡ y ∷ ys → t y ≡ false) → t y ≡ false
    go true k rest = ap t (sym (head-eq_of_cons-eq k)) ∙ or_left (t x) (any t xs) e
    go false k rest = rest k

pub record Within (w : List ℕ) (c : ℕ) (f : Link) : Type 0 where
  pub low : f.to ≤ c
  pub above : f.level ≤ levels
  pub named : is_parent w f.from f.to ≡ true

-- a link that is not wrong
pub right_within : (w : List ℕ) (c : ℕ) (f : Link) → meets_cause w c f ≡ false → Within w c f
right_within w c f right =
    let placed = or_left (ltb c f.to || ltb levels f.level) (not (is_parent w f.from f.to)) right in
    record {
      low = ltb-false c f.to (or_left (ltb c f.to) (ltb levels f.level) placed);
      above = ltb-false levels f.level (or_right (ltb c f.to) (ltb levels f.level) placed);
      named = not-false _ (or_right (ltb c f.to || ltb levels f.level) (not (is_parent w f.from f.to)) right);
    }

module _ (w : List ℕ) (c met : ℕ) (links : List Link) (whole : broken_by w c met links ≡ false) where
  pub unbroken-few : met + length links ≤ c
  unfolding broken_by
  unbroken-few = ltb-false c (met + length links) (or_right (any (meets_cause w c) links) (ltb c (met + length links)) whole)

  pub unbroken-first : (t : Link → Bool) (f : Link) (fs : List Link) → filter t links ≡ f ∷ fs → Within w c f
  unfolding broken_by
  unbroken-first t f fs kept =
      right_within w c f (first-kept (meets_cause w c) t links f fs (or_left (any (meets_cause w c) links) (ltb c (met + length links)) whole) kept)
