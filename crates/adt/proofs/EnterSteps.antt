-- The search's two steps, case by case: what `enter` gives by its tests, and how a visit is made of three steps.
--   enter-blank, enter-deep, enter-apart, enter-above, enter_other, enter_visits    the tests of `enter`, in their order
--   enter-broken                                                       a broken walk goes no further
--   stands_as, encodes_as                                              what the memory stands for, once the answer is known
--   ChildAt, child_meets, child_half, child_root                       the link and the region that `enter` goes on with: at the root the root's
--   child_deep, child_apart, child_past, child_other, child_visited    what the memory stands for after each test of `enter`
--   subtree                                                            the state of the search once the subtree of a cell on a side was entered
--   subtree_blank, subtree_entered                                     what the memory stands for then: nothing hangs there, or `enter` was called
--   visit_cut, visit_left_cut, visit_whole                             and after each step of `visit`
-- Assumes nothing.
use Prim.Native.Nat.{ℕ, zero, suc, ◌-◌, ◌<◌, ◌≤◌}
use mathlib.Core.Path.{◌≡◌, refl, sym, ap, subst, ◌∙◌}
use mathlib.Core.Bool.{Bool, true, false, cond, ◌&&◌}
use Rattle.std.proofs.Common.{Result, Ok, Err}
use Rattle.std.specs.Prelude.{⊤}
use mathlib.Core.List.{List}
use native.Mathlib.Numerals.{sub-one}
use native.Mathlib.Omega.{arith}
use lib.ListN.{get_or, set}
use borrow.Author.Tests.{le-leb, lt-leb, eq-eqb, ne_eqb}
use lib.Dec.{leb}
use Rattle.model.specs.declared.Grant.{Grant}
use Rattle.geometry.specs.declared.Side.{Side}
use Rattle.geometry.specs.declared.Side.TheVariants.{Left, Right}
use Rattle.geometry.specs.Axis.{axes, axis_of}
use Rattle.geometry.specs.Levels.{levels}
use Rattle.geometry.specs.Region.{Region, Shape, low, high, half, half_of, meets}
use Rattle.geometry.proofs.RegionLaws.{half-shape}
use Rattle.geometry.proofs.HalfLaws.{set_half_of}
use Rattle.pool.specs.Layout.{root_place}
use Rattle.adt.specs.declared.Broken.{Broken}
use Rattle.adt.specs.declared.search.Counters.{Counters}
use Rattle.adt.specs.Node.{link_place, parent_at, is_parent}
use Rattle.adt.specs.Search.{Spot, Search, broken, going, visit_by, enter}
use Rattle.adt.specs.SearchMemory.{so_far, search_in, Counted, Encodes, Entering, link_entered, region_entered, tested, visited, entered}

pub stands_as : {c : ℕ} {r b : Result ⊤ Broken} {h : List ℕ} {t : Counters} {s : Search} → Encodes c r h t s → r ≡ b → search_in b h t ≡ s
stands_as {h = h} {t = t} d e = ap (λ (x : Result ⊤ Broken). search_in x h t) (sym e) ∙ d.state

-- the place of the link that is gone through, and the region of the cell that it leads to, which meets the range
pub record ChildAt (q : Region) (n p : ℕ) (s : Side) (g r : Region) (link : ℕ) : Type 0 where
  pub same : r ≡ region_entered n s g
  pub shape : Shape r
  pub meeting : meets r q ≡ true
  pub at : link ≡ link_entered n p s

module _ (q : Region) (n p : ℕ) (s : Side) (g : Region) where
  -- the answer about the half, on the axis of the level
  module _ (few : n ≤ levels) {a : ℕ} (axis : a ≡ axis_of (levels - n)) {answer : Bool} (met : answer ≡ meets (half s g a) q) where
    pub child_meets : meets (region_entered n s g) q ≡ answer
    child_meets = rw (le-leb n levels few, ← axis) (sym met)

    pub child_half : a < axes → Shape g → answer ≡ true → {r : Region} → r ≡ set g a (half_of s (low g a) (high g a)) → {link : ℕ} → link ≡ link_place p s
        → ChildAt q n p s g r link
    child_half in-axes shape t e place =
        let halved = e ∙ set_half_of s g a shape in-axes in
        record {
          same = halved ∙ rw (axis, le-leb n levels few);
          shape = subst Shape (sym halved) (half-shape s g a shape in-axes);
          meeting = subst (λ (r : Region). meets r q ≡ true) (sym halved) (sym met ∙ t);
          at = place ∙ rw (le-leb n levels few);
        }

  pub child_root : levels < n → Shape g → meets g q ≡ true → {r : Region} → r ≡ g → {link : ℕ} → link ≡ root_place → ChildAt q n p s g r link
  child_root past shape met e place =
      record {
        same = e ∙ rw (lt-leb n levels past);
        shape = subst Shape (sym e) shape;
        meeting = subst (λ (r : Region). meets r q ≡ true) (sym e) met;
        at = place ∙ rw (lt-leb n levels past);
      }

-- the memory under another name, once the answer is known
pub encodes_as : {c : ℕ} {r b : Result ⊤ Broken} {h h' : List ℕ} {t t' : Counters} {s : Search} → Encodes c r h t s → r ≡ b → h' ≡ h → t' ≡ t → Encodes c b h' t' s
encodes_as d e i j = rw (i, j, ← e) d

module _ (w : List ℕ) (c : ℕ) (q : Region) (passes : Grant → Bool) where
  -- a search that goes on, at the link at the place `link`, whose value is k
  module _ (n from link k : ℕ) (g : Region) (e : k ≡ get_or w link 0) (met : ℕ) (hits : List ℕ) (first : Spot) where
    abbrev now : Search
    now = going met hits first

    pub enter-blank : k ≡ 0 → now ≡ enter w c q passes n from link g now
    unfolding enter
    enter-blank z = go n
      where
        go : (n : ℕ) → now ≡ enter w c q passes n from link g now
        go zero = rw (← e, eq-eqb k 0 z)
        go (suc n) = rw (← e, eq-eqb k 0 z)

    module _ (nz : ¬ (k ≡ 0)) where
      pub enter-deep : n ≡ 0 → broken ≡ enter w c q passes n from link g now
      unfolding enter
      enter-deep z = rw (z, ← e, ne_eqb k 0 nz)

      module _ (some : ¬ (n ≡ 0)) where
        -- what is left once the link leads to a cell, with n levels
        abbrev behind : ℕ → Search
        behind n =
            let here : Spot = record { level = levels - (n - 1); link = link } in
            cond (meets g q) (cond (leb k c && is_parent w from k) (visit_by w c q passes (enter w c q passes (n - 1)) here k g now) broken) now

        enter_cases : enter w c q passes n from link g now ≡ behind n
        unfolding enter
        enter_cases = go n some
          where
            go : (n : ℕ) → ¬ (n ≡ 0) → enter w c q passes n from link g now ≡ behind n
            go zero z = absurd (z refl)
            go (suc n) z = rw (← e, ne_eqb k 0 nz, sub-one (suc n))

        pub enter-apart : meets g q ≡ false → now ≡ enter w c q passes n from link g now
        enter-apart m = sym (enter_cases ∙ rw m)

        pub enter-above : meets g q ≡ true → c < k → broken ≡ enter w c q passes n from link g now
        enter-above m a = sym (enter_cases ∙ rw (m, lt-leb k c a))

        pub enter_other : meets g q ≡ true → k ≤ c → ¬ (parent_at w k ≡ from) → broken ≡ enter w c q passes n from link g now
        enter_other m a other = sym (enter_cases ∙ rw (m, le-leb k c a, ne_eqb (parent_at w k) from other))

        pub enter_visits : {h : Region} → h ≡ g → meets g q ≡ true → k ≤ c → parent_at w k ≡ from
            → visit_by w c q passes (enter w c q passes (n - 1)) (record { level = levels - (n - 1); link = link }) k h now ≡ enter w c q passes n from link g now
        enter_visits i m a named = rw i (sym (enter_cases ∙ rw (m, le-leb k c a, eq-eqb (parent_at w k) from named)))

  enter-broken : (n from link : ℕ) (g : Region) → enter w c q passes n from link g broken ≡ broken
  unfolding enter
  enter-broken zero from link g = refl
  enter-broken (suc n) from link g = refl

  -- the link of the cell p on a side, which leads to the cell k; p has the region g
  module _ {n p k : ℕ} {side : Side} {g : Region} {hits : List ℕ} {counters : Counters} (e : Entering w c q hits counters n p side k g) where
    abbrev after : Search
    after = entered w c q passes hits counters n p side g

    not-blank : ¬ (k ≡ 0)
    not-blank z = omega (arith, e.some)

    pub child_deep : n ≡ 0 → Encodes c (Err (record {})) hits counters after
    child_deep z = record { counted = e.ready.counted; state = enter-deep n p _ k _ e.leads _ _ _ not-blank z }

    module _ (some : ¬ (n ≡ 0)) where
      pub child_apart : meets (region_entered n side g) q ≡ false → Encodes c (Ok tt) hits counters after
      child_apart m = record { counted = e.ready.counted; state = enter-apart n p _ k _ e.leads _ _ _ not-blank some m }

      -- it is gone through at the place `link`, and k has the region r
      module _ {link : ℕ} {r : Region} (child : ChildAt q n p side g r link) where
        meeting : meets (region_entered n side g) q ≡ true
        meeting = subst (λ (x : Region). meets x q ≡ true) child.same child.meeting

        pub child_past : c < k → Encodes c (Err (record {})) hits counters after
        child_past past = record { counted = e.ready.counted; state = enter-above n p _ k _ e.leads _ _ _ not-blank some meeting past }

        pub child_other : k ≤ c → ¬ (parent_at w k ≡ p) → Encodes c (Err (record {})) hits counters after
        child_other few other = record { counted = e.ready.counted; state = enter_other n p _ k _ e.leads _ _ _ not-blank some meeting few other }

        pub child_visited : k ≤ c → parent_at w k ≡ p → {b : Result ⊤ Broken} {hits' : List ℕ} {counters' : Counters}
            → Encodes c b hits' counters' (visited w c q passes hits counters k (n - 1) link r) → Encodes c b hits' counters' after
        child_visited few named v = record {
          counted = v.counted;
          state = v.state ∙ rw child.at (enter_visits n p _ k _ e.leads _ _ _ not-blank some child.same meeting few named);
        }

  -- the subtree of the cell k, of the region g, on a side
  module _ (n k : ℕ) (side : Side) (g : Region) (hits : List ℕ) (counters : Counters) where
    abbrev pub subtree : Search
    subtree = enter w c q passes n k (link_place k side) (half side g (axis_of (levels - n))) (so_far hits counters)

    pub subtree_blank : get_or w (link_place k side) 0 ≡ 0 → Counted c hits counters → Encodes c (Ok tt) hits counters subtree
    subtree_blank z counted = record { counted = counted; state = enter-blank n k _ _ _ refl _ _ _ z }

    pub subtree_entered : n ≤ levels → {r : Result ⊤ Broken} {h : List ℕ} {t : Counters}
        → Encodes c r h t (entered w c q passes hits counters n k side g) → Encodes c r h t subtree
    subtree_entered few d = record { counted = d.counted; state = d.state ∙ rw (le-leb n levels few) }

  -- the three steps of a visit of the cell k, from what the memory stands for after each
  module _ (n link k : ℕ) (g : Region) (hits : List ℕ) (counters : Counters) where
    steps : {s₁ s₂ s₃ : Search} → s₁ ≡ tested w c q passes hits counters k (levels - n) link
        → s₂ ≡ enter w c q passes n k (link_place k Left) (half Left g (axis_of (levels - n))) s₁
        → s₃ ≡ enter w c q passes n k (link_place k Right) (half Right g (axis_of (levels - n))) s₂ → s₃ ≡ visited w c q passes hits counters k n link g
    unfolding visit_by
    steps e₁ e₂ e₃ = e₃ ∙ rw (e₂, e₁)

    module _ {r : Result ⊤ Broken} {h : List ℕ} {t : Counters} (d : Encodes c r h t (tested w c q passes hits counters k (levels - n) link)) where
      pub visit_cut : {b : Broken} → r ≡ Err b → Encodes c (Err b) h t (visited w c q passes hits counters k n link g)
      visit_cut e = record { counted = d.counted; state = steps (stands_as d e) (sym (enter-broken n _ _ _)) (sym (enter-broken n _ _ _)) }

      module _ {u : ⊤} (going : r ≡ Ok u) {r₂ : Result ⊤ Broken} {h₂ : List ℕ} {t₂ : Counters} (d₂ : Encodes c r₂ h₂ t₂ (subtree n k Left g h t)) where
        pub visit_left_cut : {b : Broken} → r₂ ≡ Err b → Encodes c (Err b) h₂ t₂ (visited w c q passes hits counters k n link g)
        visit_left_cut e = record { counted = d₂.counted; state = steps (stands_as d going) (stands_as d₂ e) (sym (enter-broken n _ _ _)) }

        pub visit_whole : {u₂ : ⊤} → r₂ ≡ Ok u₂ → {r₃ : Result ⊤ Broken} {h₃ : List ℕ} {t₃ : Counters} → Encodes c r₃ h₃ t₃ (subtree n k Right g h₂ t₂)
            → Encodes c r₃ h₃ t₃ (visited w c q passes hits counters k n link g)
        visit_whole e d₃ = record { counted = d₃.counted; state = steps (stands_as d going) (stands_as d₂ e) d₃.state }
