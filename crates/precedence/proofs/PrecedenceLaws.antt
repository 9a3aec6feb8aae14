-- A precedence in plain words is the one that the tests give (specs/Precedence).
--   overrides_iff, overridden_iff    the tests of one grant and of all
--   precedence_stands                  the precedence that is computed holds in plain words
--   stands_one                       and no other does
--   stands_iff                       so a grant stands so exactly if that is computed
-- Assumes nothing.
use Prim.Native.Nat.{ℕ, zero, suc, ◌+◌, ◌-◌, ◌<◌, ◌≤◌}
use mathlib.Core.Logic.{◌↔◌}
use mathlib.Core.Path.{◌≡◌, refl, sym, subst, ◌∙◌}
use mathlib.Core.Bool.{Bool, true, false, cond, not, ◌&&◌, and-eq-true_iff, true≢false, false≢true}
use mathlib.Core.List.{List, [], ◌∷◌, Memᴰ}
use native.Mathlib.Omega.{arith}
use native.Mathlib.Decide.{ℕ_discrete}
use borrow.Author.Tests.{not-true, not-false}
use Rattle.lists.specs.Tests.{every}
use Rattle.lists.specs.Ranges.{count_from}
use Rattle.lists.proofs.TestLaws.{both_le, le_both, every_all}
use Rattle.lists.proofs.KeyLaws.{any_mem, mem_any}
use Rattle.lists.proofs.ListLaws.{count_from_mem}
use Rattle.model.specs.declared.Grant.{Grant}
use Rattle.model.specs.Interval.{holds}
use Rattle.model.specs.Box.{staff_of}
use Rattle.model.specs.Decide.{outranks}
use Rattle.precedence.specs.declared.Precedence.{Precedence}
use Rattle.precedence.specs.declared.Precedence.TheVariants.{Whole, Partial, None}
use Rattle.precedence.specs.Precedence.{HasStaff, Overridden, SomeOverridden, SomeKept, HasPrecedence, overrides, overridden, staff_numbers, precedence}

pub overrides_iff : (g : Grant) (s : ℕ) (h : Grant) → (overrides g s h ≡ true) ↔ ((outranks h g ≡ true) × HasStaff h s)
unfolding overrides
overrides_iff g s h = (
  (λ e.
      let two = (and-eq-true_iff (outranks h g) (holds (staff_of h.bounds) s)).0 e in
      let ends = both_le h.bounds.staff_from s s h.bounds.staff_to two.1 in
      (two.0, record { starts = ends.0; ends = ends.1 })),
  (λ o. rw o.0 (le_both h.bounds.staff_from s s h.bounds.staff_to o.1.starts o.1.ends)),
)

pub overridden_iff : (gs : List Grant) (g : Grant) (s : ℕ) → (overridden gs g s ≡ true) ↔ Overridden gs g s
overridden_iff gs g s = (
  (λ e.
      let one = any_mem (overrides g s) gs e in
      let two = (overrides_iff g s one.0).0 one.2 in
      record { by = one.0; member = one.1; above = two.0; staff = two.1 }),
  (λ o. mem_any (overrides g s) o.member ((overrides_iff g s o.by).1 (o.above, o.staff))),
)

-- the numbers of a run
mem_count_from : (k n j : ℕ) → k ≤ j → j < k + n → Memᴰ j (count_from k n)
unfolding count_from
mem_count_from k zero j a b = absurd (omega arith)
mem_count_from k (suc n) j a b = go (ℕ_discrete j k) (mem_count_from (suc k) n j)
  where
    go : Dec (j ≡ k) → (suc k ≤ j → j < suc k + n → Memᴰ j (count_from (suc k) n)) → Memᴰ j (k ∷ count_from (suc k) n)
    go (yes e) rest = Memᴰ.head e
    go (no e) rest = Memᴰ.tail (rest (omega arith) (omega arith))

staff_mem : (g : Grant) (s : ℕ) → HasStaff g s → Memᴰ s (staff_numbers g)
staff_mem g s h =
    mem_count_from g.bounds.staff_from (g.bounds.staff_to + 1 - g.bounds.staff_from) s h.starts (omega (arith, h.starts, h.ends))

mem_staff : (g : Grant) (s : ℕ) → Memᴰ s (staff_numbers g) → HasStaff g s
mem_staff g s m =
    let both = count_from_mem g.bounds.staff_from (g.bounds.staff_to + 1 - g.bounds.staff_from) s m in
    record { starts = both.0; ends = omega (arith, both.0, both.1) }

-- where not each passes, one fails
every_fails : {A : Type 0} (t : A → Bool) (xs : List A) → every t xs ≡ false → (x : A) × Memᴰ x xs × (t x ≡ false)
unfolding every
every_fails t [] e = absurd (true≢false e)
every_fails {A} t (x ∷ xs) e = go (t x) refl e (every_fails t xs)
  where
    go : (b : Bool) → t x ≡ b → b && every t xs ≡ false → (every t xs ≡ false → (y : A) × Memᴰ y xs × (t y ≡ false))
        → (y : A) × Memᴰ y (x ∷ xs) × (t y ≡ false)
    go true p q rest = let r = rest q in (r.0, Memᴰ.tail r.1, r.2)
    go false p q rest = (x, Memᴰ.head refl, p)

module _ (gs : List Grant) (g : Grant) where
  not-overridden : (s : ℕ) → overridden gs g s ≡ false → Overridden gs g s → ⊥
  not-overridden s e o = false≢true (sym e ∙ (overridden_iff gs g s).1 o)

  some-lost : every (λ s. not (overridden gs g s)) (staff_numbers g) ≡ false → SomeOverridden gs g
  some-lost e =
      let one = every_fails (λ s. not (overridden gs g s)) (staff_numbers g) e in
      record {
        number = one.0;
        staff = mem_staff g one.0 one.1;
        lost = (overridden_iff gs g one.0).0 (not-false (overridden gs g one.0) one.2);
      }

  some-kept : every (overridden gs g) (staff_numbers g) ≡ false → SomeKept gs g
  some-kept e =
      let one = every_fails (overridden gs g) (staff_numbers g) e in
      record { number = one.0; staff = mem_staff g one.0 one.1; kept = not-overridden one.0 one.2 }

  pub precedence_stands : HasPrecedence gs g (precedence gs g)
  unfolding precedence HasPrecedence
  precedence_stands = go (every (λ s. not (overridden gs g s)) (staff_numbers g)) refl (every (overridden gs g) (staff_numbers g)) refl
    where
      go : (a : Bool) → every (λ s. not (overridden gs g s)) (staff_numbers g) ≡ a → (b : Bool) → every (overridden gs g) (staff_numbers g) ≡ b
          → HasPrecedence gs g (cond a Whole (cond b None Partial))
      go true x b y = λ s h. not-overridden s (not-true (overridden gs g s) (every_all (λ t. not (overridden gs g t)) (staff_numbers g) x s (staff_mem g s h)))
      go false x true y = (some-lost x, λ s h. (overridden_iff gs g s).0 (every_all (overridden gs g) (staff_numbers g) y s (staff_mem g s h)))
      go false x false y = (some-lost x, some-kept y)

  pub stands_one : (x y : Precedence) → HasPrecedence gs g x → HasPrecedence gs g y → x ≡ y
  unfolding HasPrecedence
  stands_one Whole Whole a b = refl
  stands_one Whole Partial a b = absurd (a b.0.number b.0.staff b.0.lost)
  stands_one Whole None a b = absurd (a b.0.number b.0.staff b.0.lost)
  stands_one Partial Whole a b = absurd (b a.0.number a.0.staff a.0.lost)
  stands_one Partial Partial a b = refl
  stands_one Partial None a b = absurd (a.1.kept (b.1 a.1.number a.1.staff))
  stands_one None Whole a b = absurd (b a.0.number a.0.staff a.0.lost)
  stands_one None Partial a b = absurd (b.1.kept (a.1 b.1.number b.1.staff))
  stands_one None None a b = refl

  pub stands_iff : (x : Precedence) → HasPrecedence gs g x ↔ (x ≡ precedence gs g)
  stands_iff x = (
    (λ a. stands_one x (precedence gs g) a precedence_stands),
    (λ e. subst (HasPrecedence gs g) (sym e) precedence_stands),
  )
