-- What the ranges of specs/SearchRange hit: exactly what document 01 asks for ("Boxes as points"), on quarters document 02, card 2.
--   inside-pairs           a grant's point lies in a range by three pairs of axes, one for each of its ranges, and the number's axis
--   box_hits_lem, box_hits_iff   list and decide, a box that covers a quarter: the grants that overlap it, as tests and as conditions
--   doors-hits             write and match: the grants that touch the doors
--   number-hits            grant and revoke: the grant of that number
--   all_hits               count: every grant
--   box-, doors-, number-, all_one_sided    the search ranges are one_sided
--   hit_axes               a point in a one_sided range, from the comparisons that can fail
-- Assumes nothing.
use Prim.Native.Nat.{ℕ, zero, suc, ◌+◌, ◌-◌, ◌<◌, ◌≤◌, zero-le}
use mathlib.Core.Logic.{◌↔◌}
use mathlib.Core.Path.{◌≡◌, refl, ◌∙◌}
use mathlib.Core.Bool.{Bool, true, ◌&&◌, and-eq-true_iff, and-true}
use mathlib.Core.List.{List, []}
use native.Mathlib.Omega.{arith}
use native.Mathlib.Numerals.{add-one}
use lib.Dec.{T, leb, ltb, eqb, lit<}
use lib.ListN.{length, get_or}
use borrow.Author.Tests.{eqb-true, eq-eqb, leb-true, le-leb, ltb-true, lt-ltb}
use Rattle.lists.specs.Ranges.{count_from}
use Rattle.lists.proofs.TestLaws.{tests_agree, both_le, le_both}
use Rattle.lists.proofs.ElementLaws.{mem_get_d}
use Rattle.model.specs.declared.Box.{Box}
use Rattle.model.specs.declared.Grant.{Grant}
use Rattle.model.specs.declared.Interval.{Interval}
use Rattle.model.specs.Box.{box_values}
use Rattle.model.specs.Overlap.{Overlap, overlaps}
use Rattle.model.specs.Grant.{touches}
use Rattle.model.specs.Values.{GrantFits}
use Rattle.model.proofs.OverlapLaws.{overlaps_iff}
use Rattle.geometry.specs.Axis.{axes}
use Rattle.geometry.specs.Width.{top_of}
use Rattle.geometry.specs.Region.{Region, range, free, root_region, low, high}
use Rattle.geometry.specs.Point.{point_of, inside}
use Rattle.geometry.specs.SearchRange.{range_of_box, range_of_doors, range_of_number, range_of_all, OneSided}
use Rattle.geometry.proofs.RegionLaws.{Spans, inside-ends, ends-inside}

-- what holds on each axis holds on every one
every-axis : (P : ℕ → Type 0) → P 0 → P 1 → P 2 → P 3 → P 4 → P 5 → P 6 → (a : ℕ) → a < axes → P a
every-axis P p₀ p₁ p₂ p₃ p₄ p₅ p₆ zero h = p₀
every-axis P p₀ p₁ p₂ p₃ p₄ p₅ p₆ (suc zero) h = p₁
every-axis P p₀ p₁ p₂ p₃ p₄ p₅ p₆ (suc (suc zero)) h = p₂
every-axis P p₀ p₁ p₂ p₃ p₄ p₅ p₆ (suc (suc (suc zero))) h = p₃
every-axis P p₀ p₁ p₂ p₃ p₄ p₅ p₆ (suc (suc (suc (suc zero)))) h = p₄
every-axis P p₀ p₁ p₂ p₃ p₄ p₅ p₆ (suc (suc (suc (suc (suc zero))))) h = p₅
every-axis P p₀ p₁ p₂ p₃ p₄ p₅ p₆ (suc (suc (suc (suc (suc (suc zero)))))) h = p₆
every-axis P p₀ p₁ p₂ p₃ p₄ p₅ p₆ (suc (suc (suc (suc (suc (suc (suc a))))))) h = absurd (omega arith)

-- the coordinate x lies in the range on the axis a
abbrev lies : Region → ℕ → ℕ → Bool
lies q a x = leb (low q a) x && leb x (high q a)

-- a from lies in the range on the axis i, and its to on the axis j
abbrev pair_lies : Region → ℕ → ℕ → ℕ → ℕ → Bool
pair_lies q i j from to = lies q i from && lies q j to

module _ (q : Region) (a x : ℕ) where
  spans_lies : Spans q a x → lies q a x ≡ true
  spans_lies h = le_both (low q a) x x (high q a) h.above h.below

  lies_spans : lies q a x ≡ true → Spans q a x
  lies_spans e = let both = both_le (low q a) x x (high q a) e in record { above = both.0; below = both.1 }

  free_lies : get_or q a [] ≡ free a → x ≤ top_of a → lies q a x ≡ true
  free_lies e h = rw e (le_both 0 x x (top_of a) zero-le h)

-- four tests in one pass only if each does
and_four : (t u v w : Bool) → (t && u && v && w) ≡ true → (t ≡ true) × (u ≡ true) × (v ≡ true) × (w ≡ true)
and_four t u v w e =
    let last = (and-eq-true_iff (t && u && v) w).0 e in
    let third = (and-eq-true_iff (t && u) v).0 last.0 in
    let first = (and-eq-true_iff t u).0 third.0 in
    (first.0, first.1, third.1, last.1)

-- a range of the box on its two axes: i has the froms, j the tos
module _ (q : Region) (i j from to : ℕ) (fits : to ≤ top_of j) where
  free_pair : get_or q i [] ≡ free i → get_or q j [] ≡ free j → from ≤ top_of i → pair_lies q i j from to ≡ true
  free_pair froms tos h = rw (free_lies q i from froms h) (free_lies q j to tos fits)

  closed_pair : (asked-from asked-to : ℕ) → get_or q i [] ≡ range 0 asked-to → get_or q j [] ≡ range asked-from (top_of j)
      → pair_lies q i j from to ≡ (leb from asked-to && leb asked-from to)
  closed_pair asked-from asked-to froms tos =
      rw (froms, tos, le-leb 0 from zero-le, le-leb to (top_of j) fits, and-true (leb asked-from to))

  -- the same of half-open ranges, where one is asked for that covers something
  half_open_pair : (asked-from asked-to : ℕ) → asked-from < asked-to → get_or q i [] ≡ range 0 (asked-to - 1)
      → get_or q j [] ≡ range (asked-from + 1) (top_of j) → pair_lies q i j from to ≡ (ltb from asked-to && ltb asked-from to)
  half_open_pair asked-from asked-to some froms tos =
      closed_pair (asked-from + 1) (asked-to - 1) froms tos ∙ rw (below, add-one asked-from)
    where
      below : leb from (asked-to - 1) ≡ ltb from asked-to
      below =
          tests_agree (leb from (asked-to - 1)) (ltb from asked-to)
          (λ e. lt-ltb from asked-to (omega (arith, leb-true from (asked-to - 1) e)))
          (λ e. le-leb from (asked-to - 1) (omega (arith, ltb-true from asked-to e)))

module _ (g : Grant) where
  abbrev b : Box
  b = g.bounds

  abbrev staff_lies : Region → Bool
  staff_lies q = pair_lies q 0 3 b.staff_from b.staff_to

  abbrev doors_lie : Region → Bool
  doors_lie q = pair_lies q 1 4 b.door_from b.door_to

  abbrev quarters_lie : Region → Bool
  quarters_lie q = pair_lies q 2 5 b.quarter_from b.quarter_to

  -- a grant's point lies in a range exactly if its three ranges do, each on its two axes, and its number
  inside-pairs : (q : Region) → inside q (point_of g) ≡ (staff_lies q && doors_lie q && quarters_lie q && lies q 6 g.number)
  unfolding point_of
  inside-pairs q = tests_agree (inside q (point_of g)) _ found hit
    where
      found : inside q (point_of g) ≡ true → (staff_lies q && doors_lie q && quarters_lie q && lies q 6 g.number) ≡ true
      found e =
          let on = inside-ends q (point_of g) e in
          rw (
            spans_lies q 0 _ (on 0 (lit< tt)),
            spans_lies q 3 _ (on 3 (lit< tt)),
            spans_lies q 1 _ (on 1 (lit< tt)),
            spans_lies q 4 _ (on 4 (lit< tt)),
            spans_lies q 2 _ (on 2 (lit< tt)),
            spans_lies q 5 _ (on 5 (lit< tt)),
          )
          (spans_lies q 6 _ (on 6 (lit< tt)))

      hit : (staff_lies q && doors_lie q && quarters_lie q && lies q 6 g.number) ≡ true → inside q (point_of g) ≡ true
      hit e =
          let all = and_four (staff_lies q) (doors_lie q) (quarters_lie q) (lies q 6 g.number) e in
          let s = (and-eq-true_iff (lies q 0 b.staff_from) (lies q 3 b.staff_to)).0 all.0 in
          let d = (and-eq-true_iff (lies q 1 b.door_from) (lies q 4 b.door_to)).0 all.1 in
          let t = (and-eq-true_iff (lies q 2 b.quarter_from) (lies q 5 b.quarter_to)).0 all.2 in
          ends-inside q (point_of g)
          (every-axis (λ a. Spans q a (get_or (point_of g) a 0))
          (lies_spans q 0 _ s.0) (lies_spans q 1 _ d.0) (lies_spans q 2 _ t.0)
          (lies_spans q 3 _ s.1) (lies_spans q 4 _ d.1) (lies_spans q 5 _ t.1)
          (lies_spans q 6 _ all.3))

module _ (g : Grant) (fits : GrantFits g) where
  value-fits : (i a : ℕ) → i < length (box_values g.bounds) → get_or (box_values g.bounds) i 0 ≤ top_of a
  value-fits i a h = omega (arith, fits.bounds _ (mem_get_d (box_values g.bounds) i 0 h))

  number_fits : g.number ≤ top_of 6
  number_fits = omega (arith, fits.number)

  staff-free : (q : Region) → get_or q 0 [] ≡ free 0 → get_or q 3 [] ≡ free 3 → staff_lies g q ≡ true
  staff-free q froms tos = free_pair q 0 3 _ _ (value-fits 1 3 (lit< tt)) froms tos (value-fits 0 0 (lit< tt))

  doors-free : (q : Region) → get_or q 1 [] ≡ free 1 → get_or q 4 [] ≡ free 4 → doors_lie g q ≡ true
  doors-free q froms tos = free_pair q 1 4 _ _ (value-fits 3 4 (lit< tt)) froms tos (value-fits 2 1 (lit< tt))

  quarters-free : (q : Region) → get_or q 2 [] ≡ free 2 → get_or q 5 [] ≡ free 5 → quarters_lie g q ≡ true
  quarters-free q froms tos = free_pair q 2 5 _ _ (value-fits 5 5 (lit< tt)) froms tos (value-fits 4 2 (lit< tt))

  pub box_hits_lem : (q : Box) → q.quarter_from < q.quarter_to → inside (range_of_box q) (point_of g) ≡ overlaps g.bounds q
  unfolding range_of_box overlaps
  box_hits_lem q some =
      let h = g.bounds in
      let r = range_of_box q in
      inside-pairs g r
      ∙ rw (
        closed_pair r 0 3 h.staff_from h.staff_to (value-fits 1 3 (lit< tt)) q.staff_from q.staff_to refl refl,
        closed_pair r 1 4 h.door_from h.door_to (value-fits 3 4 (lit< tt)) q.door_from q.door_to refl refl,
        half_open_pair r 2 5 h.quarter_from h.quarter_to (value-fits 5 5 (lit< tt)) q.quarter_from q.quarter_to some refl refl,
        free_lies r 6 g.number refl number_fits,
      )
      (and-true _)

  pub box_hits_iff : (q : Box) → q.quarter_from < q.quarter_to → T (inside (range_of_box q) (point_of g)) ↔ Overlap g.bounds q
  box_hits_iff q some = rw (box_hits_lem q some) (overlaps_iff g.bounds q)

  pub doors-hits : (d : Interval) → inside (range_of_doors d) (point_of g) ≡ touches d g
  unfolding range_of_doors
  doors-hits d =
      inside-pairs g (range_of_doors d)
      ∙ rw (
        staff-free (range_of_doors d) refl refl,
        quarters-free (range_of_doors d) refl refl,
        free_lies (range_of_doors d) 6 g.number refl number_fits,
        closed_pair (range_of_doors d) 1 4 g.bounds.door_from g.bounds.door_to (value-fits 3 4 (lit< tt)) d.from d.to refl refl,
      )
      (and-true _ ∙ and-true _)

  pub number-hits : (n : ℕ) → inside (range_of_number n) (point_of g) ≡ eqb g.number n
  unfolding range_of_number
  number-hits n =
      inside-pairs g (range_of_number n)
      ∙ rw (staff-free (range_of_number n) refl refl, doors-free (range_of_number n) refl refl, quarters-free (range_of_number n) refl refl)
      (single g.number)
    where
      single : (x : ℕ) → (leb n x && leb x n) ≡ eqb x n
      single x =
          tests_agree (leb n x && leb x n) (eqb x n)
          (λ e. let both = both_le n x x n e in eq-eqb x n (omega arith))
          (λ e. let same = eqb-true x n e in le_both n x x n (omega arith) (omega arith))

  pub all_hits : inside range_of_all (point_of g) ≡ true
  unfolding root_region count_from
  all_hits =
      inside-pairs g range_of_all
      ∙ rw (staff-free range_of_all refl refl, doors-free range_of_all refl refl, quarters-free range_of_all refl refl)
      (free_lies range_of_all 6 g.number refl number_fits)

pub box_one_sided : (b : Box) → OneSided (range_of_box b)
unfolding range_of_box
box_one_sided b = record { staff-from = refl; door-from = refl; quarter-from = refl; staff-to = refl; door-to = refl; quarter-to = refl }

pub doors_one_sided : (d : Interval) → OneSided (range_of_doors d)
unfolding range_of_doors
doors_one_sided d = record { staff-from = refl; door-from = refl; quarter-from = refl; staff-to = refl; door-to = refl; quarter-to = refl }

pub number_one_sided : (n : ℕ) → OneSided (range_of_number n)
unfolding range_of_number
number_one_sided n = record { staff-from = refl; door-from = refl; quarter-from = refl; staff-to = refl; door-to = refl; quarter-to = refl }

pub all_one_sided : OneSided range_of_all
unfolding root_region count_from
all_one_sided = record { staff-from = refl; door-from = refl; quarter-from = refl; staff-to = refl; door-to = refl; quarter-to = refl }

-- the comparisons that can fail, all made
module _ {q : Region} (p : List ℕ) (o : OneSided q) where
  pub hit_axes : low q 6 ≤ get_or p 6 0 → get_or p 6 0 ≤ high q 6 → get_or p 0 0 ≤ high q 0 → get_or p 1 0 ≤ high q 1 → get_or p 2 0 ≤ high q 2
      → low q 3 ≤ get_or p 3 0 → get_or p 3 0 ≤ top_of 3 → low q 4 ≤ get_or p 4 0 → get_or p 4 0 ≤ top_of 4 → low q 5 ≤ get_or p 5 0 → get_or p 5 0 ≤ top_of 5
      → inside q p ≡ true
  hit_axes n₀ n₁ s d t s₀ s₁ d₀ d₁ t₀ t₁ =
      ends-inside q p
      (every-axis (λ a. Spans q a (get_or p a 0))
      (record { above = omega (arith, o.staff-from); below = s })
      (record { above = omega (arith, o.door-from); below = d })
      (record { above = omega (arith, o.quarter-from); below = t })
      (record { above = s₀; below = omega (arith, o.staff-to, s₁) })
      (record { above = d₀; below = omega (arith, o.door-to, d₁) })
      (record { above = t₀; below = omega (arith, o.quarter-to, t₁) })
      (record { above = n₀; below = n₁ }))
