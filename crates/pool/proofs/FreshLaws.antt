-- Laws of the words that start makes.
--   length-fresh_pool                      as long as a pool of its cells
--   capacity-fresh_pool, root_fresh_pool, free-fresh_pool   its header: C, no root, the first cell free
--   field_fresh_pool                       the fields of each cell: those of a free cell that leads to the next one, the last to none
--   left-fresh_pool                        the left link of each cell
-- Assumes nothing.
use Prim.Native.Nat.{ℕ, zero, suc, ◌+◌, ◌-◌, ◌*◌, ◌<◌, ◌≤◌}
use mathlib.Core.Path.{◌≡◌, refl, sym, ap, ap₂, ◌∙◌}
use mathlib.Core.Bool.{Bool, true, false, cond}
use mathlib.Core.List.{◌++◌}
use native.Mathlib.Omega.{arith}
use lib.Dec.{eqb}
use lib.ListN.{length, get_or, length-append, get_or-append}
use lib.Seq.{get_or-append-add}
use borrow.Author.Tests.{eqb-true, eqb-false, eq-eqb, ne_eqb}
use Rattle.pool.specs.declared.Field.{Field}
use Rattle.pool.specs.declared.Field.TheVariants.{Left}
use Rattle.pool.specs.Layout.{capacity_place, root_place, free_place, cell_words, offset, place, field_of}
use Rattle.pool.specs.Capacity.{pool_length}
use Rattle.pool.specs.Fresh.{free_cell, free_cells, fresh_pool}
use Rattle.pool.proofs.LayoutLaws.{offset_lt}

length-free_cells : (n k : ℕ) → length (free_cells n k) ≡ cell_words * n
unfolding free_cells
length-free_cells zero k = refl
length-free_cells (suc n) k =
    let next = cond (eqb n 0) 0 (suc k) in
    let rest = free_cells n (suc k) in
    let e : cell_words + length rest ≡ cell_words * suc n = omega (arith, length-free_cells n (suc k)) in
    length-append (free_cell next) rest ∙ e

pub length-fresh_pool : (c : ℕ) → length (fresh_pool c) ≡ pool_length c
unfolding fresh_pool
length-fresh_pool c = omega (arith, length-free_cells c 1)

pub capacity-fresh_pool : (c : ℕ) → get_or (fresh_pool c) capacity_place 0 ≡ c
unfolding fresh_pool
capacity-fresh_pool c = refl

pub root_fresh_pool : (c : ℕ) → get_or (fresh_pool c) root_place 0 ≡ 0
unfolding fresh_pool
root_fresh_pool c = refl

pub free-fresh_pool : (c : ℕ) → get_or (fresh_pool c) free_place 0 ≡ 1
unfolding fresh_pool
free-fresh_pool c = refl

-- the word o of the free cell k, with n cells after it
abbrev free_word : ℕ → ℕ → ℕ → ℕ
free_word n k o = get_or (free_cell (cond (eqb n 0) 0 (suc k))) o 0

-- the word o of the cell m places after the first
get_d_free_cells : (n k m o : ℕ) → m < n → o < cell_words
    → get_or (free_cells n k) (m * cell_words + o) 0 ≡ free_word (n - suc m) (k + m) o
unfolding free_cells
get_d_free_cells zero k m o h l = absurd (omega arith)
get_d_free_cells (suc n) k zero o h l =
    let next = cond (eqb n 0) 0 (suc k) in
    let i : zero * cell_words + o ≡ o = omega arith in
    let d : suc n - suc zero ≡ n = omega arith in
    let e : k + zero ≡ k = omega arith in
    ap (λ (j : ℕ). get_or (free_cell next ++ free_cells n (suc k)) j 0) i
    ∙ get_or-append (free_cell next) (free_cells n (suc k)) 0 o l
    ∙ ap₂ (λ (i j : ℕ). free_word i j o) (sym d) (sym e)
get_d_free_cells (suc n) k (suc m) o h l =
    let next = cond (eqb n 0) 0 (suc k) in
    let i : suc m * cell_words + o ≡ cell_words + (m * cell_words + o) = omega arith in
    let d : suc n - suc (suc m) ≡ n - suc m = omega arith in
    let e : k + suc m ≡ suc k + m = omega arith in
    ap (λ (j : ℕ). get_or (free_cell next ++ free_cells n (suc k)) j 0) i
    ∙ get_or-append-add (free_cell next) (free_cells n (suc k)) (m * cell_words + o) 0
    ∙ get_d_free_cells n (suc k) m o (omega arith) l
    ∙ ap₂ (λ (i j : ℕ). free_word i j o) (sym d) (sym e)

last-cell : (c k : ℕ) → k ≤ c → eqb (c - k) 0 ≡ eqb k c
last-cell c k h = go (eqb k c) refl
  where
    go : (b : Bool) → eqb k c ≡ b → eqb (c - k) 0 ≡ b
    go true e = eq-eqb (c - k) 0 (omega (arith, eqb-true k c e))
    go false e = ne_eqb (c - k) 0 (λ z. eqb-false k c e (omega arith))

pub field_fresh_pool : (c k : ℕ) (f : Field) → 0 < k → k ≤ c
    → field_of (fresh_pool c) k f ≡ get_or (free_cell (cond (eqb k c) 0 (suc k))) (offset f) 0
unfolding field_of fresh_pool place
field_fresh_pool c k f pos le =
    let i : place k f ≡ suc (suc (suc ((k - 1) * cell_words + offset f))) = omega arith in
    let d : c - suc (k - 1) ≡ c - k = omega arith in
    let e : 1 + (k - 1) ≡ k = omega arith in
    ap (λ (j : ℕ). get_or (fresh_pool c) j 0) i
    ∙ get_d_free_cells c 1 (k - 1) (offset f) (omega arith) (offset_lt f)
    ∙ ap₂ (λ (i j : ℕ). free_word i j (offset f)) d e
    ∙ ap (λ (b : Bool). get_or (free_cell (cond b 0 (suc k))) (offset f) 0) (last-cell c k le)

pub left-fresh_pool : (c k : ℕ) → 0 < k → k ≤ c → field_of (fresh_pool c) k Left ≡ cond (eqb k c) 0 (suc k)
left-fresh_pool c k pos le = field_fresh_pool c k Left pos le
