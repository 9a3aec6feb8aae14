-- Making the free cells from the last one down: a turn of the loop, and its ends.
--   free_turn     one more cell, in front of those done
--   free-next     the cell that the next one to be made leads to
--   free-none, free_done   before the first turn, and after the last
--   header_stored   the header's three stores
--   fresh-whole   header and cells together
-- Assumes nothing.
use Prim.Native.Nat.{ℕ, zero, suc, ◌+◌, ◌-◌, ◌<◌, ◌≤◌}
use mathlib.Core.Path.{◌≡◌, refl, sym, ap, ◌∙◌}
use mathlib.Core.Bool.{false, cond}
use mathlib.Core.List.{List, [], ◌∷◌, ◌++◌, append_assoc}
use native.Mathlib.Nat.{sub-zero}
use native.Mathlib.Omega.{arith}
use lib.Dec.{eqb}
use lib.ListN.{length, take, drop, set, take-append-drop}
use lib.Seq.{sets, sets-eq, drop_at, length-take-le, take-append-le, take-take, drop-length}
use borrow.Author.Tests.{ne_eqb}
use Rattle.pool.specs.declared.Field.TheVariants.{Left}
use Rattle.pool.specs.Layout.{header_words, cell_words, place}
use Rattle.pool.specs.Capacity.{pool_length}
use Rattle.pool.specs.Cell.{with_cell}
use Rattle.pool.specs.Fresh.{free_cell, free_cells, fresh_pool}

module _ (w : List ℕ) (k : ℕ) (ws : List ℕ) (n : length ws ≡ cell_words) (pos : 0 < k) (long : pool_length k ≤ length w) where
  at_place : place k Left ≡ pool_length (k - 1)
  unfolding place
  at_place = omega arith

  with_parts : with_cell w k ws ≡ take (pool_length (k - 1)) w ++ (ws ++ drop (pool_length k) w)
  unfolding with_cell
  with_parts =
      let p = pool_length (k - 1) in
      let e : p + length ws ≡ pool_length k = omega arith in
      let a : sets w (place k Left) ws ≡ sets w p ws = ap (λ (i : ℕ). sets w i ws) at_place in
      let b : sets w p ws ≡ take p w ++ ws ++ drop (p + length ws) w = sets-eq ws w p (omega arith) in
      let d : take p w ++ ws ++ drop (p + length ws) w ≡ take p w ++ ws ++ drop (pool_length k) w = ap (λ (i : ℕ). take p w ++ ws ++ drop i w) e in
      a ∙ b ∙ d ∙ append_assoc (take p w) ws (drop (pool_length k) w)

  front : length (take (pool_length (k - 1)) w) ≡ pool_length (k - 1)
  front = length-take-le (pool_length (k - 1)) w (omega arith)

  drop-with_cell : drop (pool_length (k - 1)) (with_cell w k ws) ≡ ws ++ drop (pool_length k) w
  drop-with_cell = rw with_parts (drop_at (take (pool_length (k - 1)) w) (ws ++ drop (pool_length k) w) (pool_length (k - 1)) front)

  pub header_kept : take header_words (with_cell w k ws) ≡ take header_words w
  header_kept =
      rw with_parts
      (take-append-le header_words (take (pool_length (k - 1)) w) (ws ++ drop (pool_length k) w) (omega (arith, front))
      ∙ take-take header_words (pool_length (k - 1)) w (omega arith))

pub free_turn : (w : List ℕ) (c k next : ℕ) → 0 < k → k ≤ c → pool_length k ≤ length w → next ≡ cond (eqb (c - k) 0) 0 (suc k)
    → drop (pool_length k) w ≡ free_cells (c - k) (suc k) → drop (pool_length (k - 1)) (with_cell w k (free_cell next)) ≡ free_cells (c - (k - 1)) (suc (k - 1))
unfolding free_cells
free_turn w c k next pos le long e done =
    let a : c - (k - 1) ≡ suc (c - k) = omega arith in
    let b : suc (k - 1) ≡ k = omega arith in
    rw (a, b, ← e, ← done) (drop-with_cell w k (free_cell next) refl pos long)

pub free-next : (c k : ℕ) → 0 < k → k ≤ c → k ≡ cond (eqb (c - (k - 1)) 0) 0 (suc (k - 1))
free-next c k pos le =
    let b : suc (k - 1) ≡ k = omega arith in
    let z : eqb (c - (k - 1)) 0 ≡ false = ne_eqb (c - (k - 1)) 0 (omega arith) in
    rw (z, b)

pub fresh-whole : (c : ℕ) (w : List ℕ) → take header_words w ≡ c ∷ 0 ∷ 1 ∷ [] → drop header_words w ≡ free_cells c 1 → w ≡ fresh_pool c
unfolding fresh_pool
fresh-whole c w h d = sym (take-append-drop header_words w) ∙ rw (h, d)

-- before the first turn, and after the last
pub free-none : (w : List ℕ) (c : ℕ) → length w ≡ pool_length c → (0 ≡ cond (eqb (c - c) 0) 0 (suc c)) × (drop (pool_length c) w ≡ free_cells (c - c) (suc c))
unfolding free_cells
free-none w c e =
    let z : c - c ≡ 0 = omega arith in
    (rw z, rw (z, ← e) (drop-length w))

pub free_done : (w : List ℕ) (c k : ℕ) → k ≤ 0 → drop (pool_length k) w ≡ free_cells (c - k) (suc k) → drop header_words w ≡ free_cells c 1
free_done w c zero h d = rw sub-zero at d
free_done w c (suc k) h d = absurd (omega arith)

pub header_stored : (w : List ℕ) (c : ℕ) → 3 ≤ length w → take header_words (set (set (set w 0 c) 1 0) 2 1) ≡ c ∷ 0 ∷ 1 ∷ []
header_stored [] c h = absurd (omega arith)
header_stored (x ∷ []) c h = absurd (omega arith)
header_stored (x ∷ y ∷ []) c h = absurd (omega arith)
header_stored (x ∷ y ∷ z ∷ w) c h = refl
