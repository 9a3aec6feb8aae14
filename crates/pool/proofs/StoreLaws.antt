-- The words of a cell, stored as a part of the pool.
--   cell_stored    a part of as many words, which stands at the cell's place
-- Assumes nothing.
use Prim.Native.Nat.{ℕ, ◌+◌, ◌≤◌}
use mathlib.Core.Path.{◌≡◌, sym, ◌∙◌}
use mathlib.Core.List.{List, ◌++◌, append_assoc}
use native.Mathlib.Omega.{arith}
use borrow.Rule.Slice.PartMut.{put_mid}
use lib.ListN.{length, take, drop}
use lib.Seq.{sets, sets-eq, drop-drop}
use Rattle.pool.specs.declared.Field.TheVariants.{Left}
use Rattle.pool.specs.Layout.{cell_words, place}
use Rattle.pool.specs.Cell.{with_cell}

pub cell_stored : (w ws : List ℕ) (k at n : ℕ) → at ≡ place k Left → length ws ≡ cell_words → n ≡ cell_words → at + cell_words ≤ length w
    → put_mid at n w ws ≡ with_cell w k ws
unfolding with_cell
cell_stored w ws k at n e ten m long =
    let whole : sets w at ws ≡ take at w ++ ws ++ drop (at + length ws) w = sets-eq ws w at (omega arith) in
    let same : n ≡ length ws = omega arith in
    rw (same, ← e, drop-drop) (sym (whole ∙ append_assoc (take at w) ws (drop (at + length ws) w)))
