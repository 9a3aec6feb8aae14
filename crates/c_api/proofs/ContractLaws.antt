-- The packed part of a block.
--   place_modulo                      where a block's records start, modulo what b holds, from the block's number modulo the same
--   part_none, part-some              the packed part of a block: empty, or not
-- Assumes nothing.
use Prim.Native.Nat.{ℕ, ◌+◌, ◌*◌, ◌%◌}
use mathlib.Core.Logic.{◌⊎◌, inl, inr}
use mathlib.Core.Path.{◌≡◌, ap, ◌∙◌}
use mathlib.Core.List.{List}
use native.Mathlib.Omega.{arith}
use lib.ListN.{length}
use denote.Ref.{Bor}
use Rattle.grants_file.specs.Layout.{block_bytes, records_place}
use Rattle.block_read.specs.BlockRead.{Part, empty_part, part_at, Occupies}
use Rattle.block_read.proofs.BlockReadSteps.{RecordsAt, part_cases}
use Rattle.packing.specs.Pack.{b_values, word}
use Rattle.c_api.specs.Contract.{pack_part}

pub place_modulo : (i : ℕ) → (block_bytes * (i % b_values) + records_place) % b_values ≡ (block_bytes * i + records_place) % b_values
place_modulo i = omega arith

module _ (i : ℕ) {whole part : Bor (List ℕ)} (o : Occupies (part_at whole.now i) whole part) {r : ℕ} where
  pub part_none : length part.now ≡ 0 → r ≡ word 0 0 0 → r ≡ pack_part whole.now i
  unfolding pack_part
  part_none z p = go (part_cases whole.now i)
    where
      go : (part_at whole.now i ≡ empty_part) ⊎ RecordsAt whole.now i → r ≡ word 0 (part_at whole.now i).size (part_at whole.now i).from
      go (inl e) = rw e p
      go (inr h) = absurd (omega (arith, h.some, o.long, ap (λ (x : Part). x.size) h.part))

  pub part-some : (length part.now ≡ 0 → ⊥) → r ≡ word 0 (length part.now) (block_bytes * (i % b_values) + records_place) → r ≡ pack_part whole.now i
  unfolding pack_part word
  part-some n p = go (part_cases whole.now i)
    where
      go : (part_at whole.now i ≡ empty_part) ⊎ RecordsAt whole.now i → r ≡ word 0 (part_at whole.now i).size (part_at whole.now i).from
      go (inl e) = absurd (n (o.long ∙ ap (λ (x : Part). x.size) e))
      go (inr h) = rw h.part (rw (← (o.long ∙ ap (λ (x : Part). x.size) h.part), ← place_modulo i) p)
