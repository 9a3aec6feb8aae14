-- How a C call's contract says that it returned and left what the definition of its call gives.
--   PacksPool word pool r          a call that may change the pool
--   PacksLent packing word lent r  list and write: the lent list, the lent bytes
--   pack_part f i                   the part of block i's records: a its length, b where it starts in the file; both 0 where the part is empty
--   box_of                          six arguments as document 01's box
-- Memory lent with no right to change it stays by itself.
-- Assumes nothing: these are definitions.
use Rattle.std.specs.Prelude.{ℕ, ◌≡◌, List}
use Rattle.model.specs.declared.Box.{Box}
use Rattle.model.specs.Answer.{Answer}
use Rattle.model.specs.Refusal.{Step}
use Rattle.block_read.specs.BlockRead.{part_at}
use Rattle.packing.specs.Pack.{word, pack}

pub record PacksPool (word : ℕ) (pool : List ℕ) (r : Step (List ℕ)) : Type 0 where
  pub answered : word ≡ pack r.answer
  pub left : pool ≡ r.state

pub record PacksLent (packing : Answer → ℕ) (word : ℕ) (lent : List ℕ) (r : Step (List ℕ)) : Type 0 where
  pub answered : word ≡ packing r.answer
  pub left : lent ≡ r.lent

unfoldable pub pack_part : List ℕ → ℕ → ℕ
pack_part f i = word 0 (part_at f i).size (part_at f i).from

abbrev pub box_of : ℕ → ℕ → ℕ → ℕ → ℕ → ℕ → Box
box_of staffFrom staffTo doorFrom doorTo quarterFrom quarterTo =
    record {
      staff_from = staffFrom;
      staff_to = staffTo;
      door_from = doorFrom;
      door_to = doorTo;
      quarter_from = quarterFrom;
      quarter_to = quarterTo;
    }
