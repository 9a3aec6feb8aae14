-- What a C program reads from a packed word, and the claim that it is the answer that was packed.
--   Reads x number a b    LG_FAULT, LG_A and LG_B of include/lg.h, by shifts and masks, take these three from the word x
--   ReadsHalves b x y     LG_LEFT_IN_DOOR and LG_LEFT_IN_PANEL take these two from a word whose b this is
--   ReadsBack             the claim: a packed answer that fits (Fits) reads back as its number, 0 if accepted, and its packed values
-- Assumes nothing: these are definitions.
use Rattle.std.specs.Prelude.{ℕ, ◌/◌, ◌%◌, ◌≡◌, cond, List, eqb}
use Rattle.model.specs.Answer.{accepted}
use Rattle.block_read.specs.BlockRead.{part_at}
use Rattle.packing.specs.Pack.{number_values, a_values, first_of, second_of, third_of, pack_refusal, pack, pack_pair, pack_length, list_fault}
use Rattle.packing.specs.Pack.{left_values, halves, pack_three}
use Rattle.c_api.specs.Contract.{pack_part}
use Rattle.claims.specs.PackedFits.{FitsRefusal, Fits, FitsPair, FitsLength, FitsThree, FitsPart}

pub record Reads (x number a b : ℕ) : Type 0 where
  pub number_read : x % number_values ≡ number
  pub a_read : x / 256 % a_values ≡ a
  pub b_read : x / 4294967296 ≡ b

pub record ReadsHalves (b x y : ℕ) : Type 0 where
  pub high_read : b / 65536 ≡ x
  pub low_read : b % left_values ≡ y

-- a refusal's value is in a with fault 8, in b with any other; what isn't used is 0
pub record ReadsBack : Type 0 where
  pub refusals : (number : ℕ) (values : List ℕ) → FitsRefusal number values
      → Reads (pack_refusal number values) number (cond (eqb number list_fault) (first_of values) 0) (cond (eqb number list_fault) 0 (first_of values))
  pub values : (values : List ℕ) → Fits (accepted values) → Reads (pack (accepted values)) 0 (first_of values) 0
  pub pairs : (values : List ℕ) → FitsPair (accepted values) → Reads (pack_pair (accepted values)) 0 (first_of values) (second_of values)
  pub lengths : (values : List ℕ) → FitsLength (accepted values) → Reads (pack_length (accepted values)) 0 0 (first_of values)
  pub threes : (values : List ℕ) → FitsThree (accepted values)
      → let b = halves (second_of values) (third_of values) in
      Reads (pack_three (accepted values)) 0 (first_of values) b × ReadsHalves b (second_of values) (third_of values)
  pub parts : (f : List ℕ) (i : ℕ) → FitsPart f i → Reads (pack_part f i) 0 (part_at f i).size (part_at f i).from
