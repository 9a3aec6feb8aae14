-- Packed answers read back (specs/Reads).
--   reads_word     a word's three parts, where they fit their bits
--   reads_back     the claim
-- Assumes nothing.
use Prim.Native.Nat.{ℕ, ◌<◌}
use mathlib.Core.Bool.{Bool, true, false, cond}
use mathlib.Core.List.{List}
use native.Mathlib.Omega.{arith}
use lib.Dec.{eqb, lit<}
use Rattle.block_read.specs.BlockRead.{part_at}
use Rattle.packing.specs.Pack.{number_values, a_values, b_values, left_values, word, first_of, halves, pack_refusal, list_fault}
use Rattle.c_api.specs.Contract.{pack_part}
use Rattle.claims.specs.PackedFits.{FitsRefusal, FitsPart}
use Rattle.claims.specs.PackedReads.{Reads, ReadsHalves, ReadsBack}
use Rattle.packing.proofs.PackLaws.{number_word, a_word, b_word}

pub reads_word : (number a b : ℕ) → number < number_values → a < a_values → b < b_values → Reads (word number a b) number a b
reads_word number a b n k m =
    record { number_read = number_word number a b n k m; a_read = a_word number a b n k m; b_read = b_word number a b n k m }

refusal_reads : (number : ℕ) (values : List ℕ) → FitsRefusal number values
    → Reads (pack_refusal number values) number (cond (eqb number list_fault) (first_of values) 0) (cond (eqb number list_fault) 0 (first_of values))
refusal_reads number values h = go (eqb number list_fault) h.value
  where
    v : ℕ
    v = first_of values

    go : (eight : Bool) → v < cond eight a_values b_values
        → Reads (cond eight (word number v 0) (word number 0 v)) number (cond eight v 0) (cond eight 0 v)
    go true k = reads_word number v 0 h.few k (lit< tt)
    go false k = reads_word number 0 v h.few (lit< tt) k

module _ (x y : ℕ) (h : x < left_values) (l : y < left_values) where
  halves_fit : halves x y < b_values
  unfolding halves
  halves_fit = omega arith

  halves-read : ReadsHalves (halves x y) x y
  unfolding halves
  halves-read = record { high_read = omega arith; low_read = omega arith }

part_reads : (f : List ℕ) (i : ℕ) → FitsPart f i → Reads (pack_part f i) 0 (part_at f i).size (part_at f i).from
unfolding pack_part
part_reads f i h = reads_word 0 (part_at f i).size (part_at f i).from (lit< tt) h.size h.place

pub reads_back : ReadsBack
reads_back =
    record {
      refusals = refusal_reads;
      values = λ values h. reads_word 0 _ 0 (lit< tt) h (lit< tt);
      pairs = λ values h. reads_word 0 _ _ (lit< tt) h.0 h.1;
      lengths = λ values h. reads_word 0 0 _ (lit< tt) (lit< tt) h;
      threes = λ values h. (reads_word 0 _ _ (lit< tt) h.0 (halves_fit _ _ h.1 h.2), halves-read _ _ h.1 h.2);
      parts = part_reads;
    }
