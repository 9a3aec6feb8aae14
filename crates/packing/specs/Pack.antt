-- An answer of document 01's numbers as the one word that a C call returns.
--   number_values, a_values, b_values   how many values the bits of each part hold
--   word number a b     bits 0 to 7 the fault's number (0: accepted), bits 8 to 31 a, bits 32 to 63 b
--   pack_refusal n vs    a refusal: fault 8's value (the count needed) is a, any other fault's value is b
--   pack answer         an accepted answer's first value is a: list, decide, match; of start, grant, revoke, load and the verdict on a block nothing
--   pack_pair answer     its first value is a, its second is b: count
--   pack_length answer   its first value is b: write
--   left_values          how many values each half of b holds
--   halves x y          two numbers in b, x in the high half
--   pack_three answer    its first value is a, its second and third are the halves of b: the comparison of two records
-- A value is taken modulo what its bits hold. The values of every call fit them: the claim AnswersFit (claims/specs/PackedFits).
-- Assumes nothing: these are definitions.
use Rattle.std.specs.Prelude.{ℕ, ◌+◌, ◌*◌, ◌%◌, cond, List, eqb, get_or}
use Rattle.model.specs.declared.Fault.TheVariants.{ListTooShort}
use Rattle.model.specs.Fault.{fault_number}
use Rattle.model.specs.Answer.{Answer, accepted, refused}

abbrev pub number_values : ℕ
number_values = 256

abbrev pub a_values : ℕ
a_values = 16777216

abbrev pub b_values : ℕ
b_values = 4294967296

unfoldable pub word : ℕ → ℕ → ℕ → ℕ
word number a b = number % number_values + 256 * (a % a_values) + 4294967296 * (b % b_values)

-- the first values; 0 where there is none
abbrev pub first_of : List ℕ → ℕ
first_of values = get_or values 0 0

abbrev pub second_of : List ℕ → ℕ
second_of values = get_or values 1 0

abbrev pub third_of : List ℕ → ℕ
third_of values = get_or values 2 0

-- fault 8's number: its value is a count
abbrev pub list_fault : ℕ
list_fault = fault_number (ListTooShort 0)

abbrev pub pack_refusal : ℕ → List ℕ → ℕ
pack_refusal number values = cond (eqb number list_fault) (word number (first_of values) 0) (word number 0 (first_of values))

abbrev pub pack : Answer → ℕ
pack (accepted values) = word 0 (first_of values) 0
pack (refused number values) = pack_refusal number values

abbrev pub pack_pair : Answer → ℕ
pack_pair (accepted values) = word 0 (first_of values) (second_of values)
pack_pair (refused number values) = pack_refusal number values

abbrev pub pack_length : Answer → ℕ
pack_length (accepted values) = word 0 0 (first_of values)
pack_length (refused number values) = pack_refusal number values

abbrev pub left_values : ℕ
left_values = 65536

unfoldable pub halves : ℕ → ℕ → ℕ
halves x y = 65536 * (x % left_values) + y % left_values

abbrev pub pack_three : Answer → ℕ
pack_three (accepted values) = word 0 (first_of values) (halves (second_of values) (third_of values))
pack_three (refused number values) = pack_refusal number values
