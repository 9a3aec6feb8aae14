-- When the values of an answer fit the bits of the word that they are packed into (Pack), and the claim that those of every call do.
--   FitsRefusal number values    the number, which is not that of an accepted answer, and the value beside it
--   Fits answer                  for pack: of an accepted answer the first value, as a
--   FitsPair answer              for pack_pair: the first value as a, the second as b
--   FitsLength answer            for pack_length: the first value as b
--   FitsThree answer             for pack_three: the first value as a, the second and the third as the halves of b
--   FitsPart f i                 for pack_part: the length of block i's part as a, the place where it starts as b
--   AnswersFit                   the claim: each C function's answer fits its packing, on any memory and whatever is asked
-- Assumes nothing: these are definitions.
use Rattle.std.specs.Prelude.{ℕ, ◌<◌, cond, List, eqb}
use Rattle.model.specs.declared.Box.{Box}
use Rattle.model.specs.declared.Choice.{Choice}
use Rattle.model.specs.Interval.{Interval}
use Rattle.model.specs.Answer.{Answer, accepted, refused}
use Rattle.model.specs.Call.{Request}
use Rattle.model.specs.Values.{word_values, byte_values, Below}
use Rattle.block_read.specs.BlockRead.{part_at, block_call}
use Rattle.calls.specs.Calls.{start_call, grant_call, revoke_call, list_call, decide_call, count_call}
use Rattle.calls.specs.FileCalls.{write_call, load_call, match_call}
use Rattle.openings.specs.Compare.{compare_call}
use Rattle.packing.specs.Pack.{number_values, a_values, b_values, left_values, first_of, second_of, third_of, list_fault}

-- fault 8's value is a, any other fault's b
pub record FitsRefusal (number : ℕ) (values : List ℕ) : Type 0 where
  pub some : 0 < number
  pub few : number < number_values
  pub value : first_of values < cond (eqb number list_fault) a_values b_values

abbrev pub Fits : Answer → Type 0
Fits (accepted values) = first_of values < a_values
Fits (refused number values) = FitsRefusal number values

abbrev pub FitsPair : Answer → Type 0
FitsPair (accepted values) = (first_of values < a_values) × (second_of values < b_values)
FitsPair (refused number values) = FitsRefusal number values

abbrev pub FitsLength : Answer → Type 0
FitsLength (accepted values) = first_of values < b_values
FitsLength (refused number values) = FitsRefusal number values

abbrev pub FitsThree : Answer → Type 0
FitsThree (accepted values) = (first_of values < a_values) × (second_of values < left_values) × (third_of values < left_values)
FitsThree (refused number values) = FitsRefusal number values

pub record FitsPart (f : List ℕ) (i : ℕ) : Type 0 where
  pub size : (part_at f i).size < a_values
  pub place : (part_at f i).from < b_values

-- match's answer is a number of the pool or of the file, so it asks that they are words of 16 bits and bytes
pub record AnswersFit : Type 0 where
  pub start : (w : List ℕ) → Fits (start_call w).answer
  pub grant : (w : List ℕ) (r : Request) → Fits (grant_call w r).answer
  pub revoke : (w : List ℕ) (n : ℕ) → Fits (revoke_call w n).answer
  pub list : (w : List ℕ) (q : Box) (choice : Choice) (lent : List ℕ) → Fits (list_call w q choice lent).answer
  pub decide : (w : List ℕ) (staff door quarter : ℕ) → Fits (decide_call w staff door quarter).answer
  pub count : (w : List ℕ) → FitsPair (count_call w).answer
  pub write : (w : List ℕ) (doors : Interval) (lent : List ℕ) → FitsLength (write_call w doors lent).answer
  pub load : (w f : List ℕ) → Fits (load_call w f).answer
  pub «match» : (w f : List ℕ) → Below word_values w → Below byte_values f → Fits (match_call w f).answer
  pub block : (f : List ℕ) (i : ℕ) → Fits (block_call f i).answer
  pub part : (f : List ℕ) (i : ℕ) → FitsPart f i
  pub compare : (door panel : List ℕ) → FitsThree (compare_call door panel).answer
