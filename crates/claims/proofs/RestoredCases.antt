-- The same grants, given in another order, on numbers (document 02, card 7), as rows of `tried-cases`. What is answered and written is the same; the
-- words of the pools are not, so that pools tell nothing when they are compared. What is wanted was worked out by hand. Assumes nothing.
--   word_cases      three lists of calls that leave the grants 3 and 7, on two cells each: three pools, no two of them with the same words
--   answer_cases    what each of them then answers, and one on five cells
--   file_cases      the file of all doors, written by each; with another rank of one grant, another file
use Prim.Native.Nat.{ℕ, ◌+◌, ◌*◌}
use mathlib.Core.List.{List, [], ◌∷◌, ◌++◌, map}
use lib.ListN.{replicate}
use Rattle.lists.specs.Tests.{same_numbers}
use Rattle.model.specs.declared.Grant.{Grant}
use Rattle.model.specs.declared.Choice.TheVariants.{Touching, Holding}
use Rattle.model.specs.declared.Kind.TheVariants.{Bars, Opens}
use Rattle.model.specs.Call.{request_of, Call, grant, revoke, list, decide}
use Rattle.model.specs.Histories.{responses}
use Rattle.grants_file.specs.File.{file_of}
use Rattle.calls.specs.Calls.{words_step}
use Rattle.calls.specs.FileCalls.{write_call}
use Rattle.claims.specs.Claims.{words_after}
use Rattle.claims.specs.SameGrantsSameBytes.{all_doors}
use Rattle.claims.proofs.Cases.{Case, box, one, test, numbers}

abbrev three : Grant
three = record { number = 3; rank = 20; kind = Bars; bounds = box 150 150 12 12 0 65535 }

abbrev seven : Grant
seven = record { number = 7; rank = 10; kind = Opens; bounds = box 100 199 1 40 32 64 }

-- the same but for its rank
abbrev higher : Grant
higher = record { number = 7; rank = 11; kind = Opens; bounds = box 100 199 1 40 32 64 }

abbrev given : Grant → Call
given g = grant (request_of g)

-- in the order of the journal, in that of the paper, and with 7 revoked and given again
abbrev journal : List Call
journal = given seven ∷ given three ∷ []

abbrev paper : List Call
paper = given three ∷ given seven ∷ []

abbrev corrected : List Call
corrected = given seven ∷ given three ∷ revoke 7 ∷ given seven ∷ []

-- the words after calls on a fresh index of so many cells
abbrev left : ℕ → List Call → List ℕ
left c calls = words_after (replicate (3 + 11 * c) 9) calls

-- the words of a cell that carries 7, or 3, with this left link and this parent
abbrev cell_of7 : ℕ → ℕ → List ℕ
cell_of7 l p = l ∷ 0 ∷ 7 ∷ 21 ∷ 100 ∷ 199 ∷ 1 ∷ 40 ∷ 32 ∷ 64 ∷ p ∷ []

abbrev cell_of3 : ℕ → ℕ → List ℕ
cell_of3 l p = l ∷ 0 ∷ 3 ∷ 40 ∷ 150 ∷ 150 ∷ 12 ∷ 12 ∷ 0 ∷ 65535 ∷ p ∷ []

abbrev word_cases : List Case
word_cases =
    record { given = left 2 journal; wanted = 2 ∷ 1 ∷ 0 ∷ cell_of7 2 0 ++ cell_of3 0 1 }
    ∷ record { given = left 2 paper; wanted = 2 ∷ 1 ∷ 0 ∷ cell_of3 2 0 ++ cell_of7 0 1 }
    ∷ record { given = left 2 corrected; wanted = 2 ∷ 2 ∷ 0 ∷ cell_of7 0 2 ++ cell_of3 1 0 }
    ∷ []

-- everything; one point's box under holding, with room for one of two numbers; who decides for staff 150, and for 120
abbrev questions : List Call
questions =
    list (box 0 65535 0 65535 0 65535) Touching (9 ∷ 9 ∷ 9 ∷ [])
    ∷ list (box 150 150 12 12 40 41) Holding (9 ∷ [])
    ∷ decide 150 12 40
    ∷ decide 120 12 40
    ∷ []

abbrev answers : List ℕ
answers =
    0 ∷ 2 ∷ 3 ∷ 7 ∷ 9
    ∷ 8 ∷ 2 ∷ 9
    ∷ 0 ∷ 2 ∷ 3 ∷ 20 ∷ 0 ∷ 150 ∷ 150 ∷ 12 ∷ 12 ∷ 0 ∷ 65535
    ∷ 0 ∷ 1 ∷ 7 ∷ 10 ∷ 1 ∷ 100 ∷ 199 ∷ 1 ∷ 40 ∷ 32 ∷ 64
    ∷ []

abbrev answered : List ℕ → Case
answered w = record { given = numbers (responses words_step w questions); wanted = answers }

abbrev answer_cases : List Case
answer_cases = map answered (left 2 journal ∷ left 2 paper ∷ left 2 corrected ∷ left 5 paper ∷ [])

abbrev written : List ℕ → List ℕ
written w = (write_call w all_doors (replicate 1024 5)).lent

abbrev file_cases : List Case
file_cases =
    record { given = written (left 2 journal); wanted = file_of all_doors (three ∷ seven ∷ []) }
    ∷ record { given = written (left 2 paper); wanted = file_of all_doors (three ∷ seven ∷ []) }
    ∷ record { given = written (left 2 corrected); wanted = file_of all_doors (three ∷ seven ∷ []) }
    ∷ record { given = test (same_numbers (written (left 2 paper)) (written (left 2 (given three ∷ given higher ∷ [])))); wanted = one 0 }
    ∷ []

abbrev pub restored_cases : List Case
restored_cases = word_cases ++ answer_cases ++ file_cases
