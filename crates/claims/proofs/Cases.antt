-- A table of cases: what a definition gives beside what it must give, as numbers. `passed` computes over the whole table, or over parts of it
-- (`passed_append`). Assumes nothing.
use Prim.Native.Nat.{ℕ}
use mathlib.Core.Bool.{Bool, cond}
use mathlib.Core.List.{List, [], ◌∷◌, ◌++◌}
use lib.Dec.{T}
use Rattle.lists.specs.Tests.{every, same_numbers}
use Rattle.lists.proofs.TestLaws.{T_and}
use Rattle.model.specs.declared.Box.{Box}
use Rattle.geometry.specs.declared.Side.{Side}
use Rattle.geometry.specs.declared.Side.TheVariants.{Left, Right}
use Rattle.model.specs.Answer.{Answer, accepted, refused}
use Rattle.model.specs.Histories.{Response}

pub record Case : Type 0 where
  pub given : List ℕ
  pub wanted : List ℕ

abbrev pub passed : List Case → Bool
passed cases = every (λ c. same_numbers c.given c.wanted) cases

pub passed_append : (xs ys : List Case) → T (passed xs) → T (passed ys) → T (passed (xs ++ ys))
unfolding every
passed_append [] ys a b = b
passed_append (x ∷ xs) ys a b =
    let both = (T_and (same_numbers x.given x.wanted) (passed xs)).0 a in
    (T_and (same_numbers x.given x.wanted) (passed (xs ++ ys))).1 (both.0, passed_append xs ys both.1 b)

-- staff from and to, door from and to, quarter from and to
abbrev pub box : ℕ → ℕ → ℕ → ℕ → ℕ → ℕ → Box
box a b c d e f =
    record { staff_from = a; staff_to = b; door_from = c; door_to = d; quarter_from = e; quarter_to = f }

-- a single number, a test, a side, an answer
abbrev pub one : ℕ → List ℕ
one n = n ∷ []

abbrev pub test : Bool → List ℕ
test b = cond b (one 1) (one 0)

abbrev pub side : Side → List ℕ
side Left = one 0
side Right = one 1

-- 0 and the values, or the fault and its values
abbrev pub responses : Answer → List ℕ
responses (accepted values) = 0 ∷ values
responses (refused number values) = number ∷ values

-- of each call in a row, its answer and the lent list after it
abbrev pub numbers : List Response → List ℕ
numbers [] = []
numbers (t ∷ ts) = responses t.answer ++ t.lent ++ numbers ts
