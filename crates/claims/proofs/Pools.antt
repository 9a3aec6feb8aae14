-- Small pools for the tables, word by word (document 01, "The tree"), most of them scrambled. Assumes nothing.
--   node left right number parent    a cell with these links, this number and this parent, zeros elsewhere; no box with a quarter in it overlaps
--                              such a cell
--   timed left right number parent   the same with quarters 0 1
--   chain s n k                n cells from the cell k on, each with its link on the side s to the one after it, and the one before as its parent
--   pool c root free cells     the words of a pool of c cells; `cells` are the first of them, the others are zeros
use Prim.Native.Nat.{ℕ, zero, suc, ◌-◌, ◌*◌}
use mathlib.Core.List.{List, [], ◌∷◌, ◌++◌}
use lib.ListN.{length, replicate}
use Rattle.geometry.specs.declared.Side.{Side}
use Rattle.geometry.specs.declared.Side.TheVariants.{Left, Right}

abbrev pub node : ℕ → ℕ → ℕ → ℕ → List ℕ
node left right number parent = left ∷ right ∷ number ∷ replicate 7 0 ++ (parent ∷ [])

abbrev pub timed : ℕ → ℕ → ℕ → ℕ → List ℕ
timed left right number parent = left ∷ right ∷ number ∷ replicate 6 0 ++ (1 ∷ parent ∷ [])

abbrev pub node_to : Side → ℕ → ℕ → List ℕ
node_to Left k parent = node k 0 0 parent
node_to Right k parent = node 0 k 0 parent

abbrev pub chain : Side → ℕ → ℕ → List ℕ
chain s zero k = []
chain s (suc n) k = node_to s (suc k) (k - 1) ++ chain s n (suc k)

abbrev pub pool : ℕ → ℕ → ℕ → List ℕ → List ℕ
pool c root free cells = c ∷ root ∷ free ∷ cells ++ replicate (11 * c - length cells) 0
