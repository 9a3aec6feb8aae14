-- The table of powers (document 02, card 5; document 01, "The shape each place takes"): powers 0 to 509 of 256 modulo 65521.
--   is_table                its rule, a test that is computed over the whole table; what it gives is proofs/PowerTableLaws `table-powers`
--   Summable, Shiftable    what the code needs to add products, and to put bytes behind a remainder
-- Assumes nothing: these are definitions.
use Rattle.std.specs.Prelude.{ℕ, ◌+◌, ◌*◌, ◌%◌, ◌<◌, ◌≤◌, Bool, true, ◌&&◌, List, [], ◌∷◌, T, eqb, length}
use Rattle.checksum.specs.Checksum.{modulus}

abbrev pub entries : ℕ
entries = 510

-- a byte times an entry is at most 255 × 65520
abbrev pub most_product : ℕ
most_product = 16707600

-- a geometric sequence: the first entry is x, each of the others is 256 times its neighbour before it, modulo 65521
unfoldable pub is_geometric : ℕ → List ℕ → Bool
is_geometric x [] = true
is_geometric x (y ∷ ys) = eqb y x && is_geometric (256 * y % modulus) ys

-- the test of a table: 510 entries, the first is 1, each of the others is 256 times its neighbour before it, modulo 65521
unfoldable pub is_table : List ℕ → Bool
is_table table = eqb (length table) entries && is_geometric 1 table

-- bytes with so many others behind them: each has its power in the table, and their products add up to less than 2 ^ 32
pub record Summable (table bytes : List ℕ) (behind : ℕ) : Type 0 where
  pub rule : T (is_table table)
  pub few : length bytes ≤ 255
  pub inside : length bytes + behind ≤ entries

-- a remainder with so many bytes behind it, whose power is an entry or 256 times the last
pub record Shiftable (table : List ℕ) (places remainder : ℕ) : Type 0 where
  pub rule : T (is_table table)
  pub near : places ≤ entries
  pub reduced : remainder < modulus
