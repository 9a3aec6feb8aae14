-- The values of a field: below 65536, of rank below 256 (document 01: all fields are unsigned 16-bit except rank and kind).
--   Below n xs      each number of xs is below n
--   BoxFits b, GrantFits g, CallFits c, CallsFit cs
-- Only what a grant stores must fit: list, decide and revoke are right whatever numbers they are asked.
-- Assumes nothing: these are definitions.
use Rattle.std.specs.Prelude.{ℕ, ◌<◌}
use mathlib.Core.List.{List, Memᴰ}
use Rattle.model.specs.declared.Box.{Box}
use Rattle.model.specs.declared.Grant.{Grant}
use Rattle.model.specs.Box.{box_values}
use Rattle.model.specs.Call.{Request, Call, grant, revoke, list, decide, count}

abbrev pub word_values : ℕ
word_values = 65536

abbrev pub byte_values : ℕ
byte_values = 256

abbrev pub Below : ℕ → List ℕ → Type 0
Below n xs = (x : ℕ) → Memᴰ x xs → x < n

abbrev pub BoxFits : Box → Type 0
BoxFits b = Below word_values (box_values b)

pub record GrantFits (g : Grant) : Type 0 where
  pub number : g.number < word_values
  pub rank : g.rank < byte_values
  pub bounds : BoxFits g.bounds

pub record RequestFits (r : Request) : Type 0 where
  pub number : r.number < word_values
  pub rank : r.rank < byte_values
  pub bounds : BoxFits r.bounds

abbrev pub CallFits : Call → Type 0
CallFits (grant r) = RequestFits r
CallFits (revoke n) = Unit {0}
CallFits (list q choice lent) = Unit {0}
CallFits (decide staff door quarter) = Unit {0}
CallFits count = Unit {0}

abbrev pub CallsFit : List Call → Type 0
CallsFit cs = (c : Call) → Memᴰ c cs → CallFits c
