-- What is taken from a buffer for a line: the bytes from a place on, up to the newline or the end of what was read.
--   unread input at end             the bytes that were read and not yet taken
--   joined line n more              the bytes held of a line that had n, and more behind them
--   Keeps line n b after r          one byte more, in a line that had n
--   Taking input at end line n      the places lie in the buffer and in the line
--   Takes input at end line n after r   what was taken, r, and the line after it
-- A line holds as many bytes as it has room for, its first ones. Assumes nothing: these are definitions.
use Rattle.std.specs.Prelude.{ℕ, ◌+◌, ◌≤◌, min, ◌≡◌, cond, List, [], ◌∷◌, ◌++◌, length, take, drop}
use Rattle.lists.specs.Tests.{any}
use Rattle.console.specs.declared.lines.Taken.{Taken}
use Rattle.console.specs.Newline.{is_newline, before_newline}

abbrev pub unread : List ℕ → ℕ → ℕ → List ℕ
unread input at end = drop at (take end input)

abbrev pub joined : List ℕ → ℕ → List ℕ → List ℕ
joined line n more = take (length line) (take n line ++ more)

pub record Keeps (line : List ℕ) (n b : ℕ) (after : List ℕ) (r : ℕ) : Type 0 where
  pub room : r ≤ length line
  pub bytes : take r after ≡ joined line n (b ∷ [])

pub record Taking (input : List ℕ) (at end : ℕ) (line : List ℕ) (n : ℕ) : Type 0 where
  pub ordered : at ≤ end
  pub read : end ≤ length input
  pub room : n ≤ length line

pub record Takes (input : List ℕ) (at end : ℕ) (line : List ℕ) (n : ℕ) (after : List ℕ) (r : Taken) : Type 0 where
  pub whole : r.whole ≡ any is_newline (unread input at end)
  -- the newline is taken with its line
  pub place : r.at ≡ cond r.whole (at + length (before_newline (unread input at end)) + 1) end
  pub held : r.held ≡ min (length line) (n + length (before_newline (unread input at end)))
  pub bytes : take r.held after ≡ joined line n (before_newline (unread input at end))
