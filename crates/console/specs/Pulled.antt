-- What is pulled from an open file. What a read brings no contract says; so it is said what holds of every pulled line, and which line it
-- is where the buffer has it whole.
--   Within input c      the cursor lies in the buffer
--   Line                a line as it is answered: how many bytes are held, None where the input ended; or why it can't be read
--   HeldIn line l       the bytes held are a part of the line, in the form in which `&line[..n]` asks it
--   Safe input line r   both, of the buffer and the line after the call
--   LastLine n l        what is answered where the input ends and n bytes are held: they are a line, unless there are none
--   GoesOn line n after l   the n bytes that a line held when it was read on stay its first ones, and only a line of none can be no line
--   Begins ..           the bytes of a line that the buffer has are its first ones, however it goes on
--   Buffered ..         the line was there: nothing is read, its newline is met, and the cursor is past it
--   Pulls ..            the contract of `next_line`
-- Assumes nothing: these are definitions.
use Rattle.std.specs.Prelude.{ℕ, ◌+◌, ◌≤◌, min, ◌≡◌, true, List, length, take, Option, Some, None, Result, Ok, Err}
use Rattle.io.specs.Counts.{IsPrefixLen}
use Rattle.lists.specs.Tests.{any}
use Rattle.console.specs.declared.lines.Cursor.{Cursor}
use Rattle.console.specs.declared.lines.Unread.{Unread}
use Rattle.console.specs.declared.lines.Pulled.{Pulled}
use Rattle.console.specs.Newline.{is_newline, before_newline}
use Rattle.console.specs.Taken.{unread}

pub record Within (input : List ℕ) (c : Cursor) : Type 0 where
  pub ordered : c.at ≤ c.end
  pub read : c.end ≤ length input

abbrev pub Line : Type 0
Line = Result (Option ℕ) Unread

abbrev pub HeldIn : List ℕ → Line → Type 0
HeldIn line (Ok (Some n)) = IsPrefixLen n line
HeldIn line (Ok None) = Unit {0}
HeldIn line (Err e) = Unit {0}

pub record Safe (input line : List ℕ) (r : Pulled) : Type 0 where
  pub held : HeldIn line r.line
  pub cursor : Within input r.cursor

abbrev pub LastLine : ℕ → Option ℕ → Type 0
LastLine n (Some m) = m ≡ n
LastLine n None = n ≡ 0

abbrev pub GoesOn : List ℕ → ℕ → List ℕ → Line → Type 0
GoesOn line n after (Ok (Some m)) = (n ≤ m) × (take n after ≡ take n line)
GoesOn line n after (Ok None) = n ≡ 0
GoesOn line n after (Err e) = Unit {0}

-- the bytes of the line that the buffer has are its first ones
abbrev pub Begins : List ℕ → List ℕ → List ℕ → Line → Type 0
Begins line piece after (Ok (Some m)) =
    (min (length line) (length piece) ≤ m) × (take (min (length line) (length piece)) after ≡ take (length line) piece)
Begins line piece after (Ok None) = min (length line) (length piece) ≡ 0
Begins line piece after (Err e) = Unit {0}

pub record Buffered (input line : List ℕ) (c : Cursor) (inputAfter lineAfter : List ℕ) (r : Pulled) : Type 0 where
  pub unchanged : inputAfter ≡ input
  pub ended : r.ended ≡ true
  pub held : r.line ≡ Ok (Some (min (length line) (length (before_newline (unread input c.at c.end)))))
  pub bytes : take (min (length line) (length (before_newline (unread input c.at c.end)))) lineAfter
      ≡ take (length line) (before_newline (unread input c.at c.end))
  pub place : r.cursor.at ≡ c.at + length (before_newline (unread input c.at c.end)) + 1
  pub end : r.cursor.end ≡ c.end

pub record Pulls (input line : List ℕ) (c : Cursor) (inputAfter lineAfter : List ℕ) (r : Pulled) : Type 0 where
  pub safe : Safe inputAfter lineAfter r
  pub begins : Within input c → Begins line (before_newline (unread input c.at c.end)) lineAfter r.line
  pub buffered : Within input c → any is_newline (unread input c.at c.end) ≡ true → Buffered input line c inputAfter lineAfter r
