-- What a line is to a journal (document 01, "Marked cases": the slips). Grants and revokes change an index; list, decide and count ask.
--   Meaning          a call to make, a question, or nothing
--   meaning_of slip   of a slip, or of a line that is none
--   line_meaning line of a line's bytes, read as the slip program reads them
--   calls_in lines    the calls of a journal, in its order; what is no call is left out
-- Assumes nothing: these are definitions.
use Rattle.std.specs.Prelude.{ℕ, List, [], ◌∷◌, Option, None, Some}
use Rattle.model.specs.Call.{Call, request, grant, revoke}
use Rattle.slip_session.specs.declared.Slip.{Slip}
use Rattle.slip_session.specs.declared.Slip.TheVariants as slip
use Rattle.slip_session.specs.Longest.{slip_of}

pub data Meaning : Type 0 where
  makes : Call → Meaning
  asks : Meaning
  nothing : Meaning

abbrev pub meaning_of : Option Slip → Meaning
meaning_of (Some (slip.Grant number rank kind bounds)) = makes (grant (request number rank kind bounds))
meaning_of (Some (slip.Revoke number)) = makes (revoke number)
meaning_of (Some (slip.List bounds)) = asks
meaning_of (Some (slip.Decide staff door quarter)) = asks
meaning_of (Some slip.Count) = asks
meaning_of None = nothing

unfoldable pub line_meaning : List ℕ → Meaning
line_meaning line = meaning_of (slip_of line)

abbrev pub call_and : Meaning → List Call → List Call
call_and (makes call) calls = call ∷ calls
call_and asks calls = calls
call_and nothing calls = calls

unfoldable pub calls_in : List (List ℕ) → List Call
calls_in [] = []
calls_in (line ∷ lines) = call_and (line_meaning line) (calls_in lines)
