-- The call that a slip stands for (document 01, "Marked cases": G, R, L, D and C), in the terms of the plain book.
--   call_of slip lent     the call, with the lent list as it then is; none for a line that is no slip. L lists what touches its box
--                        (document 02, card 4)
-- Assumes nothing: this is a definition.
use Rattle.std.specs.Prelude.{ℕ, List, Option, None, Some}
use Rattle.model.specs.declared.Choice.TheVariants.{Touching}
use Rattle.model.specs.Call.{Call, request, grant, revoke, list, decide, count}
use Rattle.slip_session.specs.declared.Slip.{Slip}
use Rattle.slip_session.specs.declared.Slip.TheVariants as slip

abbrev pub call_of : Option Slip → List ℕ → Option Call
call_of (Some (slip.Grant number rank kind bounds)) lent = Some (grant (request number rank kind bounds))
call_of (Some (slip.Revoke number)) lent = Some (revoke number)
call_of (Some (slip.List bounds)) lent = Some (list bounds Touching lent)
call_of (Some (slip.Decide staff door quarter)) lent = Some (decide staff door quarter)
call_of (Some slip.Count) lent = Some count
call_of None lent = None
