-- What is answered where the first fault of an order line, if there is one, goes before all else.
--   answering f x    refused with the fault, else x
-- Assumes nothing: these are definitions.
use Rattle.std.specs.Prelude.{Option, None, Some, Result, Ok, Err}
use Rattle.model.specs.declared.Fault.{Fault}

abbrev pub answering : {T : Type 0} → Option Fault → T → Result T Fault
answering None x = Ok x
answering (Some f) x = Err f
