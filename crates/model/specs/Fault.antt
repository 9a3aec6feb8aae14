-- Document 01's table of faults, with document 02's 16 (card 3), 24 and 25 (card 13): the number of each, and the values that it returns beside it.
-- Assumes nothing: these are definitions.
use Rattle.std.specs.Prelude.{ℕ, List, [], ◌∷◌}
use Rattle.model.specs.declared.Fault.{Fault}
use Rattle.model.specs.declared.Fault.TheVariants.{BadPool, Reversed, ZeroNumber, UnknownKind, AlreadyLive, Full, NotLive, ListTooShort}
use Rattle.model.specs.declared.Fault.TheVariants.{BrokenLinks, BadLength, BadLayout, BadChecksum, BadRecord, BufferTooShort, RankTooLow}
use Rattle.model.specs.declared.Fault.TheVariants.{BadOpeningsLength, UnorderedQuarters}

abbrev pub fault_number : Fault → ℕ
fault_number BadPool = 1
fault_number Reversed = 2
fault_number ZeroNumber = 3
fault_number UnknownKind = 4
fault_number AlreadyLive = 5
fault_number Full = 6
fault_number NotLive = 7
fault_number (ListTooShort needed) = 8
fault_number BrokenLinks = 9
fault_number BadLength = 10
fault_number (BadLayout block) = 11
fault_number (BadChecksum block) = 12
fault_number (BadRecord block) = 13
fault_number (BufferTooShort needed) = 14
fault_number RankTooLow = 16
fault_number BadOpeningsLength = 24
fault_number UnorderedQuarters = 25

abbrev pub fault_values : Fault → List ℕ
fault_values BadPool = []
fault_values Reversed = []
fault_values ZeroNumber = []
fault_values UnknownKind = []
fault_values AlreadyLive = []
fault_values Full = []
fault_values NotLive = []
fault_values (ListTooShort needed) = needed ∷ []
fault_values BrokenLinks = []
fault_values BadLength = []
fault_values (BadLayout block) = block ∷ []
fault_values (BadChecksum block) = block ∷ []
fault_values (BadRecord block) = block ∷ []
fault_values (BufferTooShort needed) = needed ∷ []
fault_values RankTooLow = []
fault_values BadOpeningsLength = []
fault_values UnorderedQuarters = []
