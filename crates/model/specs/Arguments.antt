-- The faults of a call's arguments: 2, 3 and 4 of document 01's table, each in its words, and all of a grant's in one list, 16 with them
-- (`rank_too_low`, specs/Seniority).
--   reversed_box b      2: in a box, staff or doors with from above to, or quarters that cover none (document 02, card 2)
--   reversed_doors d    2: from above to in write's doors
--   zero_number n       3: grant number 0
--   unknown_kind k      4: kind above 1
--   request_order       what can be wrong in the values of a request, in grant's order
--   wrong_in r x        x is wrong in the request r
--   fault_of x          its fault
--   request_causes r    the causes of a request's faults. Grant's line has them, the book's and the words'; a record has them as causes of 13
--                      (grants_file/specs/Defects), and a file's set has no grant with one (grants_file/specs/FileSets)
--   first_wrong r xs    the first of xs that is wrong in r
-- Assumes nothing: these are definitions.
use Rattle.std.specs.Prelude.{ℕ, Bool, cond, ◌||◌, List, [], ◌∷◌, map, ltb, eqb, Result, Ok, Err, ⊤}
use Rattle.model.specs.declared.Box.{Box}
use Rattle.model.specs.declared.Fault.{Fault}
use Rattle.model.specs.declared.Fault.TheVariants as fault
use Rattle.model.specs.declared.RequestFault.{RequestFault}
use Rattle.model.specs.declared.RequestFault.TheVariants.{ZeroNumber, UnknownKind, Reversed, RankTooLow}
use Rattle.model.specs.Interval.{Interval, reversed}
use Rattle.model.specs.Quarters.{no_quarters}
use Rattle.model.specs.Box.{staff_of, doors_of, quarters_of}
use Rattle.model.specs.Seniority.{rank_too_low}
use Rattle.model.specs.Call.{Request}
use Rattle.model.specs.Refusal.{Cause, ◌if◌}

unfoldable pub reversed_box : Box → Bool
reversed_box b = reversed (staff_of b) || reversed (doors_of b) || no_quarters (quarters_of b)

abbrev pub reversed_doors : Interval → Bool
reversed_doors d = reversed d

abbrev pub zero_number : ℕ → Bool
zero_number n = eqb n 0

abbrev pub unknown_kind : ℕ → Bool
unknown_kind k = ltb 1 k

abbrev pub request_order : List RequestFault
request_order = ZeroNumber ∷ UnknownKind ∷ Reversed ∷ RankTooLow ∷ []

abbrev pub wrong_in : Request → RequestFault → Bool
wrong_in r ZeroNumber = zero_number r.number
wrong_in r UnknownKind = unknown_kind r.kind
wrong_in r Reversed = reversed_box r.bounds
wrong_in r RankTooLow = rank_too_low r.rank (doors_of r.bounds)

abbrev pub fault_of : RequestFault → Fault
fault_of ZeroNumber = fault.ZeroNumber
fault_of UnknownKind = fault.UnknownKind
fault_of Reversed = fault.Reversed
fault_of RankTooLow = fault.RankTooLow

abbrev pub request_causes : Request → List Cause
request_causes r = map (λ x. fault_of x if wrong_in r x) request_order

unfoldable pub first_wrong : Request → List RequestFault → Result ⊤ RequestFault
first_wrong r [] = Ok tt
first_wrong r (x ∷ xs) = cond (wrong_in r x) (Err x) (first_wrong r xs)
