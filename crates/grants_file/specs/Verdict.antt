-- The verdict on any bytes (document 01, "Faults": files 10, then per block rising 12, 11, 13).
--   causes_of cs       the faults that defects stand for, each with whether it is there
--   file_causes f      those of a file, in document 01's order
--   judging cs f      a call that judges the bytes f by causes: refused by the first that holds, else accepted
-- Assumes nothing: these are definitions.
use Rattle.std.specs.Prelude.{ℕ}
use mathlib.Core.List.{List, [], map}
use Rattle.model.specs.Answer.{accepted}
use Rattle.model.specs.Refusal.{Cause, ◌if◌, Step, refusing}
use Rattle.grants_file.specs.Defects.{DefectCause, defect_fault, file_defects}

unfoldable pub causes_of : List DefectCause → List Cause
causes_of cs = map (λ (c : DefectCause). defect_fault c.defect if c.present) cs

unfoldable pub file_causes : List ℕ → List Cause
file_causes f = causes_of (file_defects f)

-- nothing is lent or kept: the state is the bytes
abbrev pub judging : List Cause → List ℕ → Step (List ℕ)
judging causes f = refusing causes f [] (record { state = f; answer = accepted []; lent = [] })
