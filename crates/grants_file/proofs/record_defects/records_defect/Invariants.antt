-- `record_defects::records_defect` meets its contract. The invariant: the records passed are sound, so those left decide. Assumes nothing.
use mathlib.Core.Path.{◌≡◌}
use Rattle.grants_file.specs.Block.{records_of}
use Rattle.grants_file.specs.Defects.{records_defects, first_defect}
use Rattle.grants_file.proofs.DefectSteps.{defect_from}
use Rattle.grants_file.proofs.record_defects.records_defect.Given as goal

abbrev pub invariant-loop-i : goal.invariant-loop-i
invariant-loop-i l =
    defect_from l.doors l.number l.last l.block l.i l.count ≡ first_defect (records_defects l.doors l.number 1 l.before (records_of l.block l.count))
