-- `defects::size_defect` meets its contract. Assumes nothing.
use native.Mathlib.Omega.{arith}
use Rattle.openings.proofs.DefectLaws.{size-not_whole, size-too_many, size-sound}
use Rattle.openings.proofs.defects.size_defect.Goals as goal

pub returns-then-bytes-ne0 : goal.returns-then-bytes-ne0
returns-then-bytes-ne0 c = size-not_whole _ c.if-bytes-ne0.true

pub returns-then-count-gt-MAX_ENTRIES : goal.returns-then-count-gt-MAX_ENTRIES
returns-then-count-gt-MAX_ENTRIES c =
    rw c.entries_in-count.ensures (size-too_many c.args.bytes.now (omega arith) (omega arith))

pub returns : goal.returns
returns c = size-sound c.args.bytes.now (omega arith) (omega arith)
