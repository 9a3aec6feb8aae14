-- `part::block_part` meets its contract. An accepted block is in the file and has at most 31 records. Assumes nothing.
use mathlib.Core.Path.{refl, sym}
use Rattle.block_read.proofs.BlockReadSteps.{done_in, done_count, occupies_as, part-refused, part_header, part_records}
use native.Mathlib.Omega.{arith}
use Rattle.block_read.proofs.part.block_part.Goals as goal

pub returns-in_default : goal.returns-in_default
returns-in_default c =
    let answer = rw c.in_default.is at c.block_verdict.ensures in
    occupies_as (sym (part-refused _ _ _ answer))
    (record { memory = refl; place = omega arith; long = refl; bytes = refl })

pub returns-then-block-eq0 : goal.returns-then-block-eq0
returns-then-block-eq0 c =
    let answer = rw c.in-Ok.is at c.block_verdict.ensures in
    occupies_as (sym (part_header _ _ answer c.if-block-eq0.true))
    (record { memory = refl; place = omega arith; long = refl; bytes = refl })

pub records_part-requires : goal.records_part-requires
records_part-requires c = let done = rw c.in-Ok.is at c.block_verdict.ensures in
    (done_in _ _ done, done_count _ _ done c.if-block-eq0.false)

pub returns : goal.returns
returns c =
    let answer = rw c.in-Ok.is at c.block_verdict.ensures in
    occupies_as (sym (part_records _ _ answer c.if-block-eq0.false)) c.records_part.ensures
