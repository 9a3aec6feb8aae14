-- `record_defects::record_defect` meets its contract: its number, the check of its values, then its doors. Assumes nothing.
use Prim.Native.Nat.{◌+◌}
use borrow.Author.Rules.{rules}
use mathlib.Core.Path.{◌≡◌, sym, ap, ◌∙◌}
use Rattle.model.specs.Overlap.{overlap_on}
use Rattle.grants_file.specs.Layout.{record_place}
use Rattle.grants_file.specs.declared.Defect.TheVariants.{Record}
use Rattle.grants_file.specs.declared.RecordFault.TheVariants.{NumberOrder, Doors}
use Rattle.grants_file.proofs.DefectSteps.{record_number_lem, record_wrong, record_sound, record_doors}
use Rattle.grants_file.proofs.record_defects.record_defect.Goals as goal

pub returns-then-g-last : goal.returns-then-g-last
returns-then-g-last c =
    let a = c.args in
    let told : c.defect.result ≡ Record a.number (a.i + 1) c.decode_record-g.result.number NumberOrder = search rules in
    rw told (record_number_lem a.doors _ _ _ a.block.now (record_place a.i) c.decode_record-g.ensures c.if-g-last.true)

pub returns-in-Err : goal.returns-in-Err
returns-in-Err c =
    let a = c.args in
    let told : c.defect-in-Err.result ≡ Record a.number (a.i + 1) c.decode_record-g.result.number c.from.result = search rules in
    rw told
    (record_wrong a.doors _ _ _ a.block.now _ c.decode_record-g.ensures c.if-g-last.false c.check_request.ensures
    c.in-Err.is c.from.ensures)

pub returns-then-not-overlaps : goal.returns-then-not-overlaps
returns-then-not-overlaps c =
    let a = c.args in
    let told : c.defect-then-not-overlaps.result ≡ Record a.number (a.i + 1) c.decode_record-g.result.number Doors = search rules in
    rw told
    (record_doors _ _ _ _ a.block.now _ c.decode_record-g.ensures c.if-g-last.false c.check_request.ensures
    c.in_default.is (sym c.if-not-overlaps.true ∙ c.overlaps.ensures ∙ ap (λ d. overlap_on d c.args.doors) c.doors.ensures))

pub returns : goal.returns
returns c =
    record_sound _ _ _ _ c.args.block.now _ c.decode_record-g.ensures c.if-g-last.false c.check_request.ensures
    c.in_default.is (sym c.if-not-overlaps.false ∙ c.overlaps.ensures ∙ ap (λ d. overlap_on d c.args.doors) c.doors.ensures)
