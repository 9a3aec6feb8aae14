-- `columns::put_columns` meets its contract. Assumes nothing.
use Rattle.std.proofs.Common.{arith, ◌∙◌, sym, append_assoc}
use mathlib.Core.List.{append-nil}
use lib.ListN.{get_or, take}
use Rattle.text.specs.Columns.{aligned, columns}
use Rattle.text.proofs.ColumnLaws.{columns_more}
use Rattle.text.proofs.columns.put_columns.Goals as goal

pub loop-n-init : goal.loop-n-init
unfolding columns
loop-n-init g c = (sym (append-nil c.args.line.now.items), omega arith)

pub loop-n-preserved : goal.loop-n-preserved
loop-n-preserved g c =
    let p = c.put_aligned in
    let l = c.loop-n in
    let values = c.args.values.now in (
      rw (columns_more values l.n-index (omega arith))
          (p.ensures.items ∙ rw (l.invariant.0, append_assoc c.args.line.now.items (columns (take l.n-index values)) (aligned (get_or values l.n-index 0)))),
      omega (arith, p.ensures.len, l.invariant.1),
    )
