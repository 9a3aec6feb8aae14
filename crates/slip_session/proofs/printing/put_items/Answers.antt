-- `printing::put_items` meets its contract. Assumes nothing.
use Rattle.std.proofs.Common.{arith, ◌∷◌, ◌∙◌, sym, append_assoc}
use mathlib.Core.List.{append-nil}
use lib.ListN.{get_or, take}
use Rattle.text.specs.Ascii.{blank}
use Rattle.text.specs.Numeral.{numeral}
use Rattle.slip_session.specs.Text.{each_after_blank}
use Rattle.slip_session.proofs.TextLaws.{each_more}
use Rattle.slip_session.proofs.printing.put_items.Goals as goal

pub loop-n-init : goal.loop-n-init
unfolding each_after_blank
loop-n-init g c = (sym (append-nil c.args.line.now.items), omega arith)

pub loop-n-preserved : goal.loop-n-preserved
loop-n-preserved g c =
    let p = c.put_item in
    let l = c.loop-n in
    let old = c.args.line.now.items in
    let numbers = c.args.numbers.now in
    let put = each_after_blank (take l.n-index numbers) in (
      rw (each_more numbers l.n-index (omega arith))
          (p.ensures.items ∙ rw (l.invariant.0, append_assoc old put (blank ∷ numeral (get_or numbers l.n-index 0)))),
      omega (arith, p.ensures.len, l.invariant.1),
    )
