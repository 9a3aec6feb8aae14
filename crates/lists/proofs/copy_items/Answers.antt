-- `copy_items` meets its contract: a turn stores the next item. The check finds this too; it is written out so that the refusal of a must-fail
-- edit names the term that differs. Assumes nothing.
use Rattle.std.proofs.Common.{[], ◌∷◌, ◌++◌, ap, sym, ◌∙◌, arith, take}
use Rattle.std.proofs.lemmas.List.{take_more, take_more_set}
use lib.ListN.{length-set}
use Rattle.lists.proofs.copy_items.Goals as goal

pub loop-i-preserved : goal.loop-i-preserved
loop-i-preserved g c =
    let l = c.loop-i in
    let from = c.args.from.now in
    let item = c.index-from-i.result in (
      simp length-set l.invariant.0,
      take_more_set l.to l.i item (omega (arith, l.invariant.0))
          ∙ rw l.invariant.1 (ap (λ x. take l.i from ++ x ∷ []) c.index-from-i.is)
          ∙ sym (take_more from l.i item (omega arith)),
    )
