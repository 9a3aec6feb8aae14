use mathlib.Core.Path.{sym, ◌∙◌}
use native.Mathlib.Omega.{arith}
use Rattle.file_calls.proofs.LoadSteps.{added_more, added_all_lem}
use Rattle.file_calls.proofs.load.add_all.Goals as goal

pub loop-i-preserved : goal.loop-i-preserved
loop-i-preserved c = added_more _ c.loop-i.pool _ c.loop-i.i c.grant_in.ensures c.add.ensures ∙ c.loop-i.invariant

pub returns : goal.returns
returns c =
    let l = c.loop-i in
    sym (added_all_lem c.args.file.now l.pool l.i (omega (arith, c.requires.counted))) ∙ l.invariant
