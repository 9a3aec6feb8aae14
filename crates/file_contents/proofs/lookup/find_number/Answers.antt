use mathlib.Core.Path.{refl, ◌∙◌}
use native.Mathlib.Omega.{arith}
use Rattle.grants_file.proofs.GrantSteps.{accepted-whole}
use Rattle.file_contents.proofs.ContentsSteps.{numbered_here, numbered_next, numbered-end}
use Rattle.file_contents.proofs.lookup.find_number.Goals as goal

pub total_in-i-end-requires : goal.total_in-i-end-requires
total_in-i-end-requires c = (accepted-whole _ c.requires).some

pub loop-i-init : goal.loop-i-init
loop-i-init c = refl

pub grant_in-g-requires : goal.grant_in-g-requires
grant_in-g-requires c = (c.requires, omega arith)

pub returns-then-g-number : goal.returns-then-g-number
returns-then-g-number c = numbered_here _ _ c.loop-i.i c.grant_in-g.ensures c.if-g-number.true ∙ c.loop-i.invariant

pub loop-i-preserved : goal.loop-i-preserved
loop-i-preserved c = numbered_next _ _ c.loop-i.i c.grant_in-g.ensures c.if-g-number.false ∙ c.loop-i.invariant

pub returns : goal.returns
returns c = numbered-end _ _ c.loop-i.i (omega arith) ∙ c.loop-i.invariant
