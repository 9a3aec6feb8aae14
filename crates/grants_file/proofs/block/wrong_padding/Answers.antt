-- `block::wrong_padding` meets its contract: the chain reads the fill. Assumes nothing.
use mathlib.Core.Path.{ap, ◌∙◌}
use mathlib.Core.Bool.{not}
use borrow.Author.Rules.{rules}
use borrow.Author.Tests.{tests}
use lib.Dec.{eqb}
use lib.ListN.{take}
use Rattle.std.proofs.lemmas.Iterator.{YieldsList-from_slice}
use Rattle.std.proofs.lemmas.Iterator.Adapters.{YieldsList-from_skip}
use Rattle.std.proofs.lemmas.Iterator.Search.{all_from_yields_List}
use Rattle.grants_file.specs.Layout.{checksum_place}
use Rattle.grants_file.specs.Block.{wrong_padding}
use Rattle.grants_file.proofs.BlockSteps.{list_all_every}
use Rattle.grants_file.proofs.block.wrong_padding.Goals as goal

pub returns : goal.returns
unfolding wrong_padding
returns c =
    let fill = YieldsList-from_skip c.args.start (YieldsList-from_slice (take checksum_place c.args.block.now) cc) cc in
    ap not (all_from_yields_List (λ x. eqb x 0) _ _ c.all.result c.all.ensures.ran fill (λ x b q k. search (rules, tests)) ∙ list_all_every (λ x. eqb x 0) _)
