-- `touching::placed` meets its contract: the place is past the last, or a hit is there. Assumes nothing.
use Rattle.std.proofs.Common.{◌<◌, length, ◌∙◌}
use Rattle.std.proofs.lemmas.Grind.{get_or_default_zero}
use Rattle.std.proofs.lemmas.Option.{MatchOption-at_some, MatchOption-at_none}
use Rattle.panel.proofs.PlacedLaws.{placed_end, placed_at}
use Rattle.panel.proofs.touching.placed.Goals as goal

pub returns-in_err-cell : goal.returns-in_err-cell
returns-in_err-cell c =
    rw c.from_residual.ensures
    (placed_end c.args.pool.now c.args.hits.now c.args.i (MatchOption-at_none _ _ c.in_err-cell.was c.get.ensures.lookup.3))

pub returns : goal.returns
returns c =
    let hits = c.args.hits.now in
    let lt : c.args.i < length hits = (MatchOption-at_some _ _ _ c.in_ok-cell.was c.get.ensures.lookup.3).0 in
    let at = MatchOption-at_some _ _ _ c.in_ok-cell.was c.get.ensures.lookup.1 ∙ get_or_default_zero hits c.args.i _ lt in
    placed_at c.args.pool.now hits c.args.i lt (c.from.ensures ∙ at) c.grant_at-grant.ensures c.precedence_among-precedence.ensures
