-- `ancestors::ancestor_at` meets its contract: the number's first hit, and the way up from it. Assumes nothing.
use Rattle.std.proofs.Common.{subst}
use Rattle.std.proofs.lemmas.Result.{err_from_is_err_and}
use Rattle.index.specs.NumberSearch.{LiveFound}
use Rattle.grant_path.proofs.AncestorSteps.{path-refused, path-starts, path_done}
use Rattle.grant_path.proofs.ancestors.ancestor_at.Goals as goal

pub ancestor_from-requires : goal.ancestor_from-requires
ancestor_from-requires c =
    let a = c.args in
    path-starts a.pool.now a.number a.i _ (subst (LiveFound a.pool.now a.number) c.in_ok-hit.was c.find_live.ensures)

pub returns-in_err-hit : goal.returns-in_err-hit
returns-in_err-hit c =
    let a = c.args in
    let p = err_from_is_err_and c.from_residual.result c.from_residual.ensures.1 in
    rw (p.1, p.2) (path-refused a.pool.now a.number a.i _ (subst (LiveFound a.pool.now a.number) c.in_err-hit.was c.find_live.ensures))

pub returns : goal.returns
returns c =
    let a = c.args in
    path_done a.pool.now a.number a.i _ (subst (LiveFound a.pool.now a.number) c.in_ok-hit.was c.find_live.ensures) c.ancestor_from.ensures
