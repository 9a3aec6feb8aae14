-- `hits::find_hits` meets its contract: what the memory of the search says. Assumes nothing.
use Rattle.std.proofs.lemmas.Result.{err_from_is_err_and}
use Rattle.steps.proofs.HitsLaws.{hits-broken, hits-found}
use Rattle.steps.proofs.hits.find_hits.Goals as goal

pub returns-in_err-search : goal.returns-in_err-search
returns-in_err-search c =
    let p = err_from_is_err_and c.from_residual.result c.from_residual.ensures.1 in
    rw p.1 (hits-broken c.args.pool.now _ c.args.range.now _ c.requires.sized c.search.ensures c.in_err-search.was)

pub returns : goal.returns
returns c = hits-found c.args.pool.now _ c.args.range.now _ c.requires.sized c.search.ensures c.in_ok-search.was
