-- `find::find_number` meets its contract: what the memory of the search says. Assumes nothing.
use Rattle.std.proofs.Common.{refl, sym, subst, rules}
use Rattle.std.proofs.lemmas.Result.{err_from_is_err_and}
use Rattle.geometry.specs.SearchRange.{OneSided}
use Rattle.geometry.proofs.SearchRangeLaws.{number_one_sided}
use Rattle.index.proofs.FindLaws.{number-broken, number_absent, number_at}
use Rattle.index.proofs.find.find_number.Goals as goal

pub search-requires : goal.search-requires
search-requires c = (
  record { few = c.requires.few; long = c.requires.long; hit_room = refl; unused = search rules },
  subst OneSided (sym c.range_of_number-range.ensures) (number_one_sided _),
)

pub returns-in_err-search : goal.returns-in_err-search
returns-in_err-search c =
    let p = err_from_is_err_and c.from_residual.result c.from_residual.ensures.1 in
    rw p.1 (number-broken c.args.pool.now _ _ _ c.range_of_number-range.ensures c.requires c.search.ensures c.in_err-search.was)

pub returns-then-counters-eq0 : goal.returns-then-counters-eq0
returns-then-counters-eq0 c =
    number_absent c.args.pool.now _ _ _ c.range_of_number-range.ensures c.requires c.search.ensures c.in_ok-search.was c.if-counters-eq0.true

pub returns : goal.returns
returns c =
    rw c.from.ensures
    (number_at c.args.pool.now _ _ _ c.range_of_number-range.ensures c.requires c.search.ensures c.in_ok-search.was c.if-counters-eq0.false)
