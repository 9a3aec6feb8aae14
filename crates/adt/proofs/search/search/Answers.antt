-- `search::search` meets its contract, test by test at the root. Assumes nothing.
use Rattle.adt.proofs.SearchStarts.{search-blank, search-apart, search_entering, search-entered}
use Rattle.geometry.proofs.RegionLaws.{root_shape}
use Rattle.geometry.specs.declared.Side.TheVariants.{Left}
use Rattle.geometry.specs.Region.{Region, Shape, meets}
use mathlib.Core.Path.{sym, ap, subst, ◌∙◌}
use Rattle.adt.proofs.search.search.Goals as goal

pub returns-then-root-eq0 : goal.returns-then-root-eq0
returns-then-root-eq0 c =
    search-blank _ _ c.requires.0 _ c.from-root.ensures c.if-root-eq0.true

pub returns-then-not-meets_range : goal.returns-then-not-meets_range
returns-then-not-meets_range c =
    let root = ap (λ (g : Region). meets g c.args.range.now) (sym c.root_region-region.ensures) in
    let m = root ∙ sym c.meets_range.ensures ∙ c.if-not-meets_range.true in
    search-apart _ _ c.requires.0 _ c.from-root.ensures c.if-root-eq0.false m

pub enter-requires : goal.enter-requires
enter-requires c =
    search_entering c.requires.0 c.from-root.ensures c.if-root-eq0.false c.requires.1
    (subst Shape (sym c.root_region-region.ensures) root_shape)
    (sym c.meets_range.ensures ∙ c.if-not-meets_range.false) Left

pub returns : goal.returns
returns c =
    search-entered _ _ c.requires.0 c.root_region-region.ensures Left c.enter.ensures
