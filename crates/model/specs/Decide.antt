-- Which grant decides (document 01, "The plain book": decide; document 02, card 1).
--   outranks g h      the higher rank decides; at equal rank the higher number
--   deciding_of g hs   of g and hs, the one that decides; of grants that agree in both the first
--   decide_among gs    the answer where gs overlap the point
-- Assumes nothing: these are definitions.
use Rattle.std.specs.Prelude.{Bool, cond, ◌&&◌, ◌||◌, List, [], ◌∷◌, ltb, eqb}
use Rattle.model.specs.declared.Kind.{Kind}
use Rattle.model.specs.declared.Kind.TheVariants.{Bars, Opens}
use Rattle.model.specs.declared.Grant.{Grant}
use Rattle.model.specs.declared.Decision.{Decision}
use Rattle.model.specs.declared.Decision.TheVariants as decision

unfoldable pub outranks : Grant → Grant → Bool
outranks g h = ltb h.rank g.rank || eqb g.rank h.rank && ltb h.number g.number

unfoldable pub deciding_of : Grant → List Grant → Grant
deciding_of g [] = g
deciding_of g (h ∷ hs) = deciding_of (cond (outranks h g) h g) hs

-- opens or barred, by the grant's kind, with the whole grant
abbrev pub decision_of : Kind → Grant → Decision
decision_of Bars g = decision.Barred g
decision_of Opens g = decision.Opens g

unfoldable pub decide_among : List Grant → Decision
decide_among [] = decision.None
decide_among (g ∷ gs) = let d = deciding_of g gs in decision_of d.kind d
