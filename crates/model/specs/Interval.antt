-- A closed range of staff or doors: document 01's "from" and "to". Both ends belong to it. Quarters have a range of their own (specs/Quarters).
--   reversed i        from lies above to
--   holds i x         x lies in the range
--   size_of i          how many numbers lie in it; none in a reversed one
-- Assumes nothing: these are definitions.
use Rattle.std.specs.Prelude.{ℕ, suc, ◌-◌, Bool, ◌&&◌, leb, ltb}
use Rattle.model.specs.declared.Interval as declared

abbrev pub Interval : Type 0
Interval = declared.Interval

abbrev pub reversed : Interval → Bool
reversed i = ltb i.to i.from

abbrev pub holds : Interval → ℕ → Bool
holds i x = leb i.from x && leb x i.to

abbrev pub size_of : Interval → ℕ
size_of i = suc i.to - i.from
