-- Wide grants need seniority (document 02, card 3): a grant over more than 1,000 doors must have rank 200 or above.
-- The one file that names the two numbers.
--   max_junior_doors     the most doors of a grant below the senior rank
--   senior_rank         the lowest rank of a grant over more
--   rank_too_low rank d  16: a grant of this rank over the doors d breaks the rule. Its kind plays no part, nor do a file's doors
-- Assumes nothing: these are definitions.
use Rattle.std.specs.Prelude.{ℕ, Bool, ◌&&◌, ltb}
use Rattle.model.specs.Interval.{Interval, size_of}

abbrev pub max_junior_doors : ℕ
max_junior_doors = 1000

abbrev pub senior_rank : ℕ
senior_rank = 200

abbrev pub rank_too_low : ℕ → Interval → Bool
rank_too_low rank d = ltb rank senior_rank && ltb max_junior_doors (size_of d)
