-- Document 01's "Marked cases", all but the slips, as one table under one theorem. Assumes nothing.
use mathlib.Core.List.{List, [], ◌∷◌}
use lib.Dec.{T}
use Rattle.lists.specs.Tests.{every, same_numbers}
use Rattle.lists.specs.Ranges.{count_from}
use Rattle.model.specs.Overlap.{overlap_on}
use Rattle.geometry.specs.Axis.{axis_of}
use Rattle.geometry.specs.Region.{root_region, side_of}
use Rattle.checksum.specs.Checksum.{base256, checksum}
use Rattle.claims.proofs.Cases.{Case, passed, one, test, side}

abbrev cases : List Case
cases =
    -- the check of the empty string, of 0, of 0 0, of 255 255, of 0 0 0
    record { given = one (checksum []); wanted = one 1 }
    ∷ record { given = one (checksum (0 ∷ [])); wanted = one 256 }
    ∷ record { given = one (checksum (0 ∷ 0 ∷ [])); wanted = one 15 }
    ∷ record { given = one (checksum (255 ∷ 255 ∷ [])); wanted = one 29 }
    ∷ record { given = one (checksum (0 ∷ 0 ∷ 0 ∷ [])); wanted = one 3840 }
    -- the axes that levels 6, 7 and 111 halve
    ∷ record { given = one (axis_of 6); wanted = one 6 }
    ∷ record { given = one (axis_of 7); wanted = one 0 }
    ∷ record { given = one (axis_of 111); wanted = one 6 }
    -- at level 0 staff from 32767 goes left (0), 32768 right (1)
    ∷ record { given = side (side_of root_region (axis_of 0) 32767); wanted = one 0 }
    ∷ record { given = side (side_of root_region (axis_of 0) 32768); wanted = one 1 }
    -- doors 1-40 overlap 40-50, not 41-50
    ∷ record { given = test (overlap_on (record { from = 1; to = 40 }) (record { from = 40; to = 50 })); wanted = one 1 }
    ∷ record { given = test (overlap_on (record { from = 1; to = 40 }) (record { from = 41; to = 50 })); wanted = one 0 }
    ∷ []

pub marked_cases : T (passed cases)
unfolding every same_numbers count_from root_region base256 checksum
marked_cases = tt
