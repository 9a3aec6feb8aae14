-- Where each word of a pool lies (document 01, "The tree"). The one file that names a place.
--   header_words, capacity_place, root_place, free_place   the header: C, root, free head
--   cell_words, offset f          the words of a cell, and each field's place among them; the parent is document 02's father (card 6)
--   place k f                    the place of a field of cell k; cells are numbered from 1
--   field_of w k f                what stands there
-- Changed by card 11. Assumes nothing: these are definitions.
use Rattle.std.specs.Prelude.{ℕ, ◌+◌, ◌-◌, ◌*◌, List, get_or}
use Rattle.pool.specs.declared.Field.{Field}
use Rattle.pool.specs.declared.Field.TheVariants.{Left, Right, Number, RankKind, StaffFrom, StaffTo, DoorFrom, DoorTo, QuarterFrom, QuarterTo, Parent}

abbrev pub capacity_place : ℕ
capacity_place = 0

abbrev pub root_place : ℕ
root_place = 1

abbrev pub free_place : ℕ
free_place = 2

abbrev pub header_words : ℕ
header_words = 3

abbrev pub cell_words : ℕ
cell_words = 11

abbrev pub offset : Field → ℕ
offset Left = 0
offset Right = 1
offset Number = 2
offset RankKind = 3
offset StaffFrom = 4
offset StaffTo = 5
offset DoorFrom = 6
offset DoorTo = 7
offset QuarterFrom = 8
offset QuarterTo = 9
offset Parent = 10

unfoldable pub place : ℕ → Field → ℕ
place k f = header_words + ((k - 1) * cell_words + offset f)

unfoldable pub field_of : List ℕ → ℕ → Field → ℕ
field_of w k f = get_or w (place k f) 0
