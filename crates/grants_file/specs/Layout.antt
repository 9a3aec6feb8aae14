-- Where everything stands in a grants file (document 01, "The grants file"). The one file that names a size or a place in bytes.
--   block_bytes, max_blocks           document 01's block size, and the most blocks of a file
--   magic_of form, magic             the mark, at a block's start: three bytes and one for the file's form, and that of the form written and read
--   current_form, older_form          this form (document 02, card 2), and the one before it, whose quarters were closed
--   number_place, checksum_place      the block's number, and its check
--   total_place, first_door_place, last_door_place, header_end    block 0: n, the doors, and where its fill begins
--   count_place, record_place k       another block: its record count, and its k-th record, from 0 on
--   record_bytes, records_per_block    document 01's record size, and its 31 records a block
--   grant_place .. quarter_to_place    a record: the grant's number, rank and kind, and its six values in cell order
-- Changed by card 11. Assumes nothing: these are definitions.
use Rattle.std.specs.Prelude.{ℕ, ◌+◌, ◌-◌, ◌*◌, List, [], ◌∷◌}

abbrev pub block_bytes : ℕ
block_bytes = 512

abbrev pub max_blocks : ℕ
max_blocks = 68

abbrev pub magic_of : ℕ → List ℕ
magic_of form = 0x4C ∷ 0x47 ∷ 0x46 ∷ form ∷ []

abbrev pub current_form : ℕ
current_form = 0x32

abbrev pub older_form : ℕ
older_form = 0x31

abbrev pub magic : List ℕ
magic = magic_of current_form

abbrev pub number_place : ℕ
number_place = 4

abbrev pub checksum_place : ℕ
checksum_place = 510

abbrev pub total_place : ℕ
total_place = 6

abbrev pub first_door_place : ℕ
first_door_place = 8

abbrev pub last_door_place : ℕ
last_door_place = 10

abbrev pub header_end : ℕ
header_end = 12

abbrev pub count_place : ℕ
count_place = 6

abbrev pub records_place : ℕ
records_place = 8

abbrev pub record_bytes : ℕ
record_bytes = 16

abbrev pub records_per_block : ℕ
records_per_block = 31

-- also where the fill of a block of k records begins
abbrev pub record_place : ℕ → ℕ
record_place k = records_place + record_bytes * k

-- the record that fills a block
abbrev pub last_record_place : ℕ
last_record_place = record_place (records_per_block - 1)

abbrev pub grant_place : ℕ
grant_place = 0

abbrev pub rank_place : ℕ
rank_place = 2

abbrev pub kind_place : ℕ
kind_place = 3

abbrev pub staff_from_place : ℕ
staff_from_place = 4

abbrev pub staff_to_place : ℕ
staff_to_place = 6

abbrev pub door_from_place : ℕ
door_from_place = 8

abbrev pub door_to_place : ℕ
door_to_place = 10

abbrev pub quarter_from_place : ℕ
quarter_from_place = 12

abbrev pub quarter_to_place : ℕ
quarter_to_place = 14
