-- Faults 1, 10, 11 and 14 on numbers, as rows of `tried-cases`; what document 01 gives was worked out by hand. Assumes nothing.
--   size_cases     1: the pool's length, and its first word
--   file_cases     10 and 11, in load, match and block read
--   lent_cases     14
use Prim.Native.Nat.{ℕ, ◌-◌, ◌*◌}
use mathlib.Core.List.{List, [], ◌∷◌, ◌++◌}
use lib.ListN.{take, drop, replicate}
use Rattle.model.specs.declared.Grant.{Grant}
use Rattle.model.specs.declared.Kind.TheVariants.{Bars}
use Rattle.model.specs.declared.Choice.TheVariants.{Touching}
use Rattle.model.specs.Interval.{Interval}
use Rattle.geometry.specs.declared.Side.TheVariants.{Left}
use Rattle.grants_file.specs.Block.{sealed, header_block, record_block}
use Rattle.grants_file.specs.File.{file_of}
use Rattle.calls.specs.Calls.{start_call, grant_call, revoke_call, list_call, decide_call, count_call}
use Rattle.block_read.specs.BlockRead.{block_call}
use Rattle.calls.specs.FileCalls.{write_call, load_call, match_call}
use Rattle.claims.proofs.Cases.{Case, box, one, responses}
use Rattle.claims.proofs.Pools.{node, chain, pool}

abbrev doors : Interval
doors = record { from = 40; to = 50 }

-- what start and load answer, which do not look at the first word
abbrev makers : List ℕ → List ℕ
makers w = responses (start_call w).answer ++ responses (load_call w (file_of doors [])).answer

-- what the others answer; match is given no file
abbrev others : List ℕ → List ℕ
others w =
    responses (grant_call w (record { number = 0; rank = 0; kind = 2; bounds = box 1 0 0 0 0 0 })).answer
    ++ responses (revoke_call w 0).answer
    ++ responses (list_call w (box 1 0 0 0 0 0) Touching []).answer
    ++ responses (decide_call w 0 0 0).answer
    ++ responses (count_call w).answer
    ++ responses (write_call w (record { from = 1; to = 0 }) []).answer
    ++ responses (match_call w []).answer

abbrev pub size_cases : List Case
size_cases =
    -- a word too few, a word too many, ten words a cell, no cell, 2,049 cells, and a length that is right only when cut to 16 bits
    record { given = makers (replicate 35 3) ++ others (replicate 35 3); wanted = replicate 9 1 }
    ∷ record { given = makers (replicate 37 3) ++ others (replicate 37 3); wanted = replicate 9 1 }
    ∷ record { given = makers (replicate 33 3) ++ others (replicate 33 3); wanted = replicate 9 1 }
    ∷ record { given = makers (replicate 3 0) ++ others (replicate 3 0); wanted = replicate 9 1 }
    ∷ record { given = makers (replicate 22542 0); wanted = replicate 2 1 }
    ∷ record { given = makers (replicate 65550 0); wanted = replicate 2 1 }
    ∷ record { given = makers (replicate 22531 0); wanted = replicate 2 0 }
    -- 36 words are three cells, and the first word says four
    ∷ record { given = makers (pool 3 0 1 []); wanted = replicate 2 0 }
    ∷ record { given = makers (4 ∷ replicate 35 0); wanted = replicate 2 0 }
    ∷ record { given = others (4 ∷ replicate 35 0); wanted = replicate 7 1 }
    -- the same arguments on a pool: 3, 3, 2, none, no live grant, 2, 10
    ∷ record { given = others (3 ∷ replicate 35 0); wanted = 3 ∷ 3 ∷ 2 ∷ 0 ∷ 0 ∷ 0 ∷ 0 ∷ 3 ∷ 2 ∷ 10 ∷ [] }
    ∷ []

-- load into two cells, and match against two that are free
abbrev judged : List ℕ → List ℕ
judged f = responses (load_call (replicate 25 0) f).answer ++ responses (match_call (start_call (replicate 25 0)).state f).answer

-- the verdict of block read
abbrev read_at : List ℕ → ℕ → List ℕ
read_at f i = responses (block_call f i).answer

-- two grants that touch the doors
abbrev pair : List Grant
pair =
    record { number = 1; rank = 0; kind = Bars; bounds = box 0 0 40 40 0 1 }
    ∷ record { number = 2; rank = 0; kind = Bars; bounds = box 0 0 50 50 0 1 }
    ∷ []

-- a block 0 whose bytes from the mark's last on are these, with its check
abbrev header : List ℕ → List ℕ
header bytes = sealed (0x4C ∷ 0x47 ∷ 0x46 ∷ bytes)

-- a block 1 of the older form, with one record
abbrev older_block : List ℕ
older_block = sealed (0x4C ∷ 0x47 ∷ 0x46 ∷ 0x31 ∷ drop 4 (take 24 (record_block 1 (take 1 pair))))

abbrev pub file_cases : List Case
file_cases =
    -- 10: no block, a byte over, 69 blocks; 68 are few enough, and zeros are no check
    record { given = judged []; wanted = replicate 2 10 }
    ∷ record { given = judged (file_of doors [] ++ one 0); wanted = replicate 2 10 }
    ∷ record { given = judged (replicate (69 * 512) 0); wanted = replicate 2 10 }
    ∷ record { given = judged (replicate (68 * 512) 0); wanted = 12 ∷ 0 ∷ 12 ∷ 0 ∷ [] }
    -- in block read also where the block asked for is not in the file
    ∷ record { given = read_at (replicate (69 * 512) 0) 0; wanted = one 10 }
    ∷ record { given = read_at (file_of doors pair) 1; wanted = one 0 }
    ∷ record { given = read_at (file_of doors pair) 2; wanted = one 10 }
    -- 11: as it should be; the mark of the older form, and another; the block's number; the doors; the fill
    ∷ record { given = judged (header (0x32 ∷ 0 ∷ 0 ∷ 0 ∷ 0 ∷ 0 ∷ 40 ∷ 0 ∷ 50 ∷ [])); wanted = 0 ∷ 0 ∷ [] }
    ∷ record { given = judged (header (0x31 ∷ 0 ∷ 0 ∷ 0 ∷ 0 ∷ 0 ∷ 40 ∷ 0 ∷ 50 ∷ [])); wanted = 11 ∷ 0 ∷ 11 ∷ 0 ∷ [] }
    ∷ record { given = judged (header (0x33 ∷ 0 ∷ 0 ∷ 0 ∷ 0 ∷ 0 ∷ 40 ∷ 0 ∷ 50 ∷ [])); wanted = 11 ∷ 0 ∷ 11 ∷ 0 ∷ [] }
    ∷ record { given = judged (header (0x32 ∷ 0 ∷ 1 ∷ 0 ∷ 0 ∷ 0 ∷ 40 ∷ 0 ∷ 50 ∷ [])); wanted = 11 ∷ 0 ∷ 11 ∷ 0 ∷ [] }
    ∷ record { given = judged (header (0x32 ∷ 0 ∷ 0 ∷ 0 ∷ 0 ∷ 0 ∷ 51 ∷ 0 ∷ 50 ∷ [])); wanted = 11 ∷ 0 ∷ 11 ∷ 0 ∷ [] }
    ∷ record { given = judged (header (0x32 ∷ 0 ∷ 0 ∷ 0 ∷ 0 ∷ 0 ∷ 40 ∷ 0 ∷ 50 ∷ 1 ∷ [])); wanted = 11 ∷ 0 ∷ 11 ∷ 0 ∷ [] }
    -- n against the block count; n above 2,048, both of 68 blocks; a block's records against n
    ∷ record { given = judged (header (0x32 ∷ 0 ∷ 0 ∷ 0 ∷ 1 ∷ 0 ∷ 40 ∷ 0 ∷ 50 ∷ [])); wanted = 11 ∷ 0 ∷ 11 ∷ 0 ∷ [] }
    ∷ record { given = judged (header_block 2048 doors ++ replicate (67 * 512) 0); wanted = 12 ∷ 1 ∷ 12 ∷ 1 ∷ [] }
    ∷ record { given = judged (header_block 2049 doors ++ replicate (67 * 512) 0); wanted = 11 ∷ 0 ∷ 11 ∷ 0 ∷ [] }
    ∷ record { given = judged (header_block 2 doors ++ record_block 1 (take 1 pair)); wanted = 11 ∷ 1 ∷ 11 ∷ 1 ∷ [] }
    -- the older form in a later block, in load, match and block read
    ∷ record { given = judged (header_block 1 doors ++ older_block); wanted = 11 ∷ 1 ∷ 11 ∷ 1 ∷ [] }
    ∷ record { given = read_at (header_block 1 doors ++ older_block) 1; wanted = 11 ∷ 1 ∷ [] }
    -- block read does not know n: 1 to 31 records in the last block, 31 before it
    ∷ record { given = read_at (header_block 2 doors ++ record_block 1 (take 1 pair)) 1; wanted = one 0 }
    ∷ record { given = read_at (header_block 2 doors ++ record_block 1 []) 1; wanted = 11 ∷ 1 ∷ [] }
    ∷ record { given = read_at (header_block 4 doors ++ record_block 1 pair ++ record_block 2 pair) 1; wanted = 11 ∷ 1 ∷ [] }
    ∷ record { given = read_at (header_block 4 doors ++ record_block 1 pair ++ record_block 2 pair) 2; wanted = one 0 }
    ∷ []

-- n cells of zeros to the left from the root, each hit by the door 0
abbrev row : ℕ → List ℕ
row n = pool n 1 0 (chain Left (n - 1) 1 ++ node 0 0 0 (n - 1))

abbrev lent : List ℕ → ℕ → List ℕ
lent w n = let s = write_call w (record { from = 0; to = 0 }) (replicate n 5) in responses s.answer ++ take 1 s.lent

abbrev pub lent_cases : List Case
lent_cases =
    -- block 0 alone; 31 records are one block more, 32 are two
    record { given = lent (pool 3 0 1 []) 511; wanted = 14 ∷ 512 ∷ 5 ∷ [] }
    ∷ record { given = lent (pool 3 0 1 []) 512; wanted = 0 ∷ 512 ∷ 0x4C ∷ [] }
    ∷ record { given = lent (row 31) 1023; wanted = 14 ∷ 1024 ∷ 5 ∷ [] }
    ∷ record { given = lent (row 31) 1024; wanted = 0 ∷ 1024 ∷ 0x4C ∷ [] }
    ∷ record { given = lent (row 32) 1535; wanted = 14 ∷ 1536 ∷ 5 ∷ [] }
    ∷ []

abbrev pub fault_cases : List Case
fault_cases = size_cases ++ file_cases ++ lent_cases
