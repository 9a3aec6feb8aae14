-- The definitions tried on numbers, where a slip would hide: one table under one theorem. Assumes nothing.
--   cases         document 01's "Misprints and slips to catch"; a history of calls on words beside the same on the book, with an inner
--                 cell revoked; pools that a revoke left; fault 9 on cyclic links; a file of two grants, byte for byte, and its verdict
--   deep_cases, link_cases   of LinkCases: fault 9 on scrambled pools, by the links and by the calls
--   fault_cases    of FaultCases: faults 1, 10, 11 and 14
--   senior_cases   of SeniorCases: fault 16, and records and cells that break its rule
--   quarter_cases  of QuarterCases: the ends of quarters
--   holding_cases  of HoldingCases: how a grant stands to a box, and list's choice
--   parent_cases   of ParentCases: the parents that calls leave, and 9 by a parent
--   restored_cases   of RestoredCases: the same grants in another order
use Prim.Native.Nat.{ℕ}
use mathlib.Core.List.{List, [], ◌∷◌, ◌++◌, map, flat_map}
use Rattle.std.proofs.Common.{Option, None, Some}
use lib.Dec.{T}
use lib.ListN.{take, drop, set, replicate}
use Rattle.lists.specs.Tests.{filter, every, any, each, same_numbers}
use Rattle.lists.specs.Ranges.{count_from}
use Rattle.lists.specs.Overwrite.{overwrite}
use Rattle.lists.specs.Sort.{insert_by, sort_by}
use Rattle.model.specs.declared.Choice.TheVariants.{Touching}
use Rattle.model.specs.declared.Fault.{Fault}
use Rattle.model.specs.declared.Grant.{Grant}
use Rattle.model.specs.declared.Kind.TheVariants.{Bars, Opens}
use Rattle.model.specs.Interval.{Interval}
use Rattle.model.specs.Overlap.{overlaps}
use Rattle.model.specs.Relation.{holds_box, relation_of, takes}
use Rattle.model.specs.Grant.{grant_values, same_grant, touches}
use Rattle.model.specs.Refusal.{first_fault, refusing}
use Rattle.model.specs.Arguments.{reversed_box}
use Rattle.model.specs.Decide.{outranks, deciding_of, decide_among}
use Rattle.model.specs.Fault.{fault_number, fault_values}
use Rattle.model.specs.Call.{Request, Call, grant, revoke, list, decide, count}
use Rattle.model.specs.Book.{empty_book, book_grant, book_revoke, book_list, book_decide, book_count, book_step}
use Rattle.geometry.specs.declared.Side.TheVariants as side
use Rattle.geometry.specs.Region.{low, high, root_region, half, meets}
use Rattle.geometry.specs.Point.{point_of, inside}
use Rattle.geometry.specs.SearchRange.{range_of_box, range_of_doors, range_of_number}
use Rattle.pool.specs.Layout.{place, field_of}
use Rattle.pool.specs.Capacity.{capacity_of, wrong_length, wrong_pool}
use Rattle.pool.specs.Cell.{grant_at, with_cell}
use Rattle.pool.specs.Fresh.{free_cells, fresh_pool}
use Rattle.adt.specs.Search.{meet, visit_by, enter, search_by}
use Rattle.adt.specs.Insert.{descend_from, descend, free_broken, inserted}
use Rattle.adt.specs.Remove.{follow, terminal_from, replaced, reparented, raised, unlinked, freed, removed}
use Rattle.adt.specs.Links.{broken_by, search_from, insertion_from, removal_from, search_links, insertion_links, removal_links, free_links, hits_among}
use Rattle.checksum.specs.Checksum.{base256, checksum}
use Rattle.grants_file.specs.Record.{encode_record, decode_record}
use Rattle.grants_file.specs.Block.{sealed, header_block, record_block, records_of, wrong_checksum, wrong_padding}
use Rattle.grants_file.specs.File.{file_of, wrong_block_count, doors_in, grants_in}
use Rattle.grants_file.specs.Defects.{records_defects, last_before, content_defects, file_defects}
use Rattle.grants_file.specs.Verdict.{causes_of, file_causes}
use Rattle.block_read.specs.BlockRead.{not_in_file, wrong_count, rest_defects, read_causes, part_of, block_call}
use Rattle.calls.specs.Causes.{grant_broken, revoke_broken}
use Rattle.calls.specs.LinkCauses.{search_meets9, point_meets9, hits_by, grant_meets9, revoke_meets9}
use Rattle.calls.specs.Order.{start_order, grant_order, revoke_order, list_order, look_order, write_order, load_order, match_order}
use Rattle.calls.specs.Calls.{start_call, grant_call, revoke_call, list_call, decide_call, count_call, words_step}
use Rattle.calls.specs.FileCalls.{write_call, grant_all, load_call, first_difference, match_call}
use Rattle.model.specs.Histories.{responses, after}
use Rattle.claims.proofs.Cases.{Case, passed, passed_append, box, one, test, numbers}
use Rattle.claims.proofs.Cases as say
use Rattle.claims.proofs.Pools.{node, pool}
use Rattle.claims.proofs.LinkCases.{deep_cases, link_cases}
use Rattle.claims.proofs.FaultCases.{fault_cases}
use Rattle.claims.proofs.SeniorCases.{senior_cases}
use Rattle.claims.proofs.QuarterCases.{quarter_cases}
use Rattle.claims.proofs.HoldingCases.{holding_cases}
use Rattle.claims.proofs.ParentCases.{parent_cases}
use Rattle.claims.proofs.RestoredCases.{restored_cases}

-- document 01's two grants of the slips
abbrev seven : Request
seven = record { number = 7; rank = 10; kind = 1; bounds = box 100 199 1 40 32 63 }

abbrev three : Request
three = record { number = 3; rank = 20; kind = 0; bounds = box 150 150 12 12 0 65535 }

-- one whose staff from parts it from the others at level 0
abbrev nine : Request
nine = record { number = 9; rank = 10; kind = 1; bounds = box 40000 40001 41 50 0 9 }

-- a history with every refusal that the book knows, and an inner cell revoked
abbrev calls : List Call
calls =
    grant seven
    ∷ grant three
    ∷ grant nine
    ∷ grant seven
    ∷ list (box 0 65535 0 65535 0 65535) Touching (1 ∷ 1 ∷ [])
    ∷ list (box 150 150 1 20 40 41) Touching (1 ∷ 1 ∷ 1 ∷ [])
    ∷ decide 150 12 40
    ∷ revoke 7
    ∷ revoke 7
    ∷ decide 150 12 40
    ∷ decide 40000 50 8
    ∷ count
    ∷ grant (record { number = 0; rank = 0; kind = 0; bounds = box 0 0 0 0 0 0 })
    ∷ grant (record { number = 1; rank = 0; kind = 2; bounds = box 0 0 0 0 0 0 })
    ∷ grant (record { number = 1; rank = 0; kind = 0; bounds = box 0 0 2 1 0 1 })
    ∷ grant seven
    ∷ grant (record { number = 1; rank = 0; kind = 0; bounds = box 0 0 1 1 0 1 })
    ∷ list (box 0 65535 0 65535 0 65535) Touching (1 ∷ 1 ∷ 1 ∷ 1 ∷ [])
    ∷ []

-- two grants of one rank that overlap
abbrev equal_ranks : List Call
equal_ranks =
    grant (record { number = 8; rank = 10; kind = 1; bounds = box 0 9 0 9 0 9 })
    ∷ grant (record { number = 4; rank = 10; kind = 0; bounds = box 0 9 0 9 0 9 })
    ∷ decide 9 9 8
    ∷ []

-- one that goes behind 3 on the left, at level 1
abbrev five : Request
five = record { number = 5; rank = 1; kind = 0; bounds = box 0 65535 12 12 0 1 }

abbrev fresh : List ℕ
fresh = (start_call (replicate 36 9)).state

-- four cells after the grants, then the revoke
abbrev revoked_last : List Request → ℕ → List ℕ
revoked_last rs n = after words_step (start_call (replicate 47 9)).state (map grant rs ++ (revoke n ∷ []))

-- two cells that link to each other; the second names the first as its parent, the first is the root's
abbrev cycle : List ℕ
cycle = pool 2 1 0 (node 2 2 0 0 ++ node 1 1 0 1)

-- two cells of one rank and one number; the first bars, the second opens
abbrev repeated_number : List ℕ
repeated_number = pool 2 1 0 ((2 ∷ 0 ∷ 7 ∷ 20 ∷ 0 ∷ 9 ∷ 0 ∷ 9 ∷ 0 ∷ 9 ∷ 0 ∷ []) ++ (0 ∷ 0 ∷ 7 ∷ 21 ∷ 0 ∷ 9 ∷ 0 ∷ 9 ∷ 0 ∷ 9 ∷ 1 ∷ []))

abbrev doors : Interval
doors = record { from = 40; to = 50 }

abbrev two : List Grant
two =
    record { number = 7; rank = 10; kind = Opens; bounds = box 100 199 1 40 32 63 }
    ∷ record { number = 300; rank = 255; kind = Bars; bounds = box 0 65535 50 60 0 1 }
    ∷ []

-- the doors and grants of an accepted file, or the fault of a refused one
abbrev verdict_by : List ℕ → Option Fault → List ℕ
verdict_by f None = 0 ∷ (doors_in f).from ∷ (doors_in f).to ∷ flat_map grant_values (grants_in f)
verdict_by f (Some fault) = fault_number fault ∷ fault_values fault

abbrev verdict_numbers : List ℕ → List ℕ
verdict_numbers f = verdict_by f (first_fault (file_causes f))

-- the grants that touch the doors: 7 and 9
abbrev touching_two : List Grant → List Grant
touching_two gs = filter (touches doors) gs

abbrev cases : List Case
cases =
    -- (8a), (8b) and (4) of source 001: the search range's highs are the tos, its lows the froms
    record { given = test (inside (range_of_box (box 0 9 40 50 0 9)) (5 ∷ 1 ∷ 5 ∷ 5 ∷ 40 ∷ 5 ∷ 1 ∷ [])); wanted = one 1 }
    ∷ record { given = test (inside (range_of_box (box 0 9 41 50 0 9)) (5 ∷ 1 ∷ 5 ∷ 5 ∷ 40 ∷ 5 ∷ 1 ∷ [])); wanted = one 0 }
    -- (2b): the right child's low is the middle
    ∷ record { given = high (half side.Left root_region 0) 0 ∷ low (half side.Right root_region 0) 0 ∷ []; wanted = 32767 ∷ 32768 ∷ [] }
    -- start, and a history on words beside the same on the book
    ∷ record { given = fresh; wanted = 3 ∷ 0 ∷ 1 ∷ (2 ∷ replicate 10 0) ++ (3 ∷ replicate 10 0) ++ replicate 11 0 }
    ∷ record { given = numbers (responses words_step fresh calls); wanted = numbers (responses book_step (empty_book 3) calls) }
    -- the book's answers to it, by hand: an inner cell (7) is revoked and nothing behind it is lost; at equal doors 3 outranks 7
    ∷ record {
      given = numbers (responses book_step (empty_book 3) calls);
      wanted =
          0 ∷ 0 ∷ 0 ∷ 5
          ∷ 8 ∷ 3 ∷ 1 ∷ 1
          ∷ 0 ∷ 2 ∷ 3 ∷ 7 ∷ 1
          ∷ 0 ∷ 2 ∷ 3 ∷ 20 ∷ 0 ∷ 150 ∷ 150 ∷ 12 ∷ 12 ∷ 0 ∷ 65535
          ∷ 0
          ∷ 7
          ∷ 0 ∷ 2 ∷ 3 ∷ 20 ∷ 0 ∷ 150 ∷ 150 ∷ 12 ∷ 12 ∷ 0 ∷ 65535
          ∷ 0 ∷ 1 ∷ 9 ∷ 10 ∷ 1 ∷ 40000 ∷ 40001 ∷ 41 ∷ 50 ∷ 0 ∷ 9
          ∷ 0 ∷ 2 ∷ 1
          ∷ 3
          ∷ 4
          ∷ 2
          ∷ 0
          ∷ 6
          ∷ 0 ∷ 3 ∷ 3 ∷ 7 ∷ 9 ∷ 1
          ∷ [];
    }
    -- at equal rank the higher number decides
    ∷ record { given = numbers (responses book_step (empty_book 3) equal_ranks); wanted = 0 ∷ 0 ∷ 0 ∷ 1 ∷ 8 ∷ 10 ∷ 1 ∷ 0 ∷ 9 ∷ 0 ∷ 9 ∷ 0 ∷ 9 ∷ [] }
    -- of one rank and one number, which no calls leave, the first in the search's order decides: cell 1, which bars
    ∷ record { given = say.responses (decide_call repeated_number 5 5 5).answer; wanted = 0 ∷ 2 ∷ 7 ∷ 10 ∷ 0 ∷ 0 ∷ 9 ∷ 0 ∷ 9 ∷ 0 ∷ 9 ∷ [] }
    -- the words after it, each cell's parent last: 7's cell 1 had the children 3 and 9; 3, terminal on its left, took its place; 7 was granted
    -- again, behind 3, in cell 1
    ∷ record {
      given = after words_step fresh calls;
      wanted =
          3 ∷ 2 ∷ 0
          ∷ (0 ∷ 0 ∷ 7 ∷ 21 ∷ 100 ∷ 199 ∷ 1 ∷ 40 ∷ 32 ∷ 63 ∷ 2 ∷ [])
          ++ (1 ∷ 3 ∷ 3 ∷ 40 ∷ 150 ∷ 150 ∷ 12 ∷ 12 ∷ 0 ∷ 65535 ∷ 0 ∷ [])
          ++ (0 ∷ 0 ∷ 9 ∷ 21 ∷ 40000 ∷ 40001 ∷ 41 ∷ 50 ∷ 0 ∷ 9 ∷ 2 ∷ []);
    }
    -- the words where a revoke came last: the terminal cell 2 was the son of 7's cell 1 and took its right link, so that cell 3 names it as its
    -- parent; cell 1 is the free head
    ∷ record {
      given = revoked_last (seven ∷ three ∷ nine ∷ []) 7;
      wanted =
          4 ∷ 2 ∷ 1
          ∷ (4 ∷ replicate 10 0)
          ++ (0 ∷ 3 ∷ 3 ∷ 40 ∷ 150 ∷ 150 ∷ 12 ∷ 12 ∷ 0 ∷ 65535 ∷ 0 ∷ [])
          ++ (0 ∷ 0 ∷ 9 ∷ 21 ∷ 40000 ∷ 40001 ∷ 41 ∷ 50 ∷ 0 ∷ 9 ∷ 2 ∷ [])
          ++ replicate 11 0;
    }
    -- the terminal cell 4 was 3's: it is cut off there, takes both links of cell 1 and is their cells' parent; no other cell was free
    ∷ record {
      given = revoked_last (seven ∷ three ∷ nine ∷ five ∷ []) 7;
      wanted =
          4 ∷ 4 ∷ 1
          ∷ replicate 11 0
          ++ (0 ∷ 0 ∷ 3 ∷ 40 ∷ 150 ∷ 150 ∷ 12 ∷ 12 ∷ 0 ∷ 65535 ∷ 4 ∷ [])
          ++ (0 ∷ 0 ∷ 9 ∷ 21 ∷ 40000 ∷ 40001 ∷ 41 ∷ 50 ∷ 0 ∷ 9 ∷ 4 ∷ [])
          ++ (2 ∷ 3 ∷ 5 ∷ 2 ∷ 0 ∷ 65535 ∷ 12 ∷ 12 ∷ 0 ∷ 1 ∷ 0 ∷ []);
    }
    -- left is blank, so right is followed, to cell 2
    ∷ record {
      given = revoked_last (seven ∷ nine ∷ []) 7;
      wanted =
          4 ∷ 2 ∷ 1
          ∷ (3 ∷ replicate 10 0)
          ++ (0 ∷ 0 ∷ 9 ∷ 21 ∷ 40000 ∷ 40001 ∷ 41 ∷ 50 ∷ 0 ∷ 9 ∷ 0 ∷ [])
          ++ (4 ∷ replicate 10 0)
          ++ replicate 11 0;
    }
    -- a terminal cell, 9's cell 3, is cut off
    ∷ record {
      given = revoked_last (seven ∷ three ∷ nine ∷ []) 9;
      wanted =
          4 ∷ 1 ∷ 3
          ∷ (2 ∷ 0 ∷ 7 ∷ 21 ∷ 100 ∷ 199 ∷ 1 ∷ 40 ∷ 32 ∷ 63 ∷ 0 ∷ [])
          ++ (0 ∷ 0 ∷ 3 ∷ 40 ∷ 150 ∷ 150 ∷ 12 ∷ 12 ∷ 0 ∷ 65535 ∷ 1 ∷ [])
          ++ (4 ∷ replicate 10 0)
          ++ replicate 11 0;
    }
    -- fault 9 on links that form a cycle: the first cell, met again, names another parent
    ∷ record { given = say.responses (count_call cycle).answer; wanted = one 9 }
    ∷ record { given = say.responses (decide_call cycle 0 0 0).answer; wanted = one 9 }
    ∷ record { given = say.responses (revoke_call cycle 5).answer; wanted = one 9 }
    -- a file of two grants, byte for byte, and its verdict; its two checks were computed apart
    ∷ record {
      given = take 12 (file_of doors two);
      wanted = 0x4C ∷ 0x47 ∷ 0x46 ∷ 0x32 ∷ 0 ∷ 0 ∷ 0 ∷ 2 ∷ 0 ∷ 40 ∷ 0 ∷ 50 ∷ [];
    }
    ∷ record { given = drop 12 (take 510 (file_of doors two)); wanted = replicate 498 0 }
    ∷ record {
      given = take 40 (drop 512 (file_of doors two));
      wanted =
          0x4C ∷ 0x47 ∷ 0x46 ∷ 0x32 ∷ 0 ∷ 1 ∷ 0 ∷ 2
          ∷ 0 ∷ 7 ∷ 10 ∷ 1 ∷ 0 ∷ 100 ∷ 0 ∷ 199 ∷ 0 ∷ 1 ∷ 0 ∷ 40 ∷ 0 ∷ 32 ∷ 0 ∷ 63
          ∷ 1 ∷ 44 ∷ 255 ∷ 0 ∷ 0 ∷ 0 ∷ 255 ∷ 255 ∷ 0 ∷ 50 ∷ 0 ∷ 60 ∷ 0 ∷ 0 ∷ 0 ∷ 1
          ∷ [];
    }
    ∷ record { given = drop 552 (take 1022 (file_of doors two)); wanted = replicate 470 0 }
    ∷ record { given = take 2 (drop 510 (file_of doors two)) ++ drop 1022 (file_of doors two); wanted = 231 ∷ 100 ∷ 127 ∷ 7 ∷ [] }
    ∷ record { given = verdict_numbers (file_of doors two); wanted = 0 ∷ 40 ∷ 50 ∷ flat_map grant_values two }
    -- a byte of it changed; its doors made 41 to 50 with the check made right, so that grant 7 no longer touches them; no file
    ∷ record { given = verdict_numbers (set (file_of doors two) 600 1); wanted = 12 ∷ 1 ∷ [] }
    ∷ record { given = verdict_numbers (file_of (record { from = 41; to = 50 }) two); wanted = 13 ∷ 1 ∷ [] }
    ∷ record { given = verdict_numbers []; wanted = one 10 }
    ∷ record { given = part_of (file_of doors two) 1; wanted = flat_map encode_record two }
    ∷ record { given = part_of (file_of doors two) 0; wanted = [] }
    -- written for its doors after the history, whole and not clipped; held against the pool; loaded elsewhere
    ∷ record {
      given = (write_call (after words_step fresh calls) doors (replicate 1025 5)).lent;
      wanted = file_of doors (touching_two (after book_step (empty_book 3) calls).live) ++ (5 ∷ []);
    }
    ∷ record { given = say.responses (match_call (after words_step fresh calls) (file_of doors two)).answer; wanted = 0 ∷ 9 ∷ [] }
    ∷ record { given = say.responses (match_call (load_call (replicate 25 1) (file_of doors two)).state (file_of doors two)).answer; wanted = one 0 }
    ∷ record { given = say.responses (load_call (replicate 14 1) (file_of doors two)).answer; wanted = one 6 }
    ∷ []

-- in two computations: in one they would take more steps than a single declaration may
deep_cases_lem : T (passed deep_cases)
unfolding filter every any each same_numbers count_from overlaps holds_box relation_of takes first_fault refusing reversed_box outranks deciding_of decide_among
    root_region half meets point_of inside range_of_box range_of_number place field_of capacity_of wrong_length wrong_pool grant_at meet visit_by enter
    search_by descend_from descend free_broken follow terminal_from broken_by search_from insertion_from removal_from search_links insertion_links removal_links
    free_links hits_among search_meets9 point_meets9 hits_by grant_meets9 revoke_meets9 grant_broken revoke_broken grant_order revoke_order list_order
    look_order grant_call revoke_call list_call decide_call count_call
deep_cases_lem = tt

abbrev others : List Case
others = cases ++ link_cases ++ fault_cases ++ senior_cases ++ quarter_cases ++ holding_cases ++ parent_cases ++ restored_cases

other_cases : T (passed others)
unfolding filter every any each same_numbers count_from overwrite insert_by sort_by overlaps holds_box relation_of takes same_grant first_fault refusing
    reversed_box outranks deciding_of decide_among book_grant book_revoke book_list book_decide book_count book_step root_region half meets point_of inside
    range_of_box range_of_doors range_of_number place field_of capacity_of wrong_length wrong_pool grant_at with_cell free_cells fresh_pool meet visit_by enter
    search_by descend_from descend free_broken inserted follow terminal_from replaced reparented raised unlinked freed removed
    broken_by search_from insertion_from removal_from
    search_links insertion_links removal_links free_links hits_among search_meets9 point_meets9 hits_by grant_meets9 revoke_meets9 grant_broken revoke_broken
    start_order grant_order revoke_order list_order look_order start_call grant_call revoke_call list_call decide_call count_call words_step responses after
    base256 checksum encode_record decode_record sealed header_block record_block records_of wrong_checksum wrong_padding file_of grants_in wrong_block_count
    records_defects last_before content_defects file_defects causes_of file_causes not_in_file wrong_count rest_defects read_causes part_of
    write_order load_order match_order write_call grant_all load_call first_difference match_call block_call mathlib.Core.List.flat_map
other_cases = tt

pub tried_cases : T (passed (deep_cases ++ others))
tried_cases = passed_append deep_cases others deep_cases_lem other_cases
