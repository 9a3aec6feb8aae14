-- The comparison on small records, computed; what is wanted was worked out by hand from document 02, card 13.
--   compare_cases     multiplicities, entries that differ in one byte, the empty record
--   refusal_cases     24 and 25, each in either record and both at once
--   defect_cases      what is wrong, and where; the longest record, and one entry more
--   left_cases_lem        the last of a kind are left, one after the other
-- Assumes nothing.
use Prim.Native.Nat.{ℕ, ◌/◌, ◌%◌}
use mathlib.Core.Path.{◌≡◌, refl}
use mathlib.Core.Bool.{false}
use mathlib.Core.List.{List, [], ◌∷◌, ◌++◌}
use lib.ListN.{replicate}
use Rattle.std.proofs.Common.{Option, None, Some, Ok, Err}
use Rattle.lists.specs.Tests.{filter, any}
use Rattle.lists.specs.Ranges.{count_from}
use Rattle.lists.specs.Total.{total}
use Rattle.multisets.specs.Multiplicity.{distinct}
use Rattle.multisets.specs.Agreement.{agree, left, is_left}
use Rattle.radix_sort.specs.Keys.{big_endian, key_at}
use Rattle.model.specs.declared.Fault.TheVariants.{BadOpeningsLength, UnorderedQuarters}
use Rattle.model.specs.Answer.{Answer, accepted, refusal}
use Rattle.model.specs.Refusal.{first_fault, refusing}
use Rattle.openings.specs.declared.Opening.{Opening}
use Rattle.openings.specs.declared.RecordDefect.TheVariants.{NotWhole, TooMany, Unordered}
use Rattle.openings.specs.declared.LeftEntry.{LeftEntry}
use Rattle.openings.specs.First.{first_passing}
use Rattle.openings.specs.Entry.{entries_of}
use Rattle.openings.specs.Record.{wrong_size, unordered}
use Rattle.openings.specs.Defects.{openings_defect}
use Rattle.openings.specs.Compare.{openings_order, compare_call}
use Rattle.openings.specs.Left.{left_from}

-- an entry's bytes
abbrev entry : ℕ → ℕ → ℕ → List ℕ
entry door quarter staff =
    door / 256 ∷ door % 256 ∷ quarter / 256 ∷ quarter % 256
    ∷ staff / 16777216 ∷ staff / 65536 % 256 ∷ staff / 256 % 256 ∷ staff % 256 ∷ []

abbrev answer : List ℕ → List ℕ → Answer
answer door panel = (compare_call door panel).answer

-- agree, left in the door record, left in the panel record
abbrev counts : ℕ → ℕ → ℕ → Answer
counts a d p = accepted (a ∷ d ∷ p ∷ [])

-- three of one entry and one of another, in one quarter; the same entry once, with two others
abbrev thrice : List ℕ
thrice = entry 12 88 300 ++ entry 7 88 301 ++ entry 12 88 300 ++ entry 12 88 300

abbrev once : List ℕ
once = entry 9 88 302 ++ entry 12 88 300 ++ entry 7 89 301

pub compare_cases : (answer [] [] ≡ counts 0 0 0)
    × (answer thrice [] ≡ counts 0 4 0)
    × (answer [] once ≡ counts 0 0 3)
    × (answer thrice once ≡ counts 1 3 2)
    × (answer once thrice ≡ counts 1 2 3)
    × (answer thrice thrice ≡ counts 4 0 0)
    -- the high byte of the door, of the quarter and of the staff number, and its low byte
    × (answer (entry 1 5 9) (entry 257 5 9) ≡ counts 0 1 1)
    × (answer (entry 1 5 9) (entry 1 261 9) ≡ counts 0 1 1)
    × (answer (entry 1 5 9) (entry 1 5 16777225) ≡ counts 0 1 1)
    × (answer (entry 1 5 9) (entry 1 5 10) ≡ counts 0 1 1)
    × (answer (entry 65535 65535 4294967295) (entry 65535 65535 4294967295) ≡ counts 1 0 0)
unfolding compare_call refusing openings_order first_fault wrong_size unordered any count_from entries_of key_at big_endian agree left total distinct filter
compare_cases = (refl, refl, refl, refl, refl, refl, refl, refl, refl, refl, refl)

-- not whole; a quarter that falls
abbrev cut : List ℕ
cut = 1 ∷ 2 ∷ 3 ∷ 4 ∷ 5 ∷ 6 ∷ 7 ∷ []

abbrev falling : List ℕ
falling = entry 1 256 3 ++ entry 1 255 3

pub refusal_cases : (answer cut [] ≡ refusal BadOpeningsLength)
    × (answer [] cut ≡ refusal BadOpeningsLength)
    × (answer falling cut ≡ refusal BadOpeningsLength)
    × (answer cut falling ≡ refusal BadOpeningsLength)
    × (answer falling once ≡ refusal UnorderedQuarters)
    × (answer once falling ≡ refusal UnorderedQuarters)
    × (answer (falling ++ (0 ∷ [])) once ≡ refusal BadOpeningsLength)
unfolding compare_call refusing openings_order first_fault wrong_size unordered any count_from key_at big_endian
refusal_cases = (refl, refl, refl, refl, refl, refl, refl)

pub defect_cases : (openings_defect [] ≡ Ok tt)
    × (openings_defect once ≡ Ok tt)
    × (openings_defect cut ≡ Err (NotWhole 7))
    × (openings_defect (once ++ (0 ∷ [])) ≡ Err (NotWhole 25))
    × (openings_defect falling ≡ Err (Unordered 2 256 255))
    × (openings_defect (once ++ falling ++ falling) ≡ Err (Unordered 5 256 255))
    × (openings_defect (entry 1 5 3 ++ once ++ entry 1 88 3) ≡ Err (Unordered 5 89 88))
    × (wrong_size (replicate 32768 0) ≡ false)
    × (openings_defect (replicate 32776 0) ≡ Err (TooMany 4097))
unfolding openings_defect first_passing wrong_size key_at big_endian
defect_cases = (refl, refl, refl, refl, refl, refl, refl, refl, refl)

abbrev opening : ℕ → ℕ → ℕ → Opening
opening d q s = record { door = d; quarter = q; staff = s }

abbrev is_left_at : ℕ → ℕ → ℕ → ℕ → Option LeftEntry
is_left_at n d q s = Some (record { number = n; opening = opening d q s })

pub left_cases_lem : (left_from thrice once 0 ≡ is_left_at 2 7 88 301)
    × (left_from thrice once 2 ≡ is_left_at 3 12 88 300)
    × (left_from thrice once 3 ≡ is_left_at 4 12 88 300)
    × (left_from thrice once 4 ≡ None)
    × (left_from once thrice 0 ≡ is_left_at 1 9 88 302)
    × (left_from once thrice 1 ≡ is_left_at 3 7 89 301)
    × (left_from once thrice 9 ≡ None)
    × (left_from once once 0 ≡ None)
unfolding left_from first_passing is_left filter count_from entries_of key_at big_endian
left_cases_lem = (refl, refl, refl, refl, refl, refl, refl, refl)
