-- The answers of the calls fit their packing (specs/Fits), one law a call.
--   hits_most       a search hits at most 2,048 cells where the pool is not refused: the counts, and the length of a file
--   file_small      the faults of a file name blocks below 68
--   answers_fit     the claim
-- Assumes nothing.
use Prim.Native.Nat.{ℕ, zero, suc, ◌≤◌, ◌<◌, min}
use mathlib.Core.Logic.{◌⊎◌, inl, inr}
use mathlib.Core.Path.{◌≡◌, refl, sym, ap, subst}
use mathlib.Core.Bool.{Bool, true, false, cond}
use mathlib.Core.List.Memᴰ
use mathlib.Core.List.{List, [], ◌∷◌, ◌++◌, flat_map, map-append, Memᴰ}
use Rattle.std.proofs.Common.{Some, Ok}
use native.Mathlib.Omega.{arith}
use lib.Dec.{leb, ltb, lit<}
use lib.ListN.{length}
use borrow.Author.Tests.{leb-false, lt-ltb}
use Rattle.lists.specs.Tests.{every}
use Rattle.lists.specs.Ranges.{count_from}
use Rattle.lists.proofs.SortLaws.{sort_by_mem}
use Rattle.lists.proofs.OrLaws.{or_false_iff}
use Rattle.lists.proofs.ListLaws.{count_from_mem}
use Rattle.model.specs.declared.Box.{Box}
use Rattle.model.specs.declared.Grant.{Grant}
use Rattle.model.specs.declared.Choice.{Choice}
use Rattle.model.specs.Relation.{taken}
use Rattle.model.specs.declared.Kind.{Kind}
use Rattle.model.specs.declared.Kind.TheVariants.{Bars, Opens}
use Rattle.model.specs.Limits.{max_grants}
use Rattle.model.specs.Interval.{Interval}
use Rattle.model.specs.Grant.{same_grant}
use Rattle.model.specs.Answer.{decision_answer, matched_answer}
use Rattle.model.specs.Refusal.{Cause}
use Rattle.model.specs.Decide.{decide_among, deciding_of, decision_of}
use Rattle.model.specs.Call.{Request}
use Rattle.model.specs.Values.{word_values, byte_values, Below}
use Rattle.model.proofs.RefusalLaws.{causes_absent, append_absent}
use Rattle.model.proofs.JudgedLaws.{none_of_iff}
use Rattle.geometry.specs.Region.{Region}
use Rattle.geometry.specs.SearchRange.{range_of_box, range_of_doors, range_of_all}
use Rattle.geometry.specs.Point.{in_range}
use Rattle.pool.specs.declared.Field.TheVariants.{Number}
use Rattle.pool.specs.Layout.{field_of, place}
use Rattle.pool.specs.Cell.{grant_at}
use Rattle.pool.specs.Capacity.{capacity_of, wrong_pool}
use Rattle.pool.proofs.CapacityLaws.{capacity_of-pool_length, wrong_pool_iff}
use Rattle.adt.specs.Search.{search_by}
use Rattle.grants_file.specs.Layout.{max_blocks}
use Rattle.grants_file.specs.Record.{record_number}
use Rattle.grants_file.specs.Block.{records_of}
use Rattle.grants_file.specs.File.{count_in, blocks_in, block_at, wrong_block_count, total_in, doors_in}
use Rattle.grants_file.specs.Defects.{DefectCause, start_defects, layout_defects, record_defects, records_defects}
use Rattle.grants_file.specs.Defects.{last_before, miscounted, content_defects, block_defects, file_defects}
use Rattle.grants_file.specs.Verdict.{causes_of, file_causes}
use Rattle.block_read.specs.BlockRead.{not_in_file, wrong_count, rest_defects, read_causes, block_call, Part, empty_part, part_at}
use Rattle.grants_file.proofs.BytesLaws.{get_d_below}
use Rattle.grants_file.proofs.CauseLaws.{Whole, wrong_block_count_iff, accepted_iff}
use Rattle.grants_file.proofs.VerdictLaws.{passes-set}
use Rattle.block_read.proofs.BlockReadSteps.{RecordsAt, part_cases}
use Rattle.calls.specs.Walks.{box_search, door_search, hits_of, grants_hit}
use Rattle.calls.specs.Causes.{length_needed}
use Rattle.calls.specs.Order.{start_order, grant_order, revoke_order, list_order, look_order, write_order, load_order, match_order}
use Rattle.calls.specs.Calls.{start_call, grant_call, revoke_call, list_call, decide_call, count_call}
use Rattle.calls.specs.FileCalls.{touching_grants, write_call, load_call, first_difference, match_call}
use Rattle.openings.specs.Record.{wrong_size}
use Rattle.openings.specs.Compare.{openings_order, compare_call}
use Rattle.openings.proofs.DefectLaws.{wrong_size-sized}
use Rattle.openings.proofs.CompareLaws.{comparison-few}
use Rattle.packing.specs.Pack.{a_values}
use Rattle.calls.proofs.FewHitsLaws.{hits_few}
use Rattle.claims.specs.PackedFits.{Fits, FitsPair, FitsLength, FitsThree, FitsPart, AnswersFit}
use Rattle.claims.proofs.PackedFaultLaws.{SmallAll, SmallFirst, fault-fits, small_all, small_first, small_append, call_fits}

capacity_most : (w : List ℕ) → wrong_pool w ≡ false → capacity_of w ≤ max_grants
capacity_most w right =
    let sized = (wrong_pool_iff w).0 right in
    omega (arith, capacity_of-pool_length w sized.0 sized.1.long, sized.1.few)

pub hits_most : (w : List ℕ) (q : Region) (passes : Grant → Bool) → wrong_pool w ≡ false → length (hits_of (search_by w q passes)) ≤ max_grants
hits_most w q passes right = omega (arith, hits_few w q passes, capacity_most w right)

start_fits : (w : List ℕ) → Fits (start_call w).answer
unfolding start_call start_order every
start_fits w = call_fits Fits fault-fits _ w [] _ (small_all _ refl) (λ e. lit< tt)

grant-fits : (w : List ℕ) (r : Request) → Fits (grant_call w r).answer
unfolding grant_call grant_order every
grant-fits w r = call_fits Fits fault-fits _ w [] _ (small_all _ refl) (λ e. lit< tt)

revoke-fits : (w : List ℕ) (n : ℕ) → Fits (revoke_call w n).answer
unfolding revoke_call revoke_order every
revoke-fits w n = call_fits Fits fault-fits _ w [] _ (small_all _ refl) (λ e. lit< tt)

list-fits : (w : List ℕ) (q : Box) (choice : Choice) (lent : List ℕ) → Fits (list_call w q choice lent).answer
unfolding list_call list_order every
list-fits w q choice lent =
    call_fits Fits fault-fits _ w lent _
    (small_first _ _ (lit< tt)
    (λ right.
    let few = hits_most w (range_of_box q) (taken choice q) right in
    small_all _ (rw (lt-ltb (length (hits_of (box_search w q choice))) a_values (omega arith)))))
    (λ e. omega (arith, hits_most w (range_of_box q) (taken choice q) (causes_absent _ _ e).0))

-- 0, 1 or 2
decision_fits : (gs : List Grant) → Fits (decision_answer (Ok (decide_among gs)))
unfolding decide_among
decision_fits [] = lit< tt
decision_fits (g ∷ gs) = go (deciding_of g gs).kind (deciding_of g gs)
  where
    go : (k : Kind) (d : Grant) → Fits (decision_answer (Ok (decision_of k d)))
    go Bars d = lit< tt
    go Opens d = lit< tt

decide-fits : (w : List ℕ) (staff door quarter : ℕ) → Fits (decide_call w staff door quarter).answer
unfolding decide_call look_order every
decide-fits w staff door quarter = call_fits Fits fault-fits _ w [] _ (small_all _ refl) (λ e. decision_fits _)

count_fits : (w : List ℕ) → FitsPair (count_call w).answer
unfolding count_call look_order every
count_fits w =
    call_fits FitsPair fault-fits _ w [] _ (small_all _ refl)
    (λ e.
    let right = (causes_absent _ _ e).0 in
    (omega (arith, hits_most w range_of_all (in_range range_of_all) right), omega (arith, capacity_most w right)))

write-fits : (w : List ℕ) (doors : Interval) (lent : List ℕ) → FitsLength (write_call w doors lent).answer
unfolding write_call write_order every
write-fits w doors lent =
    call_fits FitsLength fault-fits _ w lent _
    (small_first _ _ (lit< tt)
    (λ right.
    let few = hits_most w (range_of_doors doors) (in_range (range_of_doors doors)) right in
    small_all _ (rw (lt-ltb (length_needed (hits_of (door_search w doors))) a_values (omega arith)))))
    (λ e. omega (arith, hits_most w (range_of_doors doors) (in_range (range_of_doors doors)) (causes_absent _ _ e).0))

-- the causes of defects in two rows
small_join : (cs ds : List DefectCause) → SmallAll (causes_of cs) → SmallAll (causes_of ds) → SmallAll (causes_of (cs ++ ds))
unfolding causes_of
small_join cs ds p q = subst SmallAll (sym (map-append _ cs ds)) (small_append (causes_of cs) (causes_of ds) p q)

-- a block's causes name its number
module _ (i : ℕ) (few : i < max_blocks) where
  number_small : ltb i a_values ≡ true
  number_small = lt-ltb i a_values (omega arith)

  start_small : (b : List ℕ) → SmallAll (causes_of (start_defects b i))
  unfolding every causes_of flat_map
  start_small b = rw number_small

  layout_small : (b : List ℕ) (t : Bool) → SmallAll (causes_of (layout_defects b i t))
  unfolding every causes_of flat_map
  layout_small b t = rw number_small

  record_small : (doors : Interval) (k last : ℕ) (r : List ℕ) → SmallAll (causes_of (record_defects doors i k last r))
  unfolding every causes_of flat_map
  record_small doors k last r = rw number_small

  records_small : (doors : Interval) (k last : ℕ) (rs : List (List ℕ)) → SmallAll (causes_of (records_defects doors i k last rs))
  unfolding records_defects every causes_of
  records_small doors k last [] = refl
  records_small doors k last (r ∷ rs) =
      small_join (record_defects doors i k last r) (records_defects doors i (suc k) (record_number r) rs)
      (record_small doors k last r)
      (records_small doors (suc k) (record_number r) rs)

content_small : (f : List ℕ) (i : ℕ) → i < max_blocks → SmallAll (causes_of (content_defects f i))
unfolding content_defects every causes_of
content_small f zero h = refl
content_small f (suc i) h =
    let b = block_at f (suc i) in
    let records = records_of b (count_in (total_in f) (suc i)) in
    small_join (layout_defects b (suc i) (miscounted f (suc i))) (records_defects (doors_in f) (suc i) 1 (last_before f (suc i)) records)
    (layout_small (suc i) h b (miscounted f (suc i)))
    (records_small (suc i) h (doors_in f) 1 (last_before f (suc i)) records)

blocks_small : (f : List ℕ) (is : List ℕ) → ((i : ℕ) → Memᴰ i is → i < max_blocks) → SmallAll (causes_of (flat_map (block_defects f) is))
unfolding every causes_of flat_map
blocks_small f [] h = refl
blocks_small f (i ∷ is) h =
    let few = h i (Memᴰ.head refl) in
    small_join (block_defects f i) (flat_map (block_defects f) is)
    (small_join (start_defects (block_at f i) i) (content_defects f i) (start_small i few (block_at f i)) (content_small f i few))
    (blocks_small f is (λ j m. h j (Memᴰ.tail m)))

pub file_small : (f : List ℕ) (others : List Cause) → SmallAll others → SmallFirst (file_causes f ++ others)
unfolding file_causes file_defects flat_map causes_of
file_small f others small =
    small_first _ _ (lit< tt)
    (λ right.
    let whole = (wrong_block_count_iff f).0 right in
    let n = blocks_in f in
    let blocks = blocks_small f (count_from 0 n) (λ i m. omega (arith, (count_from_mem 0 n i m).1, whole.few)) in
    small_all _ (small_append (causes_of (flat_map (block_defects f) (count_from 0 n))) others blocks small))

load_fits : (w f : List ℕ) → Fits (load_call w f).answer
unfolding load_call load_order every
load_fits w f = call_fits Fits fault-fits _ w [] _ (small_first _ _ (lit< tt) (λ right. file_small f _ refl)) (λ e. lit< tt)

-- the grants have numbers of 16 bits
abbrev Numbered : List Grant → Type 0
Numbered gs = (g : Grant) → Memᴰ g gs → g.number < word_values

difference_fits : (gs hs : List Grant) → Numbered gs → Numbered hs → Fits (matched_answer (Ok (first_difference gs hs)))
unfolding first_difference
difference_fits [] [] p q = lit< tt
difference_fits [] (h ∷ hs) p q = omega (arith, q h (Memᴰ.head refl))
difference_fits (g ∷ gs) [] p q = omega (arith, p g (Memᴰ.head refl))
difference_fits (g ∷ gs) (h ∷ hs) p q =
    go (same_grant g h) (difference_fits gs hs (λ x m. p x (Memᴰ.tail m)) (λ x m. q x (Memᴰ.tail m)))
  where
    go : (same : Bool) → Fits (matched_answer (Ok (first_difference gs hs)))
        → Fits (matched_answer (Ok (cond same (first_difference gs hs) (Some (min g.number h.number)))))
    go true later = later
    go false later = omega (arith, p g (Memᴰ.head refl))

touching-numbered : (w : List ℕ) (doors : Interval) → Below word_values w → Numbered (touching_grants w doors)
unfolding grant_at field_of
touching-numbered w doors below g m =
    let s = door_search w doors in
    let hit = Memᴰ.of_map (grant_at w) (hits_of s) (sort_by_mem (λ (x : Grant). x.number) (grants_hit w s) m) in
    subst (λ (x : Grant). x.number < word_values) hit.2 (get_d_below word_values w (place hit.0 Number) (lit< tt) below)

match_fits : (w f : List ℕ) → Below word_values w → Below byte_values f → Fits (match_call w f).answer
unfolding match_call match_order every
match_fits w f words bytes =
    call_fits Fits fault-fits _ w [] _ (small_first _ _ (lit< tt) (λ right. file_small f _ refl))
    (λ e.
    let file = (append_absent (file_causes f) _ (causes_absent _ _ e).1).0 in
    let set = passes-set f bytes ((accepted_iff f).0 ((none_of_iff (file_causes f)).1 file)) in
    difference_fits _ _ (touching-numbered w (doors_in f) words) (λ g m. (set.each g m).fits.number))

-- a block that block read does not refuse with 10
record Inside (f : List ℕ) (i : ℕ) : Type 0 where
  whole : Whole f
  inside : i < blocks_in f

block_inside : (f : List ℕ) (i : ℕ) → not_in_file f i ≡ false → Inside f i
unfolding not_in_file
block_inside f i e =
    let both = (or_false_iff (wrong_block_count f) (leb (blocks_in f) i)).0 e in
    record { whole = (wrong_block_count_iff f).0 both.0; inside = leb-false (blocks_in f) i both.1 }

rest_small : (f : List ℕ) (i : ℕ) → i < max_blocks → SmallAll (causes_of (rest_defects f i))
unfolding rest_defects every causes_of
rest_small f zero h = refl
rest_small f (suc i) h = layout_small (suc i) h (block_at f (suc i)) (wrong_count f (suc i))

block-fits : (f : List ℕ) (i : ℕ) → Fits (block_call f i).answer
unfolding block_call read_causes
block-fits f i =
    call_fits Fits fault-fits _ f [] _
    (small_first _ _ (lit< tt)
    (λ right.
    let b = block_inside f i right in
    let few : i < max_blocks = omega (arith, b.inside, b.whole.few) in
    small_all _ (small_join (start_defects (block_at f i) i) (rest_defects f i) (start_small i few (block_at f i)) (rest_small f i few))))
    (λ e. lit< tt)

part-fits : (f : List ℕ) (i : ℕ) → FitsPart f i
part-fits f i = go (part_cases f i)
  where
    go : (part_at f i ≡ empty_part) ⊎ RecordsAt f i → FitsPart f i
    go (inl e) = record { size = rw e (lit< tt); place = rw e (lit< tt) }
    go (inr h) =
        let b = block_inside f i h.present in
        record {
          size = omega (arith, ap (λ (x : Part). x.size) h.part, h.few);
          place = omega (arith, ap (λ (x : Part). x.from) h.part, b.inside, b.whole.few);
        }

compare-fits : (door panel : List ℕ) → FitsThree (compare_call door panel).answer
unfolding compare_call openings_order every
compare-fits door panel =
    call_fits FitsThree fault-fits _ door panel _ (small_all _ refl)
    (λ e.
    let right = (or_false_iff (wrong_size door) (wrong_size panel)).0 (causes_absent _ _ e).0 in
    let few = comparison-few door panel in
    let in-door = (wrong_size-sized door right.0).few in
    let in-panel = (wrong_size-sized panel right.1).few in
    (omega arith, omega arith, omega arith))

pub answers_fit : AnswersFit
answers_fit =
    record {
      start = start_fits;
      grant = grant-fits;
      revoke = revoke-fits;
      list = list-fits;
      decide = decide-fits;
      count = count_fits;
      write = write-fits;
      load = load_fits;
      «match» = match_fits;
      block = block-fits;
      part = part-fits;
      compare = compare-fits;
    }
