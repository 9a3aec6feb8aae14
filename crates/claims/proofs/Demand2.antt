-- Demand 2: a hit is condition (5); the accepted files; load, match, one byte changed; the parts that block read hands back.
--   refused_boxes             a box with fault 2 is refused by list
--   writer_makes              write gives the file of a set that was granted in any order
--   one_byte_refused          an accepted file with one byte changed
--   parts, refused-parts      what block read hands back, of an accepted file and of a refused block
--   demand2                   its fields about an index are those of made pools (KeepsLaws)
-- Assumes nothing.
use Prim.Native.Nat.{ℕ, zero, suc, ◌/◌, ◌≤◌, ◌<◌}
use mathlib.Core.Logic.{◌≢◌}
use mathlib.Core.Path.{◌≡◌, refl}
use mathlib.Core.Bool.{true, cond}
use mathlib.Core.List.{List, [], ◌∷◌, flat_map}
use Rattle.std.proofs.Common.{None}
use native.Mathlib.Omega.{arith}
use lib.ListN.{length, get_or, set}
use Rattle.model.specs.declared.Box.{Box}
use Rattle.model.specs.declared.Grant.{Grant}
use Rattle.model.specs.declared.Choice.{Choice}
use Rattle.model.specs.declared.Fault.TheVariants.{BadPool, Reversed, BadChecksum}
use Rattle.model.specs.Interval.{Interval}
use Rattle.model.specs.Answer.{accepted, refusal}
use Rattle.model.specs.Refusal.{◌if◌, first_fault, refusing}
use Rattle.model.specs.Arguments.{reversed_box}
use Rattle.model.specs.Values.{byte_values, Below}
use Rattle.model.proofs.RefusalLaws.{refusing-front}
use Rattle.model.proofs.QuarterLaws.{forward_quarters}
use Rattle.geometry.proofs.SearchRangeLaws.{box_hits_iff}
use Rattle.pool.specs.Capacity.{wrong_length, wrong_pool}
use Rattle.grants_file.specs.Layout.{block_bytes}
use Rattle.grants_file.specs.Record.{encode_record}
use Rattle.grants_file.specs.File.{chunk, file_of, blocks_in, grants_in}
use Rattle.block_read.specs.BlockRead.{read_causes, part_of, block_call}
use Rattle.grants_file.specs.FileSets.{Accepted, FileSet, Ordering}
use Rattle.grants_file.proofs.CauseLaws.{Passes, accepted_iff}
use Rattle.grants_file.proofs.VerdictLaws.{accepted-files}
use Rattle.grants_file.proofs.OneByteLaws.{one_byte}
use Rattle.block_read.proofs.PartLaws.{passes-read, part-first, part-grants, part-refusal}
use Rattle.grants_file.proofs.SetLaws.{set-touching}
use Rattle.calls.specs.Order.{list_order}
use Rattle.calls.specs.Calls.{start_call, list_call}
use Rattle.calls.specs.FileCalls.{grant_all, load_call, match_call}
use Rattle.calls.proofs.StartLaws.{start-sized}
use Rattle.calls.proofs.LoadLaws.{set_represents, load-refuses}
use Rattle.calls.proofs.MatchLaws.{match_refuses}
use Rattle.claims.specs.Made.{Memory}
use Rattle.claims.specs.KeepsGrants.{Writes}
use Rattle.claims.specs.Claims.{MadePools, Demand2}
use Rattle.claims.proofs.MadeLaws.{made_calls, set-accepted, made-set}
use Rattle.claims.proofs.KeepsLaws.{files-written, made_pools}

pub refused_boxes : (w : List ℕ) (q : Box) (choice : Choice) (lent : List ℕ) → reversed_box q ≡ true
    → (list_call w q choice lent).answer ≡ cond (wrong_pool w) (refusal BadPool) (refusal Reversed)
unfolding list_call list_order first_fault
refused_boxes w q choice lent reversed = refusing-front _ (Reversed if reversed_box q ∷ []) _ w lent _ Reversed (rw reversed refl)

pub writer_makes : (doors : Interval) (gs hs : List Grant) (c : ℕ) (memory : List ℕ) → FileSet doors gs → Ordering gs hs → Memory c memory → length gs ≤ c
    → Writes (grant_all (start_call memory).state hs) doors (file_of doors gs)
writer_makes doors gs hs c memory s order m room =
    rw (start-sized memory m) (rw (set-touching s) at (files-written (set_represents s memory m room hs order) doors s.doors))

pub one_byte_refused : (f : List ℕ) (i v : ℕ) (w : List ℕ) → Below byte_values f → Accepted f → i < length f → v < byte_values → v ≢ get_or f i 0
    → ((load_call w (set f i v)).answer ≡ cond (wrong_length w) (refusal BadPool) (refusal (BadChecksum (i / block_bytes))))
    × ((match_call w (set f i v)).answer ≡ cond (wrong_pool w) (refusal BadPool) (refusal (BadChecksum (i / block_bytes))))
one_byte_refused f i v w below taken inside byte other =
    let refused = one_byte f i v below taken inside byte other in
    (load-refuses w (set f i v) _ refused, match_refuses w (set f i v) _ refused)

-- block read accepts a block in which no cause holds
block-accepted : (f : List ℕ) (i : ℕ) → first_fault (read_causes f i) ≡ None → (block_call f i).answer ≡ accepted []
unfolding block_call refusing
block-accepted f i e = rw e

pub parts : (f : List ℕ) → Below byte_values f → Accepted f
    → ((i : ℕ) → i < blocks_in f → (block_call f i).answer ≡ accepted [])
    × (part_of f 0 ≡ [])
    × ((i : ℕ) → 0 < i → i < blocks_in f → part_of f i ≡ flat_map encode_record (chunk i (grants_in f)))
parts f below taken = (
  (λ i h. block-accepted f i (passes-read f passes i h)),
  part-first f passes passes.whole.some,
  records,
)
  where
    passes : Passes f
    passes = (accepted_iff f).0 taken

    records : (i : ℕ) → 0 < i → i < blocks_in f → part_of f i ≡ flat_map encode_record (chunk i (grants_in f))
    records zero some h = absurd (omega arith)
    records (suc i) some h = part-grants f passes below i h

pub refused-parts : (f : List ℕ) (i : ℕ) → (block_call f i).answer ≢ accepted [] → part_of f i ≡ []
refused-parts f i refused = part-refusal f i (λ e. refused (block-accepted f i e))

pub demand2 : Demand2
unfolding MadePools
demand2 =
    record {
      hits = λ g q fits forward. box_hits_iff g fits q (forward_quarters q forward);
      refused_boxes = refused_boxes;
      lists = λ c memory calls m fit. (made_pools _ _ _ (made_calls m calls fit)).lists;
      decisions = λ c memory calls m fit. (made_pools _ _ _ (made_calls m calls fit)).decisions;
      matches = λ c memory calls m fit. (made_pools _ _ _ (made_calls m calls fit)).matches;
      accepted-files = accepted-files;
      writer_makes = writer_makes;
      loads = λ doors gs c memory s m room. (set-accepted s m room, made_pools _ _ _ (made-set s m room));
      one_byte = one_byte_refused;
      parts = parts;
      refused-parts = refused-parts;
    }
