-- Same grants, same bytes (specs/SameGrantsSameBytes), from what made pools keep (KeepsLaws).
--   live-equal               made pools with the same grants have them in one list
--   answered                 what a made pool answers is what the plain book of its grants does
--   told_by_all_doors        the file for all doors gives the live grants back
--   asked_alike              made pools with one list of grants answer a question alike
--   written_alike, written_apart   and write alike; those without the same grants write apart
--   fixed_by-grants          of two made pools
--   same-grants-same-bytes   the claim
-- Assumes nothing.
use Prim.Native.Nat.{ℕ}
use mathlib.Core.Path.{◌≡◌, refl, sym, ap, subst, ◌∙◌}
use mathlib.Core.Bool.{true}
use mathlib.Core.List.Memᴰ
use mathlib.Core.List.{List, [], ◌∷◌, Memᴰ, head-eq_of_cons-eq}
use native.Mathlib.Omega.{arith}
use Rattle.lists.proofs.TestLaws.{T-iff, filter_all}
use Rattle.lists.proofs.SortLaws.{rises_members}
use Rattle.model.specs.declared.Grant.{Grant}
use Rattle.model.specs.Box.{doors_of}
use Rattle.model.specs.Grant.{touches}
use Rattle.model.specs.Call.{Call, grant, revoke, list, decide, count}
use Rattle.model.specs.Values.{GrantFits, CallFits, CallsFit}
use Rattle.model.specs.Book.{book_of, book_step}
use Rattle.model.specs.Histories.{response_of, responses}
use Rattle.model.proofs.OverlapLaws.{overlap_on_iff}
use Rattle.model.proofs.BookLaws.{book_list-same, book_decide-same}
use Rattle.grants_file.specs.File.{file_of, grants_in}
use Rattle.grants_file.specs.FileSets.{DoorRange, SameGrants}
use Rattle.grants_file.proofs.FileLaws.{grants_in-file_of}
use Rattle.grants_file.proofs.SetLaws.{equal-same, alone-differs}
use Rattle.calls.specs.Calls.{words_step}
use Rattle.calls.proofs.Represents.{grant_number, represents_fits, represents_live, represents_rises}
use Rattle.claims.specs.Made.{Made}
use Rattle.claims.specs.KeepsGrants.{touching, Writes, KeepsGrants}
use Rattle.claims.specs.Claims.{MadePools}
use Rattle.claims.specs.SameGrantsSameBytes.{all_doors, AsksAny, WriteAlike, WriteApart, FixedByGrants, SameGrantsSameBytes}
use Rattle.claims.proofs.MadeLaws.{made_represents, made_calls}
use Rattle.claims.proofs.KeepsLaws.{writes_same, made_pools}

-- doors 0 to 65535 are a range, and every grant that fits touches them
all_doors-range : DoorRange all_doors
all_doors-range = record { order = omega arith; fits = omega arith }

touches_all_doors : (g : Grant) → GrantFits g → touches all_doors g ≡ true
touches_all_doors g fits =
    (T-iff (touches all_doors g)).0
    ((overlap_on_iff (doors_of g.bounds) all_doors).1
    (record {
      starts = (let low = fits.bounds g.bounds.door_from (Memᴰ.tail (Memᴰ.tail (Memᴰ.head refl))) in omega (arith, low));
      ends = omega arith;
    }))

module _ {c : ℕ} {w : List ℕ} {gs : List Grant} (made : Made c w gs) where
  kept : KeepsGrants c w gs
  unfolding MadePools
  kept = made_pools c w gs made

  answered : (call : Call) → CallFits call → response_of (words_step w call) ≡ response_of (book_step (book_of c gs) call)
  unfolding responses
  answered call fits = head-eq_of_cons-eq (kept.answers (call ∷ []) alone)
    where
      alone : CallsFit (call ∷ [])
      alone d (Memᴰ.head e) = subst CallFits (sym e) fits
      alone d (Memᴰ.tail m) = absurd (Memᴰ.not-nil m)

  told_by_all_doors : grants_in (file_of all_doors (touching all_doors gs)) ≡ gs
  told_by_all_doors =
      let h = made_represents made in
      grants_in-file_of all_doors (touching all_doors gs)
      ∙ filter_all (touches all_doors) gs (λ g m. touches_all_doors g (represents_fits h g (represents_live h g m)))

module _ {c d : ℕ} {w v : List ℕ} {gs hs : List Grant} (ours : Made c w gs) (theirs : Made d v hs) where
  live-equal : SameGrants gs hs → gs ≡ hs
  live-equal = rises_members grant_number (represents_rises (made_represents ours)) (represents_rises (made_represents theirs))

  -- a call that the two books answer alike
  alike : (call : Call) → CallFits call → response_of (book_step (book_of c gs) call) ≡ response_of (book_step (book_of d hs) call)
      → response_of (words_step w call) ≡ response_of (words_step v call)
  alike call fits same = answered ours call fits ∙ same ∙ sym (answered theirs call fits)

  asked_alike : gs ≡ hs → (call : Call) → AsksAny call → response_of (words_step w call) ≡ response_of (words_step v call)
  unfolding book_step
  asked_alike same (list q choice lent) asks = alike (list q choice lent) tt (book_list-same (book_of c gs) (book_of d hs) q choice lent (rw same))
  asked_alike same (decide staff door quarter) asks =
      alike (decide staff door quarter) tt (book_decide-same (book_of c gs) (book_of d hs) staff door quarter (rw same))
  asked_alike same (grant r) asks = absurd asks
  asked_alike same (revoke n) asks = absurd asks
  asked_alike same count asks = absurd asks

  written_alike : gs ≡ hs → WriteAlike w v
  written_alike same doors range = (
    file_of doors (touching doors gs),
    (kept ours).files doors range,
    subst (λ (ks : List Grant). Writes v doors (file_of doors (touching doors ks))) (sym same) ((kept theirs).files doors range),
  )

  written_apart : (SameGrants gs hs → ⊥) → WriteApart w v
  written_apart other = (
    file_of all_doors (touching all_doors gs),
    file_of all_doors (touching all_doors hs),
    (kept ours).files all_doors all_doors-range,
    (kept theirs).files all_doors all_doors-range,
    (λ e. other (equal-same (sym (told_by_all_doors ours) ∙ ap grants_in e ∙ told_by_all_doors theirs))),
  )

  fixed_by-grants : FixedByGrants w v gs hs
  fixed_by-grants =
      record {
        answers = λ same. asked_alike (live-equal same);
        files = λ same. written_alike (live-equal same);
        differ = λ g alone. written_apart (alone-differs alone);
      }

pub same-grants-same-bytes : SameGrantsSameBytes
unfolding words_step
same-grants-same-bytes =
    record {
      made = λ c d w v gs hs ours theirs. fixed_by-grants ours theirs;
      fresh = λ c d memory other calls others m n fit fits.
          let ours = made_calls m calls fit in
          let theirs = made_calls n others fits in
          let fixed = fixed_by-grants ours theirs in (
            (λ same q choice lent. fixed.answers same (list q choice lent) tt),
            (λ same staff door quarter. fixed.answers same (decide staff door quarter) tt),
            fixed.files,
            written_apart ours theirs,
          );
      one_file = writes_same;
    }
