-- The claim of wide grants (specs/SeniorGrants), from the faults that no live grant and no grant of a file has.
--   senior_grants
-- Assumes nothing.
use Prim.Native.Nat.{ℕ}
use mathlib.Core.Logic.{◌↔◌}
use mathlib.Core.Path.{◌≡◌, refl, sym, ap, subst, ◌∙◌}
use mathlib.Core.Bool.{Bool, true, false, true≢false}
use mathlib.Core.List.{List, [], ◌∷◌, ◌++◌, Memᴰ}
use native.Mathlib.Omega.{arith}
use lib.Dec.{eqb}
use lib.ListN.{length}
use borrow.Author.Tests.{eqb-false, ltb-false, ne_eqb, le-ltb}
use Rattle.model.specs.declared.Grant.{Grant}
use Rattle.model.specs.declared.Fault.TheVariants.{AlreadyLive, Full, RankTooLow}
use Rattle.model.specs.Interval.{Interval}
use Rattle.model.specs.Box.{doors_of}
use Rattle.model.specs.Fault.{fault_number}
use Rattle.model.specs.Refusal.{Cause, ◌if◌}
use Rattle.model.specs.Judged.{NoneOf, FirstOf, first_here, first_later}
use Rattle.model.specs.Seniority.{rank_too_low}
use Rattle.model.specs.Arguments.{request_causes}
use Rattle.model.specs.Call.{Request, request_of}
use Rattle.model.specs.Book.{Book, is_live, book_grant}
use Rattle.model.proofs.JudgedLaws.{refusing_judged}
use Rattle.model.proofs.SeniorityLaws.{senior_iff, request_senior}
use Rattle.grants_file.specs.File.{grants_in, file_of}
use Rattle.grants_file.specs.FileSets.{FileSet}
use Rattle.grants_file.proofs.FileLaws.{grants_in-file_of}
use Rattle.grants_file.proofs.VerdictLaws.{accepted-files}
use Rattle.calls.proofs.Represents.{Represents, live-faultless}
use Rattle.calls.proofs.WriteLaws.{touching-set}
use Rattle.claims.specs.SeniorGrants.{Senior, OtherwiseRight, SeniorGrants}
use Rattle.claims.proofs.MadeLaws.{made_represents}
use Rattle.claims.proofs.KeepsLaws.{writes_same, files-written}

faultless_senior : (g : Grant) → NoneOf (request_causes (request_of g)) → Senior g.rank g.bounds
faultless_senior g faultless = request_senior (request_of g) faultless

live_senior : {w : List ℕ} {b : Book} → Represents w b → (g : Grant) → Memᴰ g b.live → Senior g.rank g.bounds
live_senior h g m = faultless_senior g (live-faultless h g m)

set_senior : {doors : Interval} {gs : List Grant} → FileSet doors gs → (g : Grant) → Memᴰ g (grants_in (file_of doors gs)) → Senior g.rank g.bounds
set_senior {doors} {gs} s g m = faultless_senior g (s.each g (subst (Memᴰ g) (grants_in-file_of doors gs) m)).faultless

module _ (b : Book) (r : Request) where
  abbrev causes : List Cause
  causes = request_causes r ++ (AlreadyLive if is_live b r.number ∷ Full if eqb (length b.live) b.capacity ∷ [])

  -- 16 is first exactly where it alone is wrong in the arguments: the other faults of the line have other numbers
  first_too_low : FirstOf causes RankTooLow ↔ (OtherwiseRight r × (Senior r.rank r.bounds → ⊥))
  first_too_low = (there, back)
    where
      there : FirstOf causes RankTooLow → OtherwiseRight r × (Senior r.rank r.bounds → ⊥)
      there (first_later p (first_later q (first_later t (first_here low same)))) = (
        record { number = (let some = eqb-false r.number 0 p in omega arith); kind = ltb-false 1 r.kind q; order = t },
        (λ s. true≢false (sym low ∙ (senior_iff r.rank (doors_of r.bounds)).1 s)),
      )
      there (first_later p (first_later q (first_later t (first_later u (first_later v (first_later _ e)))))) = elim e [ ]
      there (first_here p same) = absurd (omega (arith, ap fault_number same))
      there (first_later p (first_here q same)) = absurd (omega (arith, ap fault_number same))
      there (first_later p (first_later q (first_here t same))) = absurd (omega (arith, ap fault_number same))
      there (first_later p (first_later q (first_later t (first_later u (first_here v same))))) = absurd (omega (arith, ap fault_number same))
      there (first_later p (first_later q (first_later t (first_later u (first_later v (first_here x same)))))) =
          absurd (omega (arith, ap fault_number same))

      low : (t : Bool) → rank_too_low r.rank (doors_of r.bounds) ≡ t → (Senior r.rank r.bounds → ⊥)
          → rank_too_low r.rank (doors_of r.bounds) ≡ true
      low true e junior = e
      low false e junior = absurd (junior ((senior_iff r.rank (doors_of r.bounds)).0 e))

      back : OtherwiseRight r × (Senior r.rank r.bounds → ⊥) → FirstOf causes RankTooLow
      back (right, junior) =
          first_later (ne_eqb r.number 0 (λ e. omega (arith, e, right.number)))
          (first_later (le-ltb 1 r.kind right.kind) (first_later right.order (first_here (low _ refl junior) refl)))

pub senior_grants : SeniorGrants
unfolding book_grant
senior_grants =
    record {
      live = λ c w gs made g m. live_senior (made_represents made) g m;
      written = λ c w gs made doors f range writes g m.
          let h = made_represents made in
          let same = writes_same w doors f _ writes (files-written h doors range) in
          set_senior (touching-set h doors range) g (subst (λ (k : List ℕ). Memᴰ g (grants_in k)) same m);
      accepted = λ f below taken g m.
          let o = (accepted-files f below).0 taken in
          set_senior o.2 g (subst (λ (k : List ℕ). Memᴰ g (grants_in k)) o.3 m);
      refused = λ b r.
          let judged = refusing_judged (causes b r) b [] _ [] refl in
          (λ e. (first_too_low b r).0 ((judged.refuses RankTooLow).0 e), λ h. (judged.refuses RankTooLow).1 ((first_too_low b r).1 h));
    }
