-- Laws of wide grants (specs/Seniority), by the ends of their doors.
--   wide_ends            a range has more than the junior doors exactly if its ends lie that far apart
--   Allowed rank d       the rank is the senior one or above, or the ends lie less far apart
--   senior_iff           a rank isn't too low for doors exactly if they are allowed to it
--   request_senior       a request without faults is allowed its doors
-- Assumes nothing.
use Prim.Native.Nat.{ℕ, suc, ◌+◌, ◌-◌, ◌≤◌, ◌<◌}
use mathlib.Core.Logic.{◌↔◌, ◌⊎◌, inl, inr}
use mathlib.Core.Path.{◌≡◌, refl, sym, ◌∙◌}
use mathlib.Core.Bool.{Bool, true, false, ◌&&◌}
use native.Mathlib.Omega.{arith}
use lib.Dec.{leb, ltb}
use borrow.Author.Tests.{leb-true, leb-false, ltb-false, lt-ltb, le-ltb}
use Rattle.model.specs.Interval.{Interval}
use Rattle.model.specs.Box.{doors_of}
use Rattle.model.specs.Seniority.{max_junior_doors, senior_rank, rank_too_low}
use Rattle.model.specs.Call.{Request}
use Rattle.model.specs.Judged.{NoneOf, none_more}
use Rattle.model.specs.Arguments.{request_causes}

pub wide_ends : (from to : ℕ) → leb (from + max_junior_doors) to ≡ ltb max_junior_doors (suc to - from)
wide_ends from to = go (leb (from + max_junior_doors) to) refl
  where
    go : (t : Bool) → leb (from + max_junior_doors) to ≡ t → t ≡ ltb max_junior_doors (suc to - from)
    go true e = let far = leb-true (from + max_junior_doors) to e in sym (lt-ltb max_junior_doors (suc to - from) (omega arith))
    go false e = let near = leb-false (from + max_junior_doors) to e in sym (le-ltb max_junior_doors (suc to - from) (omega arith))

abbrev pub Allowed : ℕ → Interval → Type 0
Allowed rank d = (senior_rank ≤ rank) ⊎ (d.to < d.from + max_junior_doors)

pub senior_iff : (rank : ℕ) (d : Interval) → (rank_too_low rank d ≡ false) ↔ Allowed rank d
senior_iff rank d = (λ e. allowed (ltb rank senior_rank) refl e, right)
  where
    allowed : (junior : Bool) → ltb rank senior_rank ≡ junior → (junior && ltb max_junior_doors (suc d.to - d.from)) ≡ false → Allowed rank d
    allowed false p e = inl (ltb-false rank senior_rank p)
    allowed true p e = inr (leb-false (d.from + max_junior_doors) d.to (wide_ends d.from d.to ∙ e))

    neither : (junior : Bool) → (junior && false) ≡ false
    neither true = refl
    neither false = refl

    right : Allowed rank d → rank_too_low rank d ≡ false
    right (inl high) = rw (le-ltb rank senior_rank high)
    right (inr near) = rw (le-ltb max_junior_doors (suc d.to - d.from) (omega (arith, near))) (neither (ltb rank senior_rank))

pub request_senior : (r : Request) → NoneOf (request_causes r) → Allowed r.rank (doors_of r.bounds)
request_senior r (none_more p (none_more q (none_more s (none_more t rest)))) = (senior_iff r.rank (doors_of r.bounds)).0 t
