-- Laws of what is wrong in a record as in a request for its grant (specs/Defects `request_defects`; model/specs/Arguments). They hold of every
-- list of faults that a request may have, so a fault that is added to grant's arguments changes none of them.
--   check_defect i k n c d   the defect by what a check of the record's values found, d where they are right
--   first_wrong-defect       the first defect of a row that begins with them
--   clear_request           none of them is there exactly if the request has no fault
-- Assumes nothing.
use Prim.Native.Nat.{ℕ}
use mathlib.Core.Logic.{◌↔◌}
use mathlib.Core.Path.{◌≡◌, refl}
use mathlib.Core.Bool.{Bool, true, false, cond}
use mathlib.Core.List.{List, [], ◌∷◌, ◌++◌, map}
use Rattle.std.specs.Bool.{⊤}
use Rattle.std.proofs.Common.{Result, Ok, Err}
use Rattle.model.specs.declared.RequestFault.{RequestFault}
use Rattle.model.specs.Call.{Request}
use Rattle.model.specs.Refusal.{Cause, ◌if◌}
use Rattle.model.specs.Judged.{NoneOf, none_end, none_more}
use Rattle.model.specs.Arguments.{wrong_in, fault_of, first_wrong}
use Rattle.grants_file.specs.declared.Defect.{Defect}
use Rattle.grants_file.specs.declared.Defect.TheVariants.{Record}
use Rattle.grants_file.specs.Defects.{DefectCause, ◌when◌, record_fault, first_defect}
use Rattle.grants_file.proofs.DefectLaws.{Clear, clear_nil, clear_cons, clear_parts}

module _ (i k n : ℕ) where
  abbrev pub check_defect : Result ⊤ RequestFault → Result ⊤ Defect → Result ⊤ Defect
  check_defect (Ok x) d = d
  check_defect (Err x) d = Err (Record i k n (record_fault x))

  module _ (r : Request) where
    -- some faults of the request, as defects of the record and as causes
    abbrev defects_among : List RequestFault → List DefectCause
    defects_among xs = map (λ x. Record i k n (record_fault x) when wrong_in r x) xs

    abbrev causes_among : List RequestFault → List Cause
    causes_among xs = map (λ x. fault_of x if wrong_in r x) xs

    pub first_wrong-defect : (xs : List RequestFault) (ds : List DefectCause) → first_defect (defects_among xs ++ ds)
        ≡ check_defect (first_wrong r xs) (first_defect ds)
    unfolding first_defect first_wrong
    first_wrong-defect [] ds = refl
    first_wrong-defect (x ∷ xs) ds = go (wrong_in r x) (first_wrong-defect xs ds)
      where
        go : (t : Bool) → first_defect (defects_among xs ++ ds) ≡ check_defect (first_wrong r xs) (first_defect ds)
            → cond t (Err (Record i k n (record_fault x))) (first_defect (defects_among xs ++ ds))
            ≡ check_defect (cond t (Err x) (first_wrong r xs)) (first_defect ds)
        go true rest = refl
        go false rest = rest

    clear_none : (xs : List RequestFault) → Clear (defects_among xs) → NoneOf (causes_among xs)
    clear_none [] e = none_end
    clear_none (x ∷ xs) e = let parts = clear_parts _ (defects_among xs) e in none_more parts.0 (clear_none xs parts.1)

    none_clear : (xs : List RequestFault) → NoneOf (causes_among xs) → Clear (defects_among xs)
    none_clear [] h = clear_nil
    none_clear (x ∷ xs) (none_more p rest) = clear_cons _ (defects_among xs) p (none_clear xs rest)

    pub clear_request : (xs : List RequestFault) → Clear (defects_among xs) ↔ NoneOf (causes_among xs)
    clear_request xs = (clear_none xs, none_clear xs)
