-- The comparison of two records keeps what ComparesOpenings promises.
--   compares_openings     the claim
-- Assumes nothing.
use Prim.Native.Nat.{ℕ, ◌+◌, min}
use mathlib.Core.Path.{◌≡◌, refl, sym, ◌∙◌}
use mathlib.Core.Bool.{Bool, true, false, ◌||◌}
use mathlib.Core.List.{List, [], ◌∷◌}
use native.Mathlib.Omega.{arith}
use lib.ListN.{length}
use Rattle.multisets.specs.Multiplicity.{count}
use Rattle.multisets.specs.Agreement.{agree, left, left_places}
use Rattle.multisets.proofs.AgreementLaws.{agree-exchange, agree-left-total}
use Rattle.multisets.proofs.AgreedLaws.{agreed}
use Rattle.multisets.proofs.LeftPlacesLaws.{left_places-count, left_places-length, is_left_later}
use Rattle.model.specs.declared.Fault.{Fault}
use Rattle.model.specs.declared.Fault.TheVariants.{BadOpeningsLength, UnorderedQuarters}
use Rattle.model.specs.Answer.{Answer, accepted, refusal}
use Rattle.openings.specs.Entry.{entries_in, entries_of}
use Rattle.openings.specs.Record.{wrong_size, unordered}
use Rattle.openings.specs.Compare.{comparison, compare_call}
use Rattle.openings.proofs.EntryLaws.{length-entries}
use Rattle.openings.proofs.EntryByteLaws.{entry_at_iff, entry_door_lem, entry_quarter_lem, entry_staff_lem}
use Rattle.openings.proofs.CompareLaws.{compare_wrong_size, compare-unordered, compare-accepted}
use Rattle.openings.proofs.LeftLaws.{left_from_is, left_from-ends}
use Rattle.claims.specs.OpeningsClaims.{Compares, ComparesOpenings}

or_swap : (a b : Bool) → (a || b) ≡ (b || a)
or_swap true true = refl
or_swap true false = refl
or_swap false true = refl
or_swap false false = refl

-- a refusal is not accepted
never : {B : Type 0} (f : Fault) (answer : Answer) (values : List ℕ) → refusal f ≡ answer → answer ≡ accepted values → B
never f answer values e g = let absurdity : ◌≡◌ {A = ℕ} 0 1 = cc in absurd (omega arith)

module _ (door panel : List ℕ) where
  abbrev sizes : Bool
  sizes = wrong_size door || wrong_size panel

  abbrev orders : Bool
  orders = unordered door || unordered panel

  -- an accepted answer is the comparison, and neither cause holds
  record Taken (values : List ℕ) : Type 0 where
    sized : sizes ≡ false
    ordered : orders ≡ false
    counted : values ≡ comparison (entries_of door) (entries_of panel)

  taken : (values : List ℕ) → (compare_call door panel).answer ≡ accepted values → Taken values
  taken values e = go sizes refl orders refl
    where
      go : (w : Bool) → sizes ≡ w → (u : Bool) → orders ≡ u → Taken values
      go true s u o = never BadOpeningsLength _ values (compare_wrong_size door panel s) e
      go false s true o = never UnorderedQuarters _ values (compare-unordered door panel s o) e
      go false s false o =
          let same = compare-accepted door panel s o ∙ e in
          record { sized = s; ordered = o; counted = cc same }

  module _ (a d p : ℕ) (e : Compares door panel a d p) where
    parts : (agree (entries_of door) (entries_of panel) ≡ a) × (left (entries_of door) (entries_of panel) ≡ d) × (left (entries_of panel) (entries_of door) ≡ p)
    parts = let same = (taken (a ∷ d ∷ p ∷ []) e).counted in (cc same, cc same, cc same)

    whole : (a + d ≡ entries_in door) × (a + p ≡ entries_in panel)
    whole = (
      omega (arith, parts, agree-left-total (entries_of door) (entries_of panel), length-entries door),
      omega (
        arith,
        parts,
        agree-exchange (entries_of door) (entries_of panel),
        agree-left-total (entries_of panel) (entries_of door),
        length-entries panel,
      ),
    )

    exchange : Compares panel door a p d
    exchange =
        let t = taken (a ∷ d ∷ p ∷ []) e in
        sym (compare-accepted panel door (or_swap (wrong_size panel) (wrong_size door) ∙ t.sized) (or_swap (unordered panel) (unordered door) ∙ t.ordered))
        ∙ rw (agree-exchange (entries_of panel) (entries_of door), parts.0, parts.1, parts.2)

    agrees : (es : List ℕ) × ((x : ℕ) → count x es ≡ min (count x (entries_of door)) (count x (entries_of panel))) × (length es ≡ a)
    agrees = let found = agreed (entries_of door) (entries_of panel) in (found.0, found.1.times, found.1.size ∙ parts.0)

    left-size : length (left_places (entries_of door) (entries_of panel)) ≡ d
    left-size = left_places-length (entries_of door) (entries_of panel) ∙ parts.1

  exchange-refused : (f : Fault) → (compare_call door panel).answer ≡ refusal f → (compare_call panel door).answer ≡ refusal f
  exchange-refused f e = go sizes refl orders refl
    where
      go : (w : Bool) → sizes ≡ w → (u : Bool) → orders ≡ u → (compare_call panel door).answer ≡ refusal f
      go true s u o =
          sym (compare_wrong_size panel door (or_swap (wrong_size panel) (wrong_size door) ∙ s)) ∙ compare_wrong_size door panel s ∙ e
      go false s true o =
          sym (compare-unordered panel door (or_swap (wrong_size panel) (wrong_size door) ∙ s) (or_swap (unordered panel) (unordered door) ∙ o))
          ∙ compare-unordered door panel s o
          ∙ e
      go false s false o = never f _ _ (sym e) (sym (compare-accepted door panel s o))

pub compares_openings : ComparesOpenings
compares_openings =
    record {
      three = λ door panel values e. (_, _, _, (taken door panel values e).counted);
      whole = whole;
      exchange = exchange;
      exchange-refused = exchange-refused;
      agrees = agrees;
      same = entry_at_iff;
      values = λ r i b h. (entry_door_lem r i b h, entry_quarter_lem r i b h, entry_staff_lem r i b h);
      left-size = left-size;
      left_times = λ r s e. left_places-count (entries_of r) (entries_of s) e;
      left-last = λ r s. is_left_later (entries_of r) (entries_of s);
      next = left_from_is;
      ends = left_from-ends;
    }
