-- The sets that files stand for (document 01, "The grants file"), and what is said of sets of grants.
--   Accepted f            no cause of a refusal holds in the bytes f
--   DoorRange d           from at most to, both of 16 bits
--   FileSet d gs          gs, ascending by number, none twice, are at most 2,048 grants that touch the doors d, each with no fault of a grant's arguments
--   Ordering gs hs        hs are the grants gs in some order
--   SameGrants gs hs      every grant is in gs exactly if it is in hs
--   InOneAlone g gs hs    the grant g is in exactly one of the two
--   DiffersAt n gs hs     the number n is in one set alone, or in both with unequal grants
--   LeastDifference n     the lowest such number
-- Assumes nothing: these are definitions.
use Rattle.std.specs.Prelude.{ℕ, ◌≤◌, ◌<◌, ◌↔◌, ◌⊎◌, ◌≡◌, true, length}
use mathlib.Core.List.{List, [], ◌∷◌, Memᴰ}
use Rattle.lists.specs.Sort.{sort_by}
use Rattle.model.specs.declared.Grant.{Grant}
use Rattle.model.specs.Limits.{max_grants}
use Rattle.model.specs.declared.Interval.{Interval}
use Rattle.model.specs.Grant.{touches}
use Rattle.model.specs.Judged.{NoneOf}
use Rattle.model.specs.Call.{request_of}
use Rattle.model.specs.Arguments.{request_causes}
use Rattle.grants_file.specs.Verdict.{file_causes}
use Rattle.model.specs.Values.{word_values, GrantFits}

abbrev pub Accepted : List ℕ → Type 0
Accepted f = NoneOf (file_causes f)

pub record DoorRange (d : Interval) : Type 0 where
  pub order : d.from ≤ d.to
  pub fits : d.to < word_values

-- every number is above the ones before it, the first above `last`
pub data Ascending : ℕ → List Grant → Type 0 where
  ascending-none : {last : ℕ} → Ascending last []
  ascending_more : {last : ℕ} {g : Grant} {gs : List Grant} → last < g.number → Ascending g.number gs → Ascending last (g ∷ gs)

pub record FileGrant (d : Interval) (g : Grant) : Type 0 where
  pub fits : GrantFits g
  pub faultless : NoneOf (request_causes (request_of g))
  pub touching : touches d g ≡ true

pub record FileSet (d : Interval) (gs : List Grant) : Type 0 where
  pub doors : DoorRange d
  pub few : length gs ≤ max_grants
  pub ascending : Ascending 0 gs
  pub each : (g : Grant) → Memᴰ g gs → FileGrant d g

abbrev pub Ordering : List Grant → List Grant → Type 0
Ordering gs hs = sort_by (λ g. g.number) hs ≡ gs

abbrev pub SameGrants : List Grant → List Grant → Type 0
SameGrants gs hs = (g : Grant) → Memᴰ g gs ↔ Memᴰ g hs

abbrev pub InOneAlone : Grant → List Grant → List Grant → Type 0
InOneAlone g gs hs = (Memᴰ g gs × (Memᴰ g hs → ⊥)) ⊎ (Memᴰ g hs × (Memᴰ g gs → ⊥))

-- a grant of that number is in exactly one of the two
pub record DiffersAt (n : ℕ) (gs hs : List Grant) : Type 0 where
  pub grant : Grant
  pub number : grant.number ≡ n
  pub alone : (Memᴰ grant gs × (Memᴰ grant hs → ⊥)) ⊎ (Memᴰ grant hs × (Memᴰ grant gs → ⊥))

pub record LeastDifference (n : ℕ) (gs hs : List Grant) : Type 0 where
  pub differs : DiffersAt n gs hs
  pub least : (m : ℕ) → m < n → DiffersAt m gs hs → ⊥
