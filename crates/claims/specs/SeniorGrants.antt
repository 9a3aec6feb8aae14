-- Wide grants need seniority (document 02, card 3), as a claim. It says the rule by a grant's two door ends; the test that the calls make counts
-- the doors (model/specs/Seniority), and a law joins them.
--   Senior rank b       rank 200 or above, or the door ends of the box b less than 1,000 apart
--   OtherwiseRight r    the request r has none of the faults that are tested before 16
--   SeniorGrants        no index that calls made has a live grant that isn't senior, no file that write makes of one and none that is accepted
--                       holds such a grant, and the plain book refuses just these with 16
-- Assumes nothing: these are definitions.
use Rattle.std.specs.Prelude.{ℕ, ◌+◌, ◌≤◌, ◌<◌, ◌↔◌, ◌⊎◌, ◌≡◌, false}
use mathlib.Core.List.{List, Memᴰ}
use Rattle.model.specs.declared.Box.{Box}
use Rattle.model.specs.declared.Grant.{Grant}
use Rattle.model.specs.declared.Fault.TheVariants.{RankTooLow}
use Rattle.model.specs.Interval.{Interval}
use Rattle.model.specs.Answer.{refusal}
use Rattle.model.specs.Seniority.{max_junior_doors, senior_rank}
use Rattle.model.specs.Arguments.{reversed_box}
use Rattle.model.specs.Call.{Request}
use Rattle.model.specs.Values.{byte_values, Below}
use Rattle.model.specs.Book.{Book, book_grant}
use Rattle.grants_file.specs.File.{grants_in}
use Rattle.grants_file.specs.FileSets.{Accepted, DoorRange}
use Rattle.claims.specs.Made.{Made}
use Rattle.claims.specs.KeepsGrants.{Writes}

abbrev pub Senior : ℕ → Box → Type 0
Senior rank b = (senior_rank ≤ rank) ⊎ (b.door_to < b.door_from + max_junior_doors)

-- neither number 0 nor a kind above 1 nor a box that fault 2 refuses
pub record OtherwiseRight (r : Request) : Type 0 where
  pub number : 1 ≤ r.number
  pub kind : r.kind ≤ 1
  pub order : reversed_box r.bounds ≡ false

pub record SeniorGrants : Type 0 where
  pub live : (c : ℕ) (w : List ℕ) (gs : List Grant) → Made c w gs → (g : Grant) → Memᴰ g gs → Senior g.rank g.bounds
  pub written : (c : ℕ) (w : List ℕ) (gs : List Grant) → Made c w gs → (doors : Interval) (f : List ℕ) → DoorRange doors → Writes w doors f
      → (g : Grant) → Memᴰ g (grants_in f) → Senior g.rank g.bounds
  pub accepted : (f : List ℕ) → Below byte_values f → Accepted f → (g : Grant) → Memᴰ g (grants_in f) → Senior g.rank g.bounds
  pub refused : (b : Book) (r : Request)
      → ((book_grant b r).answer ≡ refusal RankTooLow) ↔ (OtherwiseRight r × (Senior r.rank r.bounds → ⊥))
