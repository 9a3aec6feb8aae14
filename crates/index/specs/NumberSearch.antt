-- What the search for a number tells grant and revoke. Their contracts' inner steps cite it; no claim does.
--   FirstAt w n hit      the search hits this cell first, at this spot
--   Unhit w n            it hits nothing
--   NumberFound w n r    r says of the number's search that it is broken, or one of these
--   hit_of live          a live grant's hit, as a hit of its number's search
--   LiveFound w n r      r refuses the number by the line of a live one (calls/specs/Calls `live_line`), or says its first hit and the pool's cells
-- Assumes nothing: these are definitions.
use Rattle.std.specs.Prelude.{ℕ, ◌<◌, ◌≤◌, ◌≡◌, false, List, [], ◌∷◌, length, Option, None, Some, Result, Ok, Err}
use Rattle.model.specs.declared.Fault.{Fault}
use Rattle.model.specs.Refusal.{first_fault}
use Rattle.geometry.specs.Levels.{levels}
use Rattle.pool.specs.Capacity.{Sized, capacity_of}
use Rattle.adt.specs.declared.Broken.{Broken}
use Rattle.adt.specs.Search.{broken, going}
use Rattle.adt.specs.Reach.{PathTo}
use Rattle.index.specs.declared.find.NumberHit.{NumberHit}
use Rattle.index.specs.declared.find.LiveHit.{LiveHit}
use Rattle.calls.specs.Walks.{number_search, hits_of, is_broken}
use Rattle.calls.specs.Calls.{live_line}

pub record FirstAt (w : List ℕ) (n : ℕ) (hit : NumberHit) : Type 0 where
  pub met : ℕ
  pub others : List ℕ
  pub found : number_search w n ≡ going met (hit.cell ∷ others) (record { level = hit.level; link = hit.link })
  pub some : 0 < hit.cell
  pub few : hit.cell ≤ capacity_of w
  pub deep : hit.level ≤ levels
  pub place : hit.link < length w
  pub path : PathTo w (capacity_of w) hit.cell hit.level

pub record Unhit (w : List ℕ) (n : ℕ) : Type 0 where
  pub unbroken : is_broken (number_search w n) ≡ false
  pub none : hits_of (number_search w n) ≡ []

unfoldable pub NumberFound : List ℕ → ℕ → Result (Option NumberHit) Broken → Type 0
NumberFound w n (Err broken-off) = number_search w n ≡ broken
NumberFound w n (Ok None) = Unhit w n
NumberFound w n (Ok (Some hit)) = FirstAt w n hit

-- the hit of the number's search that a live one is
abbrev pub hit_of : LiveHit → NumberHit
hit_of live = record { cell = live.cell; level = live.level; link = live.link }

pub record LiveAt (w : List ℕ) (n : ℕ) (live : LiveHit) : Type 0 where
  pub sized : Sized w live.cells
  pub passes : first_fault (live_line w n) ≡ None
  pub first : FirstAt w n (hit_of live)

unfoldable pub LiveFound : List ℕ → ℕ → Result LiveHit Fault → Type 0
LiveFound w n (Err f) = first_fault (live_line w n) ≡ Some f
LiveFound w n (Ok live) = LiveAt w n live
