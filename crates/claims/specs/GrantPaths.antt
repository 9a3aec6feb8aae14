-- What a support engineer is shown of a grant's way up to the root (document 02, card 6): it is found by the parents that the cells name, and is
-- the way down by the links, read upward.
--   cell_shown k l g      the answer that is the cell k, at level l, with the grant g
--   ShowsWay w n          of the number n: the cells of one path from the root (adt/specs/Reach), which ends at the number's first hit, its last cell
--                         first, each with its level and the grant in it; after the root's cell, at level 0, the end
--   WayClaim              so it is on any words, a scrambled pool's too, where the line of a live number (calls/specs/Calls) refuses nothing; else its
--                         first fault is the answer
--   ShowsCell w gs p a    the answer a is the cell at the end of the path p, its level, which is the length of the path, and the one of the grants
--                         gs that this cell carries
--   ShowsPath w gs g      of the grant g: first its own cell, then the path's cells without its last step, its last two, and so on; after the
--                         root's cell, at level 0, the end
--   ShowsPaths w gs       so it is of each of the grants; another number is refused with 7, the number 0 with 3
--   PathClaim             and on every pool that start, or load of an accepted file, and any calls after it made
-- The cell after i others is `ancestor_at w n i` of grant_path/specs/GrantPath. Assumes nothing: these are definitions.
use Rattle.std.specs.Prelude.{ℕ, ◌≤◌, ◌<◌, ◌≢◌, ◌≡◌, length, drop, Option, None, Some, Result, Ok, Err}
use mathlib.Core.List.{List, Memᴰ}
use Rattle.model.specs.declared.Grant.{Grant}
use Rattle.model.specs.declared.Fault.{Fault}
use Rattle.model.specs.declared.Fault.TheVariants.{ZeroNumber, NotLive}
use Rattle.model.specs.Refusal.{first_fault}
use Rattle.geometry.specs.declared.Side.{Side}
use Rattle.pool.specs.Cell.{grant_at}
use Rattle.adt.specs.Reach.{node_at, CarriedAt}
use Rattle.calls.specs.Walks.{number_search, first_hit}
use Rattle.calls.specs.Calls.{live_line}
use Rattle.grant_path.specs.declared.ancestors.Ancestor.{Ancestor}
use Rattle.grant_path.specs.GrantPath.{ancestor_at}
use Rattle.claims.specs.Made.{Made}

abbrev pub cell_shown : ℕ → ℕ → Grant → Result (Option Ancestor) Fault
cell_shown cell level grant = Ok (Some (record { cell = cell; level = level; grant = grant }))

-- a path has its last step first, so that `drop i path` is the path without its last i steps
pub record ShowsWay (w : List ℕ) (n : ℕ) : Type 0 where
  pub path : List Side
  pub ends : node_at w path ≡ first_hit (number_search w n)
  pub cells : (i : ℕ) → i ≤ length path
      → let p = drop i path in
      ancestor_at w n i ≡ cell_shown (node_at w p) (length p) (grant_at w (node_at w p))
  pub end : (i : ℕ) → length path < i → ancestor_at w n i ≡ Ok None

pub record WayClaim : Type 0 where
  pub refuses : (w : List ℕ) (n i : ℕ) (f : Fault) → first_fault (live_line w n) ≡ Some f → ancestor_at w n i ≡ Err f
  pub shows : (w : List ℕ) (n : ℕ) → first_fault (live_line w n) ≡ None → ShowsWay w n

pub record ShowsCell (w : List ℕ) (gs : List Grant) (p : List Side) (a : Result (Option Ancestor) Fault) : Type 0 where
  pub grant : Grant
  pub live : Memᴰ grant gs
  pub carried : CarriedAt w grant p
  pub shown : a ≡ cell_shown (node_at w p) (length p) grant

pub record ShowsPath (w : List ℕ) (gs : List Grant) (g : Grant) : Type 0 where
  pub path : List Side
  pub carried : CarriedAt w g path
  pub cells : (i : ℕ) → i ≤ length path → ShowsCell w gs (drop i path) (ancestor_at w g.number i)
  pub end : (i : ℕ) → length path < i → ancestor_at w g.number i ≡ Ok None

pub record ShowsPaths (w : List ℕ) (gs : List Grant) : Type 0 where
  pub live : (g : Grant) → Memᴰ g gs → ShowsPath w gs g
  pub not_live : (n i : ℕ) → n ≢ 0 → ((g : Grant) → Memᴰ g gs → g.number ≢ n) → ancestor_at w n i ≡ Err NotLive
  pub no_number : (i : ℕ) → ancestor_at w 0 i ≡ Err ZeroNumber

unfoldable pub PathClaim : Type 0
PathClaim = (c : ℕ) (w : List ℕ) (gs : List Grant) → Made c w gs → ShowsPaths w gs
