-- What the links of a pool reach (document 01, "The tree"), said of its words, by paths.
--   node_at w p        the cell at the end of a path of left and right from the root word, its last step first; 0 where it ends blank
--   free_at w n        the cell n steps of left from the free head
--   Path, end_of w p   either kind of path, and where it ends
--   Once w k          exactly one path ends at the cell k
--   region_of p        the region of the cell at a path: the root's, halved link by link on the way. The cell is behind as many
--                     cells as the path has steps.
--   cell_before w p    the cell that the path p passes last before its end, 0 at the root
--   NamesBefore w c p   the path p ends at one of the c cells, which names the cell before it as its parent
--   ParentsAlong w c p  so does each path that p passes on its way, and p
--   PathTo w c k l    such a path, of l steps, that ends at the cell k
--   Carries w k g     the words of the cell k are those of the grant g; IsFree w k next: those of a free cell that leads to next
--   Holds w c gs      the links reach each of the c cells once, and the cells reached from the root carry the grants gs,
--                     one each, each with its point in the region there, none behind more than 112 others, each naming as its parent the cell
--                     before it, the root none (document 02, card 6); those reached from the free head are free cells, each leading to the next
-- Assumes nothing: these are definitions.
use Rattle.std.specs.Prelude.{ℕ, zero, suc, ◌≤◌, ◌<◌, ◌≡◌, cond, T, eqb, length, get_or}
use mathlib.Core.List.{List, [], ◌∷◌, Memᴰ}
use Rattle.model.specs.declared.Grant.{Grant}
use Rattle.geometry.specs.declared.Side.{Side}
use Rattle.geometry.specs.declared.Side.TheVariants.{Left}
use Rattle.geometry.specs.Axis.{axis_of}
use Rattle.geometry.specs.Levels.{levels}
use Rattle.geometry.specs.Region.{Region, root_region, half}
use Rattle.geometry.specs.Point.{inside, point_of}
use Rattle.pool.specs.declared.Field.TheVariants as field
use Rattle.pool.specs.Layout.{root_place, free_place, place}
use Rattle.pool.specs.Cell.{words_at, grant_words}
use Rattle.pool.specs.Fresh.{free_cell}
use Rattle.adt.specs.Node.{link_place, parent_at}
use Rattle.std.proofs.Math.Seq.{slice}

-- the link of a cell to its child on a side; a blank link leads no further
abbrev pub child_of : List ℕ → ℕ → Side → ℕ
child_of w k s = cond (eqb k 0) 0 (get_or w (link_place k s) 0)

unfoldable pub node_at : List ℕ → List Side → ℕ
node_at w [] = get_or w root_place 0
node_at w (s ∷ p) = child_of w (node_at w p) s

unfoldable pub cell_before : List ℕ → List Side → ℕ
cell_before w [] = 0
cell_before w (s ∷ p) = node_at w p

pub record NamesBefore (w : List ℕ) (c : ℕ) (p : List Side) : Type 0 where
  pub some : 0 < node_at w p
  pub few : node_at w p ≤ c
  pub named : parent_at w (node_at w p) ≡ cell_before w p

unfoldable pub ParentsAlong : List ℕ → ℕ → List Side → Type 0
ParentsAlong w c [] = NamesBefore w c []
ParentsAlong w c (s ∷ p) = NamesBefore w c (s ∷ p) × ParentsAlong w c p

pub record PathTo (w : List ℕ) (c k l : ℕ) : Type 0 where
  pub path : List Side
  pub ends : node_at w path ≡ k
  pub steps : length path ≡ l
  pub parents : ParentsAlong w c path

unfoldable pub free_at : List ℕ → ℕ → ℕ
free_at w zero = get_or w free_place 0
free_at w (suc n) = child_of w (free_at w n) Left

pub data Path : Type 0 where
  from_root : List Side → Path
  from_free : ℕ → Path

abbrev pub end_of : List ℕ → Path → ℕ
end_of w (from_root p) = node_at w p
end_of w (from_free n) = free_at w n

pub record Once (w : List ℕ) (k : ℕ) : Type 0 where
  pub path : Path
  pub ends : end_of w path ≡ k
  pub only : (p : Path) → end_of w p ≡ k → p ≡ path

unfoldable pub region_of : List Side → Region
region_of [] = root_region
region_of (s ∷ p) = half s (region_of p) (axis_of (length p))

-- what stands in the cell k's fields of a grant are the words of the grant g
abbrev pub Carries : List ℕ → ℕ → Grant → Type 0
Carries w k g = words_at w k ≡ grant_words g

-- the words of the cell k, all of them, are those of a free cell: next in left, zeros elsewhere
abbrev pub IsFree : List ℕ → ℕ → ℕ → Type 0
IsFree w k next = slice (place k field.Left) (place (suc k) field.Left) w ≡ free_cell next

-- the cell at the path p, reached from the root, carries g
pub record CarriedAt (w : List ℕ) (g : Grant) (p : List Side) : Type 0 where
  pub reached : 0 < node_at w p
  pub carries : Carries w (node_at w p) g

pub record Holds (w : List ℕ) (c : ℕ) (gs : List Grant) : Type 0 where
  pub within : (p : Path) → end_of w p ≤ c
  pub once : (k : ℕ) → 1 ≤ k → k ≤ c → Once w k
  pub live : (p : List Side) → 0 < node_at w p → (g : Grant) × Memᴰ g gs × CarriedAt w g p
  pub each : (g : Grant) → Memᴰ g gs → (p : List Side) × CarriedAt w g p × ((q : List Side) → CarriedAt w g q → q ≡ p)
  pub placed : (g : Grant) (p : List Side) → CarriedAt w g p → T (inside (region_of p) (point_of g))
  pub shallow : (p : List Side) → 0 < node_at w p → length p ≤ levels
  pub parents : (p : List Side) → 0 < node_at w p → parent_at w (node_at w p) ≡ cell_before w p
  pub free : (n : ℕ) → 0 < free_at w n → IsFree w (free_at w n) (free_at w (suc n))
