-- What a change of the words leaves of the tree and of the free chain.
--   SameNode w v k        cell k has the same links and the same grant in both
--   spells_frame          where all cells of a tree are the same, it is spelled the same
--   chain_frame           where the left links of all free cells are the same, so is the chain
-- Assumes nothing.
use Prim.Native.Nat.{ℕ}
use mathlib.Core.Path.{◌≡◌, refl}
use mathlib.Core.Bool.{true}
use mathlib.Core.List.Memᴰ
use mathlib.Core.List.{List, Memᴰ}
use lib.ListN.{get_or}
use Rattle.geometry.specs.declared.Side.{Side}
use Rattle.geometry.specs.declared.Side.TheVariants.{Left, Right}
use Rattle.geometry.specs.Region.{Region}
use Rattle.geometry.specs.Point.{inside}
use Rattle.pool.specs.Cell.{grant_at}
use Rattle.adt.specs.Node.{link_place, point_at}
use Rattle.adt.proofs.Spells.{Tree, cells_of, Spells, spells_blank, spells_node, FreeChain, chain_end, chain_more}

pub record SameNode (w v : List ℕ) (k : ℕ) : Type 0 where
  pub links : (s : Side) → get_or v (link_place k s) 0 ≡ get_or w (link_place k s) 0
  pub grant : grant_at v k ≡ grant_at w k

-- the point of the cell stays in its region
pub inside-same : (w v : List ℕ) (k : ℕ) (g : Region) → grant_at v k ≡ grant_at w k → inside g (point_at w k) ≡ true → inside g (point_at v k) ≡ true
inside-same w v k g e i = rw e i

pub spells_frame : {w v : List ℕ} {c n : ℕ} {g : Region} {k : ℕ} {t : Tree} → ((y : ℕ) → Memᴰ y (cells_of t) → SameNode w v y)
    → Spells w c n g k t → Spells v c n g k t
unfolding cells_of
spells_frame same spells_blank = spells_blank
spells_frame {w} {v} same (spells_node {n = n} {g = g} {k = k} {l = l} {r = r} pos le i x y) =
    let here = same k (Memᴰ.head refl) in
    spells_node {n = n} {g = g} {k = k} {l = l} {r = r} pos le (inside-same w v k g here.grant i)
    (rw (here.links Left) (spells_frame (λ z m. same z (Memᴰ.tail (Memᴰ.append_left (cells_of r) m))) x))
    (rw (here.links Right) (spells_frame (λ z m. same z (Memᴰ.tail (Memᴰ.append_right (cells_of l) m))) y))

pub chain_frame : {w v : List ℕ} {c k : ℕ} {ks : List ℕ} → ((y : ℕ) → Memᴰ y ks → get_or v (link_place y Left) 0 ≡ get_or w (link_place y Left) 0)
    → FreeChain w c k ks → FreeChain v c k ks
chain_frame same chain_end = chain_end
chain_frame same (chain_more {k = k} {ks = ks} pos le x) =
    chain_more {ks = ks} pos le (rw (same k (Memᴰ.head refl)) (chain_frame (λ y m. same y (Memᴰ.tail m)) x))
