-- What is answered of a cell on the way up, step by step and test by test.
--   ancestor_far                           the way ends at the root before
--   ancestor_here, ancestor_parent         no step is left; else it goes on from the parent
--   walk_cell, walk_parent                 a cell on the way is one of the pool, and so is its parent
--   path-refused                           a number that isn't live
--   path-starts, path_done                 the way up may start at the number's first hit, and is then the answer
-- Assumes nothing.
use Prim.Native.Nat.{ℕ, zero, suc, ◌+◌, ◌-◌, ◌<◌, ◌≤◌}
use mathlib.Core.Path.{◌≡◌, refl, sym, ap, subst, ◌∙◌}
use mathlib.Core.List.{List, [], ◌∷◌}
use Rattle.std.proofs.Common.{Option, None, Some, Ok, Err}
use native.Mathlib.Omega.{arith}
use lib.ListN.{length}
use Rattle.model.specs.declared.Fault.{Fault}
use Rattle.geometry.specs.declared.Side.{Side}
use Rattle.pool.specs.Capacity.{Sized, InPool, capacity_of}
use Rattle.pool.specs.Cell.{grant_at}
use Rattle.pool.proofs.CapacityLaws.{capacity_of-pool_length, cell_in_pool}
use Rattle.adt.specs.Node.{parent_at}
use Rattle.adt.specs.Reach.{node_at, cell_before, ParentsAlong, PathTo}
use Rattle.adt.proofs.SearchPaths.{along_end}
use Rattle.index.specs.declared.find.LiveHit.{LiveHit}
use Rattle.index.specs.NumberSearch.{LiveFound}
use Rattle.grant_path.specs.declared.ancestors.Ancestor.{Ancestor}
use Rattle.grant_path.specs.GrantPath.{ancestor_from, ancestor_at, ParentWalk}

-- past the root there is none
pub ancestor_far : (w : List ℕ) (k l i : ℕ) → l < i → None ≡ ancestor_from w k l i
unfolding ancestor_from
ancestor_far w k l zero far = absurd (omega arith)
ancestor_far w k zero (suc i) far = refl
ancestor_far w k (suc l) (suc i) far = ancestor_far w (parent_at w k) l i (omega arith)

module _ (w : List ℕ) (k : ℕ) where
  pub ancestor_here : (l i : ℕ) → i ≤ 0 → Some (record { cell = k; level = l; grant = grant_at w k }) ≡ ancestor_from w k l i
  unfolding ancestor_from
  ancestor_here l i done = let z : i ≡ 0 = omega arith in rw z

  -- a step of the way: i of them were made
  pub ancestor_parent : {p : ℕ} → p ≡ parent_at w k → (l n i : ℕ) → n ≤ l → i < n
      → ancestor_from w p (l - (i + 1)) (n - (i + 1)) ≡ ancestor_from w k (l - i) (n - i)
  unfolding ancestor_from
  ancestor_parent named l n i few lt =
      let level : l - i ≡ suc (l - (i + 1)) = omega arith in
      let left : n - i ≡ suc (n - (i + 1)) = omega arith in
      rw (level, left, named)

module _ {w : List ℕ} {k l : ℕ} (walk : ParentWalk w k l) where
  pub walk_cell : InPool w k
  walk_cell =
      let to = walk.path in
      let end = along_end w (capacity_of w) to.path to.parents in
      cell_in_pool walk.sized (omega (arith, end.some, to.ends)) (omega (arith, end.few, to.ends))

  pub walk_parent : {m : ℕ} → l ≡ m + 1 → {p : ℕ} → p ≡ parent_at w k → ParentWalk w p m
  unfolding ParentsAlong cell_before
  walk_parent {m} above {p} named =
      let to = walk.path in
      record { sized = walk.sized; path = go to.path to.ends to.steps to.parents; deep = omega (arith, walk.deep) }
    where
      go : (q : List Side) → node_at w q ≡ k → length q ≡ l → ParentsAlong w (capacity_of w) q → PathTo w (capacity_of w) p m
      go [] ends steps along = absurd (omega arith)
      go (s ∷ q) ends steps along =
          record {
            path = q;
            ends = sym (named ∙ ap (parent_at w) (sym ends) ∙ along.0.named);
            steps = omega (arith, steps);
            parents = along.1;
          }

-- the number's line of faults, and the way up from its first hit
module _ (w : List ℕ) (n i : ℕ) where
  pub path-refused : (f : Fault) → LiveFound w n (Err f) → Err f ≡ ancestor_at w n i
  unfolding ancestor_at LiveFound
  path-refused f e = rw e

  module _ (live : LiveHit) (f : LiveFound w n (Ok live)) where
    pub path-starts : ParentWalk w live.cell live.level
    unfolding LiveFound
    path-starts =
        record {
          sized = subst (Sized w) (sym (capacity_of-pool_length w live.cells f.sized.long)) f.sized;
          path = f.first.path;
          deep = f.first.deep;
        }

    pub path_done : {a : Option Ancestor} → a ≡ ancestor_from w live.cell live.level i → Ok a ≡ ancestor_at w n i
    unfolding ancestor_at LiveFound
    path_done e = ap (λ (a : Option Ancestor). Ok a) e ∙ rw (f.passes, f.first.found)
