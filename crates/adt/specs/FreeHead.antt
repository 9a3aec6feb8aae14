-- Grants take the free head; a revoked cell becomes it (document 01, "The tree"), said of the words w before and v after.
--   TakesFreeHead w v g      v has the grant g in the cell that was the free head of w; its free cells are the others of w
--   BecomesFreeHead w v k    the cell k is the free head of v, before the free cells of w
-- In both the free cells that stay keep their order. Assumes nothing: these are definitions.
use Rattle.std.specs.Prelude.{ℕ, suc, ◌≡◌, List}
use Rattle.model.specs.declared.Grant.{Grant}
use Rattle.geometry.specs.declared.Side.{Side}
use Rattle.adt.specs.Insert.{free_head}
use Rattle.adt.specs.Reach.{node_at, free_at, CarriedAt}

pub record TakesFreeHead (w v : List ℕ) (g : Grant) : Type 0 where
  pub path : List Side
  pub carried : CarriedAt v g path
  pub cell : node_at v path ≡ free_head w
  pub rest : (n : ℕ) → free_at v n ≡ free_at w (suc n)

pub record BecomesFreeHead (w v : List ℕ) (k : ℕ) : Type 0 where
  pub head : free_head v ≡ k
  pub rest : (n : ℕ) → free_at v (suc n) ≡ free_at w n
