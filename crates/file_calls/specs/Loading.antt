-- What load's insertions go by, once the file is accepted and the pool is fresh.
--   Loading w c f n    w is a pool of c cells, f an accepted file, and n the number of its grants
-- The contracts of inner functions cite this; no claim does. Assumes nothing: this is a definition.
use Rattle.std.specs.Prelude.{ℕ, ◌≡◌, List}
use Rattle.pool.specs.Capacity.{Sized}
use Rattle.grants_file.specs.File.{total_in}
use Rattle.grants_file.specs.FileSets.{Accepted}

pub record Loading (w : List ℕ) (c : ℕ) (f : List ℕ) (n : ℕ) : Type 0 where
  pub sized : Sized w c
  pub accepted : Accepted f
  pub counted : n ≡ total_in f
