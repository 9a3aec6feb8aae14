-- Lent memory after a write at its start. Assumes nothing: these are definitions.
use Rattle.std.specs.Prelude.{List, ◌++◌, length, drop}

-- xs from the start on; what lies past them stays (document 01: "Elements past that many stay", "bytes beyond it stay")
unfoldable pub overwrite {ℓ} : {A : Type ℓ} → List A → List A → List A
overwrite xs memory = xs ++ drop (length xs) memory
