-- Document 01's "check" ("The grants file"): the byte 1 followed by the bytes, read as one base-256 number, modulo 65521.
-- Of byte strings of any length. How it is computed is another matter (PowerTable).
-- Assumes nothing: these are definitions.
use Rattle.std.specs.Prelude.{ℕ, ◌+◌, ◌*◌, ◌%◌, List, [], ◌∷◌}

abbrev pub modulus : ℕ
modulus = 65521

-- the digits v, then the bytes, as one base-256 number
unfoldable pub base256 : ℕ → List ℕ → ℕ
base256 v [] = v
base256 v (b ∷ bs) = base256 (v * 256 + b) bs

unfoldable pub checksum : List ℕ → ℕ
checksum bytes = base256 0 (1 ∷ bytes) % modulus
