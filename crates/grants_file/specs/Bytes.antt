-- Numbers of 16 bits as bytes (document 01, "The grants file": high byte first). Assumes nothing: these are definitions.
use Rattle.std.specs.Prelude.{ℕ, ◌+◌, ◌*◌, ◌/◌, ◌%◌, List, [], ◌∷◌, get_or, take, drop}

abbrev pub be16 : ℕ → List ℕ
be16 n = n / 256 ∷ n % 256 ∷ []

abbrev pub be16_at : List ℕ → ℕ → ℕ
be16_at bytes at = get_or bytes at 0 * 256 + get_or bytes (at + 1) 0

-- n bytes from a place on
abbrev pub bytes_at : List ℕ → ℕ → ℕ → List ℕ
bytes_at bytes at n = take n (drop at bytes)
