-- Laws of specs/Bytes, and of lists of bytes.
--   below_nil, below_cons, below-append, below_flat_map   lists whose elements are below a bound
--   get_d_below, bytes_at_below   an element is below the bound, also past the end; so are those of a part
--   be16-below                  the two bytes of a number of 16 bits
--   be16-be16_at                 the bytes of the number that two bytes spell
--   be16_at-below                which has 16 bits
--   be16_at-part                 a number inside a part
-- Assumes nothing.
use Prim.Native.Nat.{ℕ, zero, suc, ◌+◌, ◌<◌}
use mathlib.Core.Logic.{◌⊎◌, inl, inr}
use mathlib.Core.Path.{◌≡◌, refl, ap₂}
use mathlib.Core.List.Memᴰ
use mathlib.Core.List.{List, [], ◌∷◌, ◌++◌, flat_map, Memᴰ}
use native.Mathlib.Nat.{add_assoc}
use native.Mathlib.Omega.{arith}
use lib.ListN.{get_or, drop}
use lib.Seq.{get_or-take, get_or-drop}
use Rattle.lists.proofs.ListLaws.{take_mem, drop_mem, mem_flat_map}
use Rattle.model.specs.Values.{word_values, byte_values, Below}
use Rattle.grants_file.specs.Bytes.{be16, be16_at, bytes_at}

pub below_nil : (n : ℕ) → Below n []
below_nil n x m = absurd (Memᴰ.not-nil m)

pub below_cons : (n x : ℕ) (xs : List ℕ) → x < n → Below n xs → Below n (x ∷ xs)
below_cons n x xs h below y (Memᴰ.head q) = omega arith
below_cons n x xs h below y (Memᴰ.tail m) = below y m

pub below-append : (n : ℕ) (xs ys : List ℕ) → Below n xs → Below n ys → Below n (xs ++ ys)
below-append n xs ys left right x m = go (Memᴰ.append_cases xs m)
  where
    go : Memᴰ x xs ⊎ Memᴰ x ys → x < n
    go (inl i) = left x i
    go (inr i) = right x i

pub below_flat_map : {A : Type 0} (n : ℕ) (f : A → List ℕ) (xs : List A) → ((x : A) → Memᴰ x xs → Below n (f x)) → Below n (flat_map f xs)
below_flat_map n f xs h y m = let part = mem_flat_map f xs y m in h part.0 part.1 y part.2

pub get_d_below : (n : ℕ) (xs : List ℕ) (i : ℕ) → 0 < n → Below n xs → get_or xs i 0 < n
get_d_below n [] i h below = h
get_d_below n (x ∷ xs) zero h below = below x (Memᴰ.head refl)
get_d_below n (x ∷ xs) (suc i) h below = get_d_below n xs i h (λ y m. below y (Memᴰ.tail m))

pub bytes_at_below : (n : ℕ) (f : List ℕ) (at k : ℕ) → Below n f → Below n (bytes_at f at k)
bytes_at_below n f at k below x m = below x (drop_mem at f x (take_mem k (drop at f) x m))

pub be16-below : (n : ℕ) → n < word_values → Below byte_values (be16 n)
be16-below n h = below_cons byte_values _ _ (omega arith) (below_cons byte_values _ _ (omega arith) (below_nil byte_values))

-- two bytes, the high one first, are those of the number that they spell
pub be16-be16_at : (f : List ℕ) (at : ℕ) → Below byte_values f → be16 (be16_at f at) ≡ get_or f at 0 ∷ get_or f (at + 1) 0 ∷ []
be16-be16_at f at below =
    let low = get_d_below byte_values f (at + 1) (omega arith) below in
    ap₂ (λ (a b : ℕ). a ∷ b ∷ []) (omega arith) (omega arith)

pub be16_at-below : (f : List ℕ) (at : ℕ) → Below byte_values f → be16_at f at < word_values
be16_at-below f at below =
    let high = get_d_below byte_values f at (omega arith) below in
    let low = get_d_below byte_values f (at + 1) (omega arith) below in
    omega arith

pub be16_at-part : (f : List ℕ) (at n i : ℕ) → i + 1 < n → be16_at (bytes_at f at n) i ≡ be16_at f (at + i)
be16_at-part f at n i h =
    rw (get_or-take n (drop at f) i 0 (omega arith), get_or-take n (drop at f) (i + 1) 0 h, get_or-drop at f i 0, get_or-drop at f (i + 1) 0, add_assoc)
