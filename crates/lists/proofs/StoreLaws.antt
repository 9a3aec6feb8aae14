-- A run of stores, one more at a time.
--   sets_take_suc         the store at j after those before it
--   get_d_sets_same, get_d_sets_other   reads after it, of the places stored and of others
-- Assumes nothing.
use Prim.Native.Nat.{ℕ, zero, suc, ◌+◌, ◌<◌, ◌≤◌}
use mathlib.Core.Path.{◌≡◌, refl, ap, ◌∙◌}
use mathlib.Core.Logic.{◌≢◌}
use mathlib.Core.List.{List, [], ◌∷◌}
use native.Mathlib.Nat.{add-zero, add-suc, suc-add}
use native.Mathlib.Omega.{arith}
use lib.ListN.{length, get_or, take, set, length-set}
use lib.Seq.{sets, get_or-set_same, get_or-set_other}

pub sets_take_suc : (l : List ℕ) (i : ℕ) (ws : List ℕ) (j : ℕ) → j < length ws
    → sets l i (take (suc j) ws) ≡ set (sets l i (take j ws)) (i + j) (get_or ws j 0)
sets_take_suc l i [] j h = absurd (omega arith)
sets_take_suc l i (x ∷ ws) zero h = rw (add-zero i)
sets_take_suc l i (x ∷ ws) (suc j) h =
    sets_take_suc (set l i x) (suc i) ws j (omega arith) ∙ rw (add-suc i j, suc-add i j)

-- reads after a run of stores
pub get_d_sets_other : (l : List ℕ) (i : ℕ) (vs : List ℕ) (j d : ℕ) → ((m : ℕ) → m < length vs → j ≢ i + m) → get_or (sets l i vs) j d ≡ get_or l j d
get_d_sets_other l i [] j d h = refl
get_d_sets_other l i (a ∷ vs) j d h =
    get_d_sets_other (set l i a) (suc i) vs j d (λ m lt. omega (arith, h (suc m) (omega arith)))
    ∙ get_or-set_other l i j a d (omega (arith, h 0 (omega arith)))

pub get_d_sets_same : (l : List ℕ) (i : ℕ) (vs : List ℕ) (m d : ℕ) → i + length vs ≤ length l → m < length vs → get_or (sets l i vs) (i + m) d ≡ get_or vs m d
get_d_sets_same l i [] m d h lt = absurd (omega arith)
get_d_sets_same l i (a ∷ vs) zero d h lt =
    get_d_sets_other (set l i a) (suc i) vs (i + 0) d (λ m k. omega arith)
    ∙ ap (λ (j : ℕ). get_or (set l i a) j d) (omega arith)
    ∙ get_or-set_same l i a d (omega arith)
get_d_sets_same l i (a ∷ vs) (suc m) d h lt =
    ap (λ (j : ℕ). get_or (sets (set l i a) (suc i) vs) j d) (omega arith)
    ∙ get_d_sets_same (set l i a) (suc i) vs m d (omega (arith, length-set l i a)) (omega arith)
