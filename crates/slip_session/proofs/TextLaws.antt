-- The text of a list, number by number.
--   each_append      the numbers of two lists, one after the other
--   each_more        one number more
--   take-least       a part of a part, within the list
-- Assumes nothing.
use Prim.Native.Nat.{ℕ, ◌+◌, ◌<◌, ◌≤◌, min}
use mathlib.Core.Path.{◌≡◌, refl, sym, ◌∙◌}
use mathlib.Core.List.{List, [], ◌∷◌, ◌++◌, append_assoc, append-nil}
use native.Mathlib.Decide.{dec_le}
use native.Mathlib.Numerals.{add-one}
use native.Mathlib.Omega.{arith}
use lib.ListN.{length, take, get_or, length-take}
use lib.Seq.{take-suc, take-take, take_all, take-length}
use Rattle.text.specs.Ascii.{blank}
use Rattle.text.specs.Numeral.{numeral}
use Rattle.slip_session.specs.Text.{each_after_blank}

pub each_append : (ms ns : List ℕ) → each_after_blank (ms ++ ns) ≡ each_after_blank ms ++ each_after_blank ns
unfolding each_after_blank
each_append [] ns = refl
each_append (m ∷ ms) ns = rw (each_append ms ns, append_assoc (numeral m) (each_after_blank ms) (each_after_blank ns))

pub each_more : (ns : List ℕ) (i : ℕ) → i < length ns → each_after_blank (take (i + 1) ns) ≡ each_after_blank (take i ns) ++ blank ∷ numeral (get_or ns i 0)
unfolding each_after_blank
each_more ns i h = rw (add-one i, take-suc ns i 0 h, each_append (take i ns) (get_or ns i 0 ∷ []), append-nil (numeral (get_or ns i 0)))

-- a part of a part is the shorter one
take_within : (n m : ℕ) (ns : List ℕ) → Dec (n ≤ m) → take n (take m ns) ≡ take (min n m) ns
take_within n m ns (yes h) = let e : min n m ≡ n = omega arith in rw e (take-take n m ns h)
take_within n m ns (no h) =
    let e : min n m ≡ m = omega arith in
    rw e (take_all n (take m ns) (omega (arith, length-take m ns)))

-- and it goes no further than the list
take_listed : (n : ℕ) (ns : List ℕ) → Dec (n ≤ length ns) → take (min n (length ns)) ns ≡ take n ns
take_listed n ns (yes h) = let e : min n (length ns) ≡ n = omega arith in rw e
take_listed n ns (no h) = let e : min n (length ns) ≡ length ns = omega arith in rw (e, take_all n ns (omega arith)) (take-length ns)

pub take-least : (n m : ℕ) (ns : List ℕ) → take (min (min n m) (length ns)) ns ≡ take n (take m ns)
take-least n m ns = take_listed (min n m) ns (dec_le (min n m) (length ns)) ∙ sym (take_within n m ns (dec_le n m))
