-- The numbers of a slip are values of their fields (document 01: a value too wide for its field prints `bad`), so that every call that a
-- line stands for is one that the book and the words answer alike.
--   Fits o        the call, where there is one, has values that fit
--   line-fits     so has every line's
-- Assumes nothing.
use Prim.Native.Nat.{ℕ, ◌<◌}
use Prim.Native.Char.{code}
use mathlib.Core.Path.{◌≡◌, refl}
use mathlib.Core.Bool.{Bool, true, false, cond}
use mathlib.Core.List.Memᴰ
use mathlib.Core.List.{List, [], ◌∷◌}
use Rattle.std.proofs.Common.{Option, None, Some}
use lib.Dec.{eqb, ltb, lit<}
use lib.ListN.{length, get_or}
use Rattle.model.specs.Call.{Call}
use Rattle.model.specs.Values.{word_values, Below, BoxFits, CallFits}
use Rattle.slip_session.specs.declared.Slip.{Slip}
use Rattle.text.specs.declared.Width.TheVariants.{Word}
use Rattle.text.specs.Width.{values_of}
use Rattle.text.specs.Fields.{fields}
use Rattle.slip_session.specs.Slip.{grant_widths, revoke_widths, box_widths, decide_widths, box_at, grant_slip, revoke_slip, list_slip, decide_slip, count_slip}
use Rattle.slip_session.specs.Slip.{slip_by, letter_slip, fields_slip, parse_line}
use Rattle.text.specs.Numbers.{numbers}
use Rattle.slip_session.proofs.SlipLaws.{numbers_fit}
use Rattle.slip_session.specs.Longest.{longest, slip_of}
use Rattle.slip_session.specs.SlipCall.{call_of}

abbrev pub Fits : Option Call → Type 0
Fits None = Unit {0}
Fits (Some call) = CallFits call

below_none : Below word_values []
below_none x m = absurd (Memᴰ.not-nil m)

below_more : {x : ℕ} {xs : List ℕ} → x < word_values → Below word_values xs → Below word_values (x ∷ xs)
below_more h rest y (Memᴰ.head p) = rw p h
below_more h rest y (Memᴰ.tail m) = rest y m

module _ (lent : List ℕ) where
  abbrev SlipFits : Option Slip → Type 0
  SlipFits s = Fits (call_of s lent)

  -- of one of two slips
  fits_either : (b : Bool) (s t : Option Slip) → SlipFits s → SlipFits t → SlipFits (cond b s t)
  fits_either true s t f g = f
  fits_either false s t f g = g

  -- of the call that values make, if any values make one that fits
  fits_by : (call : List ℕ → Slip) (o : Option (List ℕ)) → ((vs : List ℕ) → SlipFits (Some (call vs))) → SlipFits (slip_by call o)
  fits_by call None each = tt
  fits_by call (Some vs) each = each vs

  module _ (fs : List (List ℕ)) where
    grant-fits : SlipFits (slip_by grant_slip (numbers grant_widths fs))
    grant-fits = go (numbers grant_widths fs) refl
      where
        go : (o : Option (List ℕ)) → numbers grant_widths fs ≡ o → SlipFits (slip_by grant_slip o)
        go None e = tt
        go (Some vs) e = record { number = fit 0 (lit< tt); rank = fit 1 (lit< tt); bounds = bounds }
          where
            fit : (i : ℕ) → i < length grant_widths → get_or vs i 0 < values_of (get_or grant_widths i Word)
            fit i h = numbers_fit grant_widths fs vs i Word e h

            bounds : BoxFits (box_at 3 vs)
            bounds =
                below_more (fit 3 (lit< tt))
                (below_more (fit 4 (lit< tt))
                (below_more (fit 5 (lit< tt))
                (below_more (fit 6 (lit< tt)) (below_more (fit 7 (lit< tt)) (below_more (fit 8 (lit< tt)) below_none)))))

    -- of the calls but grant nothing is asked
    letter_fits : (b : ℕ) → SlipFits (letter_slip b fs)
    unfolding letter_slip
    letter_fits b =
        fits_either (eqb b (code "G")) _ _ grant-fits
        (fits_either (eqb b (code "R")) _ _ (fits_by revoke_slip (numbers revoke_widths fs) (λ vs. tt))
        (fits_either (eqb b (code "L")) _ _ (fits_by list_slip (numbers box_widths fs) (λ vs. tt))
        (fits_either (eqb b (code "D")) _ _ (fits_by decide_slip (numbers decide_widths fs) (λ vs. tt))
        (fits_either (eqb b (code "C")) _ None (fits_by count_slip (numbers [] fs) (λ vs. tt)) tt))))

  fields_fit : (fs : List (List ℕ)) → SlipFits (fields_slip fs)
  unfolding fields_slip
  fields_fit [] = tt
  fields_fit ([] ∷ fs) = tt
  fields_fit ((b ∷ []) ∷ fs) = letter_fits fs b
  fields_fit ((b ∷ (c ∷ bs)) ∷ fs) = tt

  pub line-fits : (line : List ℕ) → Fits (call_of (slip_of line) lent)
  unfolding parse_line
  line-fits line = fits_either (ltb longest (length line)) None (parse_line line) tt (fields_fit (fields line))
