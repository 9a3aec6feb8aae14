-- Tests joined by or: causes of which none holds.
--   or_false_iff     one of two holds not, exactly if neither does
-- Assumes nothing.
use mathlib.Core.Logic.{◌↔◌}
use mathlib.Core.Path.{◌≡◌, refl}
use mathlib.Core.Bool.{Bool, true, false, ◌||◌, true≢false}

pub or_false_iff : (a b : Bool) → ((a || b) ≡ false) ↔ ((a ≡ false) × (b ≡ false))
or_false_iff true b = (λ e. absurd (true≢false e), λ h. absurd (true≢false h.0))
or_false_iff false b = (λ e. (refl, e), λ h. h.1)
