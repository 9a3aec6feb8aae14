-- The ten words that decide leaves for its C caller.
--   decision_words values before    the whole grant and then 0; where there is no grant, as they were
--   out_after answer before         the ten words after decide's answer
--   PacksOut word out before a     the word that is returned, and the ten words, are those of decide's answer
-- Assumes nothing: these are definitions.
use Rattle.std.specs.Prelude.{ℕ, ◌≡◌, List, [], ◌∷◌, ◌++◌}
use Rattle.model.specs.Answer.{Answer, accepted, refused}
use Rattle.packing.specs.Pack.{pack}

abbrev pub decision_words : List ℕ → List ℕ → List ℕ
decision_words [] before = before
decision_words (number ∷ values) before = (number ∷ values) ++ (0 ∷ [])

-- opens and barred, and only these, come with a grant
abbrev pub out_after : Answer → List ℕ → List ℕ
out_after (accepted []) before = before
out_after (accepted (verdict ∷ values)) before = decision_words values before
out_after (refused number values) before = before

pub record PacksOut (word : ℕ) (out before : List ℕ) (answer : Answer) : Type 0 where
  pub answered : word ≡ pack answer
  pub left : out ≡ out_after answer before
