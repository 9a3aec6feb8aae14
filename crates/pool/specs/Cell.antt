-- What a cell carries (document 01, "The tree": left, right, number, rank × 2 + kind, and the six box values; document 02, card 6: the parent).
--   grant_at w k         the grant in cell k
--   grant_fields         the fields that carry it, by name
--   words_at w k         what stands in these fields of cell k
--   grant_words g        the words of a grant in these fields
--   cell_of l r g p      the words of a cell with the links l and r and the parent p
--   with_cell w k ws     the pool after ws were stored in cell k
-- Document 01 says nothing of a word rank × 2 + kind above 511, which only a scrambled pool has; here its rank is taken modulo 256.
-- Assumes nothing: these are definitions.
use Rattle.std.specs.Prelude.{ℕ, ◌+◌, ◌*◌, ◌/◌, ◌%◌, List, [], ◌∷◌, ◌++◌, map}
use Rattle.std.proofs.lemmas.List.Edits.{sets}
use Rattle.model.specs.declared.Grant.{Grant}
use Rattle.model.specs.Kind.{kind_number, kind_of}
use Rattle.model.specs.Box.{box_values}
use Rattle.pool.specs.declared.Field.{Field}
use Rattle.pool.specs.declared.Field.TheVariants.{Left, Number, RankKind, StaffFrom, StaffTo, DoorFrom, DoorTo, QuarterFrom, QuarterTo}
use Rattle.pool.specs.Layout.{field_of, place}

unfoldable pub grant_at : List ℕ → ℕ → Grant
grant_at w k =
    record {
      number = field_of w k Number;
      rank = field_of w k RankKind / 2 % 256;
      kind = kind_of (field_of w k RankKind % 2);
      bounds =
          record {
            staff_from = field_of w k StaffFrom;
            staff_to = field_of w k StaffTo;
            door_from = field_of w k DoorFrom;
            door_to = field_of w k DoorTo;
            quarter_from = field_of w k QuarterFrom;
            quarter_to = field_of w k QuarterTo;
          };
    }

abbrev pub grant_fields : List Field
grant_fields = Number ∷ RankKind ∷ StaffFrom ∷ StaffTo ∷ DoorFrom ∷ DoorTo ∷ QuarterFrom ∷ QuarterTo ∷ []

abbrev pub words_at : List ℕ → ℕ → List ℕ
words_at w k = map (field_of w k) grant_fields

abbrev pub grant_words : Grant → List ℕ
grant_words g = g.number ∷ (g.rank * 2 + kind_number g.kind) ∷ box_values g.bounds

abbrev pub cell_of : ℕ → ℕ → Grant → ℕ → List ℕ
cell_of l r g p = l ∷ r ∷ grant_words g ++ (p ∷ [])

unfoldable pub with_cell : List ℕ → ℕ → List ℕ → List ℕ
with_cell w k ws = sets w (place k Left) ws
