-- The words of a live cell are those of its grant (Carries of specs/Reach), after an insertion and after a removal.
--   carries_same         where the words are the same
--   carries-inserted, carries-inserted_other     the new cell carries the new grant, and each other cell what it carried
--   carries-removed      each cell left carries what it carried
-- Assumes nothing.
use Prim.Native.Nat.{ℕ}
use mathlib.Core.Path.{refl, ◌∙◌}
use mathlib.Core.List.Memᴰ
use mathlib.Core.List.{List, ◌∷◌, Memᴰ}
use Rattle.model.specs.declared.Grant.{Grant}
use Rattle.pool.specs.Cell.{cell_of, with_cell}
use Rattle.pool.proofs.CellLaws.{SameGrantWords}
use Rattle.pool.proofs.CellWordsLaws.{words_at-same, words_at-with_cell}
use Rattle.adt.specs.Reach.{Carries}
use Rattle.adt.proofs.Spells.{Tree, cells_of}
use Rattle.adt.proofs.Linked.{Linked, linked_upto}
use Rattle.adt.proofs.InsertLaws.{Inserted}
use Rattle.adt.proofs.RemoveLaws.{Removed}

pub carries_same : (w v : List ℕ) (k : ℕ) (g : Grant) → SameGrantWords w v k → Carries w k g → Carries v k g
carries_same w v k g same e = words_at-same w v k same ∙ e

module _ {w v : List ℕ} {c : ℕ} {t : Tree} {k : ℕ} {ks : List ℕ} {g : Grant} (h : Linked w c t (k ∷ ks)) (i : Inserted w v c t k ks g) where
  pub carries-inserted : Carries v k g
  carries-inserted =
      let b = linked_upto h k (Memᴰ.append_right (cells_of t) (Memᴰ.head refl)) in
      words_at-same (with_cell w k (cell_of 0 0 g i.parent)) v k i.grant-words ∙ words_at-with_cell w c k 0 0 g i.parent b.0 b.1 h.long

  pub carries-inserted_other : (j : ℕ) (f : Grant) → Memᴰ j (cells_of t) → Carries w j f → Carries v j f
  carries-inserted_other j f m = carries_same w v j f (i.other_words j m)

module _ {w v : List ℕ} {c : ℕ} {t : Tree} {k : ℕ} {ks : List ℕ} (r : Removed w v c t k ks) where
  pub carries-removed : (j : ℕ) (f : Grant) → Memᴰ j (cells_of r.tree) → Carries w j f → Carries v j f
  carries-removed j f m = carries_same w v j f (r.other_words j m)
