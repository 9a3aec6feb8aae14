-- The parents of the cells of a tree, part by part.
--   parent_in q p          the parent of the part q, where that of the whole tree is p
--   parented_part         the cells of a part name their parents
--   parented_with_son      a node with one child anew
--   exchanged_parented    where the cells outside of a part name the parents that they named, and a new part's cells theirs, all of the tree do
--   unchanged_parented    the same in the same words
-- Assumes nothing.
use Prim.Native.Nat.{ℕ}
use mathlib.Core.Path.{◌≡◌, refl, ◌∙◌}
use mathlib.Core.List.Memᴰ
use mathlib.Core.List.{List, ◌∷◌, Memᴰ}
use Rattle.geometry.specs.declared.Side.{Side}
use Rattle.geometry.specs.declared.Side.TheVariants.{Left, Right}
use Rattle.adt.specs.Node.{parent_at}
use Rattle.adt.proofs.Spells.{Tree, cells_of}
use Rattle.adt.proofs.TreeLaws.{child}
use Rattle.adt.proofs.PartLaws.{Part, part_here, part_child}
use Rattle.adt.proofs.ExchangeLaws.{other, with_son, exchanged, outside}
use Rattle.adt.proofs.Parents.{Parented, parented_node, parented_first, parented_child, parented_frame}

unfoldable pub parent_in : {n at m link : ℕ} {t u : Tree} → Part n at t m link u → ℕ → ℕ
parent_in part_here p = p
parent_in (part_child {k = k} s q) p = parent_in q k

pub parented_part : {w : List ℕ} {n at m link p : ℕ} {t u : Tree} (q : Part n at t m link u) → Parented w p t → Parented w (parent_in q p) u
unfolding parent_in
parented_part part_here x = x
parented_part (part_child s q) x = parented_part q (parented_child s x)

pub parented_with_son : {v : List ℕ} {p k : ℕ} (s : Side) (l r x : Tree) → parent_at v k ≡ p → Parented v k x → Parented v k (child (other s) l r)
    → Parented v p (with_son s k l r x)
parented_with_son Left l r x e a b = parented_node e a b
parented_with_son Right l r x e a b = parented_node e b a

pub exchanged_parented : {w v : List ℕ} {n at m link p : ℕ} {t u : Tree} (q : Part n at t m link u) (x : Tree) → Parented w p t
    → ((j : ℕ) → Memᴰ j (outside q) → parent_at v j ≡ parent_at w j) → Parented v (parent_in q p) x → Parented v p (exchanged q x)
unfolding parent_in exchanged outside
exchanged_parented part_here x whole same new = new
exchanged_parented (part_child {k = k} {l = l} {r = r} s q) x whole same new =
    parented_with_son s l r (exchanged q x) (same k (Memᴰ.append_right (outside q) (Memᴰ.head refl)) ∙ parented_first whole)
    (exchanged_parented q x (parented_child s whole) (λ j m. same j (Memᴰ.append_left (k ∷ cells_of (child (other s) l r)) m)) new)
    (parented_frame (λ j m. same j (Memᴰ.append_right (outside q) (Memᴰ.tail m))) (parented_child (other s) whole))

pub unchanged_parented : {w : List ℕ} {n at m link p : ℕ} {t u : Tree} (q : Part n at t m link u) (x : Tree) → Parented w p t → Parented w (parent_in q p) x
    → Parented w p (exchanged q x)
unchanged_parented q x whole new = exchanged_parented q x whole (λ j m. refl) new
